-- `decoder::table::entry_of` meets its contract: a lent table's entry is the symbol's.
-- Assumes nothing.
use mathlib.Core.Path.{◌∙◌, ap}
use mathlib.Core.List.{List}
use Prim.Native.Nat.{ℕ}
use Rattle.decoder.specs.Inside.Decoder.{entry_in}
use Rattle.decoder.proofs.Reading.{entry_in_lem}
use Rattle.decoder.proofs.table.entry_of.Goals as goal

pub returns : goal.returns
returns c =
    let s = c.args.s in
    c.entry.ensures ∙ ap (λ (t : List ℕ). entry_in t s) c.decoding_table-t.ensures ∙ entry_in_lem s
