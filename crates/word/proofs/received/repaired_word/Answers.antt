-- `crate::received::repaired_word` meets its contract.
-- Assumes nothing.
use mathlib.Core.Path.{◌∙◌}
use Prim.Native.Nat.{◌%◌}
use Rattle.word.proofs.Near.{repaired_told}
use Rattle.word.proofs.received.repaired_word.Goals as goal

pub returns : goal.returns
returns c = c.timing_word.ensures ∙ repaired_told (c.args.w % 4096) _ c.nearest_vh.ensures c.unwrap_or-vh.ensures
