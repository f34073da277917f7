-- `packing::bytes::unpack` meets its contract: the words worked out are the inverse.
-- Assumes nothing.
use mathlib.Core.Path.{refl, sym}
use Rattle.packing.proofs.Packing.{words_together}
use borrow.Author.Rules.{rules}
use Rattle.packing.proofs.bytes.unpack.Goals as goal

pub returns : goal.returns
returns c =
    let t = c.args.t in
    sym (words_together t (record { first_below = search rules; second_below = search rules; third_below = search rules }) refl)
