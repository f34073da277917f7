-- `send::put::put_same` meets its contract: the word stands in each place.
-- Assumes nothing.
use Rattle.std.proofs.Common.{slice_index, [], ◌∷◌, refl, arith}
use Rattle.send.proofs.Putting.{made, renamed, same_four}
use Rattle.send.proofs.put.put_same.Goals as goal

pub returns : goal.returns
returns c =
    let a = c.args in
    let p = renamed (same_four a.pairs (omega arith) (λ _. a.w) (slice_index (a.w ∷ a.w ∷ a.w ∷ a.w ∷ [])) refl refl refl refl) (made (c.put_four.ensures.offset, c.put_four.ensures.out)) in
    record { offset = p.offset; out = p.out }
