-- `word::received::wrong_mask` meets its contract.
-- Assumes nothing.
use mathlib.Core.Path.{◌≡◌, ap, ◌∙◌}
use Prim.Native.Nat.{ℕ, ◌%◌}
use native.Mathlib.Omega.{arith}
use Rattle.ground.specs.Xor.{◌⊕◌}
use Rattle.word.specs.Received.{repaired}
use Rattle.word.proofs.received.wrong_mask.Goals as goal

pub returns : goal.returns
unfolding ◌⊕◌
returns c =
    let w = c.args.w % 4096 in
    let same : w % 4096 ≡ w = omega arith in
    ap (λ (x : ℕ). w ⊕ x) (c.repaired_word.ensures ∙ ap (λ (x : ℕ). repaired x) same)
