-- Which row a line carries, in the paper's own numbers: every number gives one of the two.
-- Assumes nothing.
use mathlib.Core.Path.{◌≡◌}
use mathlib.Core.Bool.{true, false}
use Prim.Native.Nat.{ℕ, ◌≤◌}
use Rattle.ground.proofs.Ranges.{is_within, not_within}
use Rattle.line.specs.Stream.{is_active}
use Rattle.picture.specs.Choice.{row_on}

module _ {A : Type 0} (n : ℕ) (picture blanking : A) where
  pub picture_on : 42 ≤ n → n ≤ 1121 → row_on n picture blanking ≡ picture
  picture_on p q = let t : is_active n ≡ true = is_within 42 1121 n p q in simp t

  pub blanking_on : (42 ≤ n → n ≤ 1121 → ⊥) → row_on n picture blanking ≡ blanking
  blanking_on x = let t : is_active n ≡ false = not_within 42 1121 n x in simp t
