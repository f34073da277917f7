-- Where the words of all streams end.
-- Assumes nothing.
use Prim.Native.Nat.{ℕ, ◌*◌, ◌≤◌}
use native.Mathlib.Nat.{mul-le-mul_left}
use native.Mathlib.Omega.{arith}
use Rattle.span.specs.declared.format.Shape.{Shape}
use Rattle.span.specs.Format.{streams, pairs_in}
use Rattle.span.specs.Layout.{ancillary_start}

module _ (p : Shape) where
  pub within_window : {a : ℕ} → a ≤ ancillary_start → streams p * a ≤ 2 * pairs_in p
  within_window {a} h = let m : streams p * a ≤ streams p * ancillary_start = mul-le-mul_left (streams p) h in omega arith
