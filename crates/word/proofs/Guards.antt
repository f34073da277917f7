-- The guard bit changes no other bit.
-- Assumes nothing.
use mathlib.Core.Path.{◌≡◌}
use Prim.Native.Nat.{ℕ, ◌-◌, ◌/◌, ◌%◌, ◌<◌}
use native.Mathlib.Omega.{arith}
use Rattle.word.specs.Word.{guarded}

module _ (w : ℕ) where
  pub guard_kept : guarded w % 2048 ≡ w % 2048
  unfolding guarded
  guard_kept = omega arith

  guard_ten : guarded w / 1024 % 2 ≡ w / 1024 % 2
  guard_ten = omega (arith, guard_kept)

  guard_eleven : guarded w / 2048 ≡ 1 - w / 1024 % 2
  unfolding guarded
  guard_eleven = omega arith

  pub guard_opposite : guarded w / 2048 ≡ 1 - guarded w / 1024 % 2
  guard_opposite = omega (arith, guard_ten, guard_eleven)

  pub guard_below : guarded w < 4096
  unfolding guarded
  guard_below = omega arith
