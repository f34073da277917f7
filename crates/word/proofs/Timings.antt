-- A timing word is a word, and V and H are told from it.
-- Assumes nothing.
use mathlib.Core.Path.{◌≡◌, refl}
use mathlib.Core.Bool.{Bool, true, false}
use Prim.Native.Nat.{◌/◌, ◌%◌, ◌^◌, ◌<◌}
use native.Mathlib.Omega.{arith}
use Rattle.word.specs.Timing.{timing}
use Rattle.ground.specs.Bit.{bit}

pub v_told : (v h : Bool) → timing v h / 2 ^ 9 % 2 ≡ bit v
unfolding timing
v_told false false = refl
v_told false true = refl
v_told true false = refl
v_told true true = refl

pub h_told : (v h : Bool) → timing v h / 2 ^ 8 % 2 ≡ bit h
unfolding timing
h_told false false = refl
h_told false true = refl
h_told true false = refl
h_told true true = refl

pub timing_below : (v h : Bool) → timing v h < 4096
unfolding timing
timing_below false false = omega arith
timing_below false true = omega arith
timing_below true false = omega arith
timing_below true true = omega arith
