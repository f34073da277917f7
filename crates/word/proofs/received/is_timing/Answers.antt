-- `crate::received::is_timing` meets its contract.
-- Assumes nothing.
use Prim.Native.Nat.{◌%◌, ◌≤◌}
use native.Mathlib.Omega.{arith}
use Rattle.word.proofs.Near.{no_timing}
use Rattle.word.proofs.received.is_timing.Goals as goal

pub returns-in_default : goal.returns-in_default
returns-in_default c =
    let a = c.args in
    let h : 3 ≤ a.j = omega arith in
    no_timing (a.w % 4096) a.h a.j h c.in_default.ensures
