-- `crate::received::nearest_vh` meets its contract.
-- Assumes nothing.
use Rattle.word.proofs.Near.{word_near}
use native.Mathlib.Omega.{arith}
use Prim.Native.Nat.{◌%◌, ◌<◌}
use Rattle.word.proofs.received.nearest_vh.Goals as goal

pub returns-in-Ok : goal.returns-in-Ok
returns-in-Ok c =
    let w = c.args.w % 4096 in
    let h : w < 4096 = omega arith in
    word_near w h c.in-Ok.r (rw c.in-Ok.is at c.repair_timing_word.ensures)
