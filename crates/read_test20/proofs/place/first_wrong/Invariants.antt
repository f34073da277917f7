-- `read_test20::place::first_wrong` meets its contract: test 20 holds at every symbol before i, and the bit is that of the disparity there.
-- Assumes nothing.
use Rattle.read_test20.specs.Inside.Run.{ScanInv}
use Rattle.read_test20.proofs.place.first_wrong.Given as goal

abbrev pub invariant-loop-i : goal.invariant-loop-i
invariant-loop-i l = ScanInv l.p l.symbols l.i l.m
