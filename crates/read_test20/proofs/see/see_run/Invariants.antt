-- `read_test20::see::see_run` meets its contract: the symbols before i have been seen.
-- Assumes nothing.
use Rattle.read_test20.specs.Inside.See.{GatherInv}
use Rattle.read_test20.proofs.see.see_run.Given as goal

abbrev pub invariant-loop-i : goal.invariant-loop-i
invariant-loop-i l = GatherInv l.symbols l.from l.i l.k.good l.k.flips
