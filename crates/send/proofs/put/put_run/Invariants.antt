-- `send::put::put_run` meets its contract: after i iterations the first i pairs stand in the buffer.
-- Assumes nothing.
use Rattle.std.proofs.Common.{◌≡◌}
use Rattle.send.proofs.Runs.{again}
use Rattle.send.proofs.put.put_run.Given as goal

abbrev pub invariant-loop-i : goal.invariant-loop-i
invariant-loop-i l = l.out ≡ again l.d l.w l.initial.out l.at l.i
