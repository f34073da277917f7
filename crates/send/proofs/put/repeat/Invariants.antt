-- `send::put::repeat` meets its contract: up to place i each symbol is the one 96 before it.
-- Assumes nothing.
use Rattle.std.proofs.Common.{◌≡◌, ◌-◌, ◌≤◌}
use Rattle.send.specs.Inside.Put.{repeated}
use Rattle.send.proofs.put.repeat.Given as goal

abbrev pub invariant-loop-i : goal.invariant-loop-i
invariant-loop-i l = (l.i - l.from ≤ l.to - l.from) × (l.out ≡ repeated (l.i - l.from) l.from l.initial.out)
