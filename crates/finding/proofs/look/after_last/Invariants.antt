-- `finding::look::after_last` meets its contract.
-- Assumes nothing.
use Prim.Native.Nat.{◌*◌, ◌-◌}
use Rattle.recording.specs.Inside.Look.{Clear}
use Rattle.finding.proofs.look.after_last.Given as goal

abbrev pub invariant-loop-piece : goal.invariant-loop-piece
invariant-loop-piece l = Clear l.symbols (l.to - l.piece * 64) l.to
