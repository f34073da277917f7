-- `finding::look::after_last_in` meets its contract.
-- Assumes nothing.
use Rattle.recording.specs.Inside.Look.{Clear}
use Rattle.finding.proofs.look.after_last_in.Given as goal

abbrev pub invariant-loop-k : goal.invariant-loop-k
invariant-loop-k l = Clear l.symbols l.k l.to
