-- `finding::look::none_is_comma` meets its contract: nothing was found exactly if none before is K28.5.
-- Assumes nothing.
use mathlib.Core.Path.{◌≡◌}
use Rattle.recording.specs.Inside.Look.{Clear}
use Rattle.finding.proofs.look.none_is_comma.Given as goal

abbrev pub invariant-loop-k : goal.invariant-loop-k
invariant-loop-k l =
    record {
      sound : l.found ≡ 0 → Clear l.symbols l.from l.k;
      kept : Clear l.symbols l.from l.k → l.found ≡ 0;
    }
