-- `finding::seek::seek_on` meets its contract.
-- Assumes nothing.
use mathlib.Core.Path.{◌≡◌}
use Prim.Native.Nat.{◌+◌, ◌-◌, ◌≤◌}
use lib.ListN.{length}
use Rattle.span.specs.Format.{shape_of, samples_in, symbols_in}
use Rattle.recording.specs.Inside.Look.{Clear}
use Rattle.finding.proofs.Seeking.{Sofar}
use Rattle.finding.proofs.seek.seek_on.Given as goal

abbrev pub invariant-loop-i : goal.invariant-loop-i
invariant-loop-i l =
    Sofar l.r.format l.r.symbols.now l.from l.i
    × (l.i ≤ length l.r.symbols.now)
    × (l.i + 2 ≤ l.clear)
    × (l.clear ≤ l.i + symbols_in (shape_of l.r.format))
    × Clear l.r.symbols.now (l.i + 2) l.clear
    × (length l.rows ≡ samples_in (shape_of l.r.format))

abbrev pub decreases-loop-i : goal.decreases-loop-i
decreases-loop-i l = length l.r.symbols.now - l.i
