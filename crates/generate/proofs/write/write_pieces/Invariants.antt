-- `generate::write::write_pieces` meets its contract: there is a span less to send after each turn, what is left may be sent, and the
-- disparity after all of it stays the same.
-- Assumes nothing.
use mathlib.Core.Path.{◌≡◌}
use lib.ListN.{length}
use Rattle.generate.specs.Pieces.{Ready, after_left}
use Rattle.generate.proofs.write.write_pieces.Given as goal

abbrev pub invariant-loop-s : goal.invariant-loop-s
invariant-loop-s g l =
    Ready l.s
    × (l.s.format ≡ l.initial.s.format)
    × (length l.samples ≡ length l.initial.samples)
    × (length l.symbols ≡ length l.initial.symbols)
    × (length l.out ≡ length l.initial.out)
    × (after_left l.s ≡ after_left l.initial.s)

abbrev pub decreases-loop-s : goal.decreases-loop-s
decreases-loop-s g l = l.s.count
