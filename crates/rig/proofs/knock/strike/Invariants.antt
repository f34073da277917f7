-- `rig::knock::strike` meets its contract: the symbols before place i are done.
-- Assumes nothing.
use mathlib.Core.Path.{◌≡◌}
use Prim.Native.Nat.{◌≤◌}
use lib.ListN.{length}
use Rattle.rig.proofs.Knocking.{done_to}
use Rattle.rig.proofs.knock.strike.Given as goal

abbrev pub invariant-loop-i : goal.invariant-loop-i
invariant-loop-i l = (l.i ≤ length l.initial.symbols) × (length l.symbols ≡ length l.initial.symbols) × (l.symbols ≡ done_to l.k l.from l.initial.symbols l.i)
