-- `read_test21_26::holds::first_wrong` meets its contract: before k the test holds.
-- Assumes nothing.
use Rattle.read_test21_26.specs.Inside.Holds.{holds_at}
use Rattle.read_test21_26.proofs.Searching.{Held}
use Rattle.read_test21_26.proofs.holds.first_wrong.Given as goal

abbrev pub invariant-loop-k : goal.invariant-loop-k
invariant-loop-k l = Held (holds_at l.test l.x.format l.x.window.shape l.x.window.symbols.now l.x.sums) l.from l.k
