-- `read_test21_26::holds::first_wrong` meets its contract: the test has held from the first place on.
-- Assumes nothing.
use mathlib.Core.Path.{◌≡◌, sym, ◌∙◌}
use native.Mathlib.Omega.{arith}
use Rattle.read_test21_26.specs.Inside.Holds.{holds_at}
use Rattle.read_test21_26.proofs.Searching.{stops, ends}
use Rattle.read_test21_26.proofs.holds.first_wrong.Goals as goal

pub returns-then-not-holds : goal.returns-then-not-holds
returns-then-not-holds c =
    let a = c.args in
    let v = c.loop-k in
    sym
    (stops (holds_at a.test a.x.format a.x.window.shape a.x.window.symbols.now a.x.sums) a.to v.invariant (omega arith)
    (sym c.holds.ensures ∙ c.if-not-holds.true))

pub returns : goal.returns
returns c =
    let a = c.args in
    let v = c.loop-k in
    let end : v.k ≡ a.to = omega (arith, c.requires.from_le_to) in
    sym (ends (holds_at a.test a.x.format a.x.window.shape a.x.window.symbols.now a.x.sums) (rw end at v.invariant))
