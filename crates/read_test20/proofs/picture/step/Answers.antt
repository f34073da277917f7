-- `read_test20::picture::step` meets its contract: what is seen and put is what four words more give.
-- Assumes nothing.
use mathlib.Core.Path.{◌≡◌}
use Prim.Native.Nat.{◌+◌}
use native.Mathlib.Omega.{arith}
use Rattle.read_test20.proofs.picture.step.Goals as goal

pub returns-clause-got : goal.returns-clause-got
returns-clause-got g c = λ old none.
    let w = c.args.symbols.now in
    let j = c.args.j in
    let b = rw c.passed.ensures at c.see-b.ensures in
    let third = rw c.passed-2.ensures at c.see-c.ensures in
    let d = rw c.passed-3.ensures at c.see-d.ensures in
    let two : j + 1 + 1 ≡ j + 2 = omega arith in
    let three : j + 2 + 1 ≡ j + 3 = omega arith in
    let four : j + 3 + 1 ≡ j + 4 = omega arith in
    let first = c.put.ensures.got w old c.args.v c.see-a.ensures none in
    let second = rw two at (c.put-2.ensures.got w old _ b first) in
    let more = rw three at (c.put-3.ensures.got w old _ third second) in
    rw c.passed-4.ensures (rw four at (c.put-4.ensures.got w old _ d more))
