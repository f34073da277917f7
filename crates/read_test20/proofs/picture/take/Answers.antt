-- `read_test20::picture::take` meets its contract: four words more have been taken for each turn.
-- Assumes nothing.
use mathlib.Core.Path.{◌≡◌}
use Prim.Native.Nat.{◌+◌, ◌*◌}
use native.Mathlib.Omega.{arith}
use Rattle.read_test20.proofs.picture.take.Goals as goal

pub loop-turn-preserved : goal.loop-turn-preserved
loop-turn-preserved g c = λ old none.
    let at : c.args.from + 4 * c.loop-turn.turn + 4 ≡ c.args.from + 4 * (c.loop-turn.turn + 1) = omega arith in
    rw at at (c.step-p.ensures.got old (c.loop-turn.invariant old none))

pub returns-clause-got : goal.returns-clause-got
returns-clause-got g c = λ old none.
    let end : c.args.from + 4 * c.loop-turn.turn ≡ c.args.from + 120 = omega arith in
    rw end at (c.loop-turn.invariant old none)
