use mathlib.Core.Path.{sym}
use borrow.Author.Tests.{le-leb}
use Rattle.ground.specs.Range.{within}
use Rattle.ground.proofs.Ranges.{is_below}
use Rattle.ground.proofs.range.within.Goals as goal

pub returns-then-n-low : goal.returns-then-n-low
returns-then-n-low c = sym (is_below c.args.low c.args.high c.args.n c.if-n-low.true)

pub returns : goal.returns
unfolding within
returns c = simp (le-leb c.args.low c.args.n c.if-n-low.false)
