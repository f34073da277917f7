-- `crate::summary::first_lost` meets its contract: the search finds the first line that is lost.
-- Assumes nothing.
use Rattle.std.proofs.Common.{arith, rules}
use Rattle.reception.proofs.Counting.{Found, is_first}
use Rattle.reception.proofs.summary.first_lost.Goals as goal

pub returns-clause-value : goal.returns-clause-value
returns-clause-value c =
    let found : Found c.args.heard.now c.position.result = search rules in
    omega (arith, c.unwrap_or.ensures, is_first c.args.heard.now c.position.result found)
