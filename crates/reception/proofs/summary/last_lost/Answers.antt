-- `crate::summary::last_lost` meets its contract: the search from the end finds the last line that is lost.
-- Assumes nothing.
use Rattle.std.proofs.Common.{arith, rules}
use Rattle.reception.proofs.Counting.{FoundLast, is_last}
use Rattle.reception.proofs.summary.last_lost.Goals as goal

pub returns-clause-value : goal.returns-clause-value
returns-clause-value c =
    let found : FoundLast c.args.heard.now c.rposition.result = search rules in
    omega (arith, c.unwrap_or.ensures, is_last c.args.heard.now c.rposition.result found)
