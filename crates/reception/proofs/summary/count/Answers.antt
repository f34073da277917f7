-- `crate::summary::count` meets its contract: those that pass are those delivered.
-- Assumes nothing.
use Rattle.std.proofs.Common.{◌≡◌, ◌∙◌, not, eqb, count_by, rules}
use Rattle.reception.proofs.Counting.{all_counted}
use Rattle.reception.proofs.summary.count.Goals as goal

pub returns-clause-value : goal.returns-clause-value
returns-clause-value c =
    let passed : c.count.result ≡ count_by (λ h. not (eqb h 0)) c.args.heard.now = search rules in
    passed ∙ all_counted c.args.heard.now
