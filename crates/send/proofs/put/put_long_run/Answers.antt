-- `send::put::put_long_run` meets its contract: what is repeated is the run.
-- Assumes nothing.
use Rattle.std.proofs.Common.{◌∙◌}
use Rattle.send.proofs.Runs.{repeated_run}
use Rattle.send.proofs.put.put_long_run.Goals as goal

pub returns : goal.returns
returns c =
    let a = c.args in
    let first = c.put_run.ensures in
    c.repeat.ensures
    ∙ repeated_run a.d a.w a.out.now a.at c.requires.keeps_disparity a.pairs c.requires.le_pairs c.requires.pairs_in_bounds first
