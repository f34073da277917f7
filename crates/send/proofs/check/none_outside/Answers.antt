-- `send::check::none_outside` meets its contract: nothing found and the rest within is the whole within.
-- Assumes nothing.
use Rattle.std.proofs.Common.{sym, ◌∙◌, arith}
use Rattle.request.proofs.Checking.{look_flip, look_done}
use Rattle.send.proofs.check.none_outside.Goals as goal

pub loop-x-preserved : goal.loop-x-preserved
loop-x-preserved c =
    let a = c.args in
    let v = c.loop-x in
    look_flip a.low a.high v.found _ a.samples.now v.x-index (omega arith) c.outside-found.ensures ∙ v.invariant

pub returns : goal.returns
returns c =
    let a = c.args in
    let v = c.loop-x in
    sym (look_done a.low a.high v.found a.samples.now v.x-index (omega arith)) ∙ v.invariant
