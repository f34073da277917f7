-- `crate::summary::put_which` meets its contract: two lines, one after the other.
-- Assumes nothing.
use Rattle.reception.proofs.Items.{which_put}
use Rattle.reception.proofs.summary.put_which.Goals as goal

pub returns : goal.returns
returns c = let a = c.args in
    let told = which_put a.heard.now a.out.now a.at _ _ _ _ c.first_lost.ensures.value
    c.last_lost.ensures.value (c.put_lost-a.ensures.end, (c.put_lost-a.ensures.most, c.put_lost-a.ensures.written)) (c.put_lost.ensures.end, (c.put_lost.ensures.most, c.put_lost.ensures.written)) in record { end = told.0; most = told.1.0; written = told.1.1 }
