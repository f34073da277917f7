-- `crate::summary::put_all` meets its contract: three lines one after the other, and two more where lines are lost.
-- Assumes nothing.
use mathlib.Core.Path.{refl}
use Rattle.reception.proofs.Items.{none_lost, some_lost}
use Rattle.reception.proofs.summary.put_all.Goals as goal

pub returns-then-lost-eq0 : goal.returns-then-lost-eq0
returns-then-lost-eq0 c = let a = c.args in
    let told = none_lost a.heard.now a.out.now _ _ c.count-n.ensures.value refl c.requires.in_bounds _ _ _ _ _ _ (c.put_item-a.ensures.end, (c.put_item-a.ensures.most, c.put_item-a.ensures.written)) (c.put_item-b.ensures.end, (c.put_item-b.ensures.most, c.put_item-b.ensures.written))
    (c.put_item-c.ensures.end, (c.put_item-c.ensures.most, c.put_item-c.ensures.written)) c.if-lost-eq0.true in record { counts = told.0; end = told.1.0; written = told.1.1 }

pub returns : goal.returns
returns c = let a = c.args in
    let told = some_lost a.heard.now a.out.now _ _ c.count-n.ensures.value refl c.requires.in_bounds _ _ _ _ _ _ (c.put_item-a.ensures.end, (c.put_item-a.ensures.most, c.put_item-a.ensures.written)) (c.put_item-b.ensures.end, (c.put_item-b.ensures.most, c.put_item-b.ensures.written))
    (c.put_item-c.ensures.end, (c.put_item-c.ensures.most, c.put_item-c.ensures.written)) c.if-lost-eq0.false (c.put_which.ensures.end, (c.put_which.ensures.most, c.put_which.ensures.written)) in record { counts = told.0; end = told.1.0; written = told.1.1 }
