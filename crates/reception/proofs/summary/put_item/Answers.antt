-- `crate::summary::put_item` meets its contract: three texts put one after the other, each of which fits.
-- Assumes nothing.
use Rattle.reception.proofs.Items.{item_put}
use Rattle.reception.proofs.summary.put_item.Goals as goal

pub returns : goal.returns
returns c = let a = c.args in
    let told = item_put a.label.now a.n a.out.now a.at c.requires.label_len_bound c.requires.n_bound c.requires.at_in_bounds _ _ _ _ (c.put_text-a.ensures.end, c.put_text-a.ensures.written)
    (c.put_decimal-b.ensures.end, c.put_decimal-b.ensures.written) (c.put_text.ensures.end, c.put_text.ensures.written) in record { end = told.0; most = told.1.0; written = told.1.1 }
