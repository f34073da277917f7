-- `crate::summary::put_lost` meets its contract: three texts put one after the other, each of which fits.
-- Assumes nothing.
use Rattle.reception.proofs.Items.{lost_room, lost_put}
use Rattle.reception.proofs.summary.put_lost.Goals as goal

pub put_carried-requires : goal.put_carried-requires
put_carried-requires c =
    let a = c.args in
    lost_room a.label.now a.n a.out.now a.at c.requires.label_len_bound c.requires.n_bound c.requires.at_in_bounds _ _ _ _
    (c.put_text-a.ensures.end, c.put_text-a.ensures.written) (c.put_decimal-b.ensures.end, c.put_decimal-b.ensures.written)

pub returns : goal.returns
returns c = let a = c.args in
    let told = lost_put a.label.now a.n a.out.now a.at c.requires.label_len_bound c.requires.n_bound c.requires.at_in_bounds _ _ _ _
    c.stream_line.ensures (c.put_text-a.ensures.end, c.put_text-a.ensures.written) (c.put_decimal-b.ensures.end, c.put_decimal-b.ensures.written) (c.put_carried.ensures.end, (c.put_carried.ensures.most, c.put_carried.ensures.written)) in record { end = told.0; most = told.1.0; written = told.1.1 }
