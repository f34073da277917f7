-- `crate::summary::put_lines` meets its contract: five texts put one after the other, each of which fits.
-- Assumes nothing.
use native.Mathlib.Omega.{arith}
use Rattle.reception.proofs.Items.{lines_put}
use Rattle.reception.proofs.summary.put_lines.Goals as goal

pub returns : goal.returns
returns c = let a = c.args in
    let told = lines_put a.odd.0 a.even.0 (omega arith) (omega arith) a.out.now a.at c.requires _ _ _ _ _ _ _ _ _ _
    c.number_of.ensures c.number_of-2.ensures (c.put_text-a.ensures.end, c.put_text-a.ensures.written) (c.put_decimal-b.ensures.end, c.put_decimal-b.ensures.written) (c.put_text-c.ensures.end, c.put_text-c.ensures.written)
    (c.put_decimal-d.ensures.end, c.put_decimal-d.ensures.written) (c.put_text.ensures.end, c.put_text.ensures.written) in record { end = told.0; most = told.1.0; written = told.1.1 }
