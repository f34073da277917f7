-- `list_spans::list::put_line` meets its contract: four texts put one after the other, each of which fits.
-- Assumes nothing.
use native.Mathlib.Omega.{arith}
use Rattle.list_spans.proofs.Lines.{line_put}
use Rattle.list_spans.proofs.list.put_line.Goals as goal

pub returns : goal.returns
returns c = let a = c.args in
    let told = line_put a.place a.number (omega (arith, c.ranges)) (omega (arith, c.ranges)) a.out.now a.at c.requires _ _ _ _ _ _
    (c.put_decimal-a.ensures.end, c.put_decimal-a.ensures.written) (c.put_text-b.ensures.end, c.put_text-b.ensures.written) (c.put_decimal-c.ensures.end, c.put_decimal-c.ensures.written) (c.put_text.ensures.end, c.put_text.ensures.written) in record { end = told.0; most = told.1.0; written = told.1.1 }
