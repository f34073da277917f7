-- `encoder::tables::disparity_at` meets its contract: the test says which case of the definition holds.
-- Assumes nothing.
use borrow.Author.Tests.{ne_eqb}
use Rattle.encoder.specs.Inside.Tables.{of_offset}
use Rattle.encoder.proofs.tables.disparity_at.Goals as goal

pub returns-then-offset-eq0 : goal.returns-then-offset-eq0
unfolding of_offset
returns-then-offset-eq0 c = rw c.if-offset-eq0.true

pub returns : goal.returns
unfolding of_offset
returns c = simp (ne_eqb _ _ c.if-offset-eq0.false)
