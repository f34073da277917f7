-- `row_crc::sums::sums_of_rows` meets its contract.
-- Assumes nothing.
use Rattle.row_crc.proofs.Rows.{two_rows, four_rows, no_rows}
use Rattle.row_crc.proofs.sums.sums_of_rows.Goals as goal

pub returns-then-rows-eq3840 : goal.returns-then-rows-eq3840
returns-then-rows-eq3840 c = two_rows c.args.rows.now c.if-rows-eq3840.true c.crc_of_two-low.ensures

pub returns-then-rows-eq7680 : goal.returns-then-rows-eq7680
returns-then-rows-eq7680 c = four_rows c.args.rows.now c.if-rows-eq3840.false c.if-rows-eq7680.true c.crc_of_two-low-then-rows-eq7680.ensures c.crc_of_two-high.ensures

pub returns : goal.returns
returns c = no_rows c.args.rows.now c.if-rows-eq3840.false c.if-rows-eq7680.false
