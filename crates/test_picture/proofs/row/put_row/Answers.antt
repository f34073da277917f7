-- `test_picture::row::put_row` meets its contract: the line and the length say which answer it is.
-- Assumes nothing.
use mathlib.Core.Path.{sym, ◌∙◌}
use native.Mathlib.Omega.{arith}
use Rattle.ground.proofs.Answers.{when_given}
use Rattle.ground.proofs.Ranges.{from_low, to_high}
use Rattle.test_picture.proofs.Puttings.{puts_row}
use Rattle.test_picture.proofs.Rows.{row_of_codes}
use Rattle.test_picture.proofs.row.put_row.Goals as goal

pub returns : goal.returns
returns c =
    let a = c.args in
    let t = sym c.within.ensures ∙ c.if-not-within.false in
    let n = c.number_of.ensures in
    let good =
    puts_row a.line.0 a.row.now (omega (arith, n, from_low _ _ _ t)) (omega (arith, n, to_high _ _ _ t)) (omega arith) in
    record { answer = sym good; row = c.put_codes.ensures ∙ row_of_codes a.line.0 ∙ when_given _ _ good }
