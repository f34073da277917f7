-- `row_crc::fold::fold` meets its contract.
-- Assumes nothing.
use native.Mathlib.Omega.{arith}
use borrow.Author.Rules.{rules}
use Rattle.row_crc.proofs.Folding.{begin, folds_on}
use Rattle.row_crc.proofs.fold.fold.Goals as goal

pub loop-j-init : goal.loop-j-init
loop-j-init c =
    (omega arith, begin c.args.row.now c.args.moved.now c.requires.empty)

pub loop-j-preserved : goal.loop-j-preserved
loop-j-preserved c =
    let v = c.loop-j in
    let row = c.args.row.now in
    (search rules, folds_on row v.moved c.loop-j-test.true v.invariant.0 v.invariant.1 c.with_moved.ensures)
