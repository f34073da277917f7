-- `read_test21_26::words::fixed_byte` meets its contract.
-- Assumes nothing.
use Rattle.read_test21_26.proofs.Reading.{fixed_zero, fixed_ones}
use Rattle.read_test21_26.proofs.words.fixed_byte.Goals as goal

pub returns-then-i-eq3 : goal.returns-then-i-eq3
returns-then-i-eq3 c = fixed_zero _ _ c.if-pairs-eq1.true c.if-i-eq3.true

pub returns-else-i-eq3 : goal.returns-else-i-eq3
returns-else-i-eq3 c =
    fixed_ones c.args.pairs c.args.i c.requires.le_pairs c.requires.pairs_bound c.requires.i_bound (λ _ q. c.if-i-eq3.false q)

pub returns-else-pairs-eq1 : goal.returns-else-pairs-eq1
returns-else-pairs-eq1 c =
    fixed_ones c.args.pairs c.args.i c.requires.le_pairs c.requires.pairs_bound c.requires.i_bound (λ e _. c.if-pairs-eq1.false e)
