-- `read_test20::fill::begins_fill` meets its contract.
-- Assumes nothing.
use borrow.Author.Tests.{eqb-true, eq-eqb}
use Rattle.read_test20.proofs.Fills.{negative_fill, positive_fill, negative_told, positive_told}
use Rattle.read_test20.proofs.fill.begins_fill.Goals as goal

pub returns-then-second-eq174 : goal.returns-then-second-eq174
returns-then-second-eq174 c =
    let a = c.args in record { sound = λ t. negative_fill a.symbols.now a.from a.flips c.if-flips-eq2.true c.if-first-eq185.true c.if-second-eq174.true (eqb-true _ _ t); kept = λ b. eq-eqb _ _ (negative_told a.symbols.now a.from a.flips c.if-flips-eq2.true b).2 }

pub returns-else-second-eq174-clause-kept : goal.returns-else-second-eq174-clause-kept
returns-else-second-eq174-clause-kept c =
    let a = c.args in λ b. absurd (c.if-second-eq174.false (negative_told a.symbols.now a.from a.flips c.if-flips-eq2.true b).1)

pub returns-else-first-eq185-clause-kept : goal.returns-else-first-eq185-clause-kept
returns-else-first-eq185-clause-kept c =
    let a = c.args in λ b. absurd (c.if-first-eq185.false (negative_told a.symbols.now a.from a.flips c.if-flips-eq2.true b).0)

pub returns-then-second-eq849 : goal.returns-then-second-eq849
returns-then-second-eq849 c =
    let a = c.args in record { sound = λ t. positive_fill a.symbols.now a.from a.flips c.if-flips-eq2.false c.if-first-eq838.true c.if-second-eq849.true (eqb-true _ _ t); kept = λ b. eq-eqb _ _ (positive_told a.symbols.now a.from a.flips c.if-flips-eq2.false b).2 }

pub returns-else-second-eq849-clause-kept : goal.returns-else-second-eq849-clause-kept
returns-else-second-eq849-clause-kept c =
    let a = c.args in λ b. absurd (c.if-second-eq849.false (positive_told a.symbols.now a.from a.flips c.if-flips-eq2.false b).1)

pub returns-else-first-eq838-clause-kept : goal.returns-else-first-eq838-clause-kept
returns-else-first-eq838-clause-kept c =
    let a = c.args in λ b. absurd (c.if-first-eq838.false (positive_told a.symbols.now a.from a.flips c.if-flips-eq2.false b).0)
