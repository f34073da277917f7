-- `read_test20::whole::is_eav` meets its contract.
-- Assumes nothing.
use borrow.Author.Tests.{eqb-true, eq-eqb}
use Rattle.read_test20.proofs.Kept.{eav_negative, eav_positive}
use Rattle.read_test20.proofs.Wholes.{stays_negative, stays_positive}
use Rattle.read_test20.proofs.whole.is_eav.Goals as goal

pub returns-then-symbols-at-eq93 : goal.returns-then-symbols-at-eq93
returns-then-symbols-at-eq93 c =
    let a = c.args in
    let d = c.if-flips-eq2.true in
    record { sound = λ t. stays_negative a.symbols.now a.at a.flips d c.if-symbols-at-eq93.true (eqb-true _ _ t); kept = λ m t. eq-eqb _ _ (eav_negative a.symbols.now a.at a.flips m t d).1 }

pub returns-then-flips-eq2-clause-kept : goal.returns-then-flips-eq2-clause-kept
returns-then-flips-eq2-clause-kept c =
    let a = c.args in
    λ m t. absurd (c.if-symbols-at-eq93.false (eav_negative a.symbols.now a.at a.flips m t c.if-flips-eq2.true).0)

pub returns-then-symbols-at-eq930 : goal.returns-then-symbols-at-eq930
returns-then-symbols-at-eq930 c =
    let a = c.args in
    let d = c.if-flips-eq2.false in
    record { sound = λ t. stays_positive a.symbols.now a.at a.flips d c.if-symbols-at-eq930.true (eqb-true _ _ t); kept = λ m t. eq-eqb _ _ (eav_positive a.symbols.now a.at a.flips m t d).1 }

pub returns-clause-kept : goal.returns-clause-kept
returns-clause-kept c =
    let a = c.args in
    λ m t. absurd (c.if-symbols-at-eq930.false (eav_positive a.symbols.now a.at a.flips m t c.if-flips-eq2.false).0)
