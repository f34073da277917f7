-- `read_test20::whole::after_sav` meets its contract.
-- Assumes nothing.
use mathlib.Core.Path.{◌≡◌, sym, ◌∙◌}
use mathlib.Core.Logic.{⊎_elim}
use native.Mathlib.Omega.{arith}
use Rattle.read_test20.proofs.Kept.{sav_told}
use Rattle.read_test20.proofs.Wholes.{begun_negative, begun_positive}
use Rattle.read_test20.proofs.whole.after_sav.Goals as goal

pub returns-in-380-eq643-clause-sound : goal.returns-in-380-eq643-clause-sound
returns-in-380-eq643-clause-sound c = begun_negative c.args.symbols.now c.in-380-eq643.is-0 c.in-380-eq643.is-1

pub returns-in-643-eq380-clause-sound : goal.returns-in-643-eq380-clause-sound
returns-in-643-eq380-clause-sound c = begun_positive c.args.symbols.now c.in-643-eq380.is-0 c.in-643-eq380.is-1

pub returns-in_default-clause-kept : goal.returns-in_default-clause-kept
returns-in_default-clause-kept c =
    λ t. absurd (⊎_elim (λ q. c.in_default.is-1.1 q.1) (λ q. absurd (let z : 0x17C ≡ 0x283 = sym c.in_default.is-0 ∙ q.0 in omega arith)) (sav_told c.args.symbols.now t))

pub returns-in_default-2-clause-kept : goal.returns-in_default-2-clause-kept
returns-in_default-2-clause-kept c =
    λ t. absurd (⊎_elim (λ q. absurd (let z : 0x283 ≡ 0x17C = sym c.in_default.is-0 ∙ q.0 in omega arith)) (λ q. c.in_default.is-1.1 q.1) (sav_told c.args.symbols.now t))

pub returns-in_default-3-clause-kept : goal.returns-in_default-3-clause-kept
returns-in_default-3-clause-kept c =
    λ t. absurd (⊎_elim (λ q. c.in_default.is-0.0.1 q.0) (λ q. c.in_default.is-0.1 q.0) (sav_told c.args.symbols.now t))
