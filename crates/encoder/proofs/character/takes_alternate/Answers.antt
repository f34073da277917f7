-- `encoder::character::takes_alternate` meets its contract: it is one of those.
-- Assumes nothing.
use Rattle.std.proofs.Common.{◌≡◌, ℕ, List, [], ◌∷◌, ◌||◌, Bool, eqb, refl, sym, ap, ap₂, ◌∙◌, arith}
use borrow.Author.Tests.{eqb-true, eqb-false, eq-eqb, ne_eqb}
use Rattle.std.specs.List.{list_any}
use Rattle.ground.proofs.Cases.{on_test}
use Rattle.symbol.specs.Code.{one_of}
use Rattle.encoder.proofs.character.takes_alternate.Goals as goal

either_way : (m n : ℕ) → eqb m n ≡ eqb n m
either_way m n =
    on_test (eqb m n) (λ t. let same : n ≡ m = sym (eqb-true m n t) in t ∙ sym (eq-eqb n m same))
    (λ t. t ∙ sym (ne_eqb n m (λ e. eqb-false m n t (sym e))))

any_is : (x : ℕ) (l : List ℕ) → list_any (λ y. eqb y x) l ≡ one_of x l
any_is x [] = refl
any_is x (y ∷ ys) = ap₂ (λ (p q : Bool). p || q) (either_way y x) (any_is x ys)

asked_of : (x z : ℕ) (l : List ℕ) → z ≡ x → list_any (λ y. eqb y z) l ≡ one_of x l
asked_of x z l e = any_is z l ∙ ap (λ (k : ℕ). one_of k l) e

pub returns : goal.returns
returns c = c.contains.ensures.value ∙ asked_of c.args.x _ _ (omega arith) ∙ ap (one_of c.args.x) c.alternate_at.ensures
