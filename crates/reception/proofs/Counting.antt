-- Which lines were heard: how many, and the first and the last that was not.
-- Assumes nothing.
use mathlib.Core.Path.{◌≡◌, refl, sym, ap, ap₂, ◌∙◌}
use mathlib.Core.Bool.{not, cond}
use mathlib.Core.List.{List, [], ◌∷◌}
use mathlib.Core.Option
use Prim.Native.Nat.{ℕ, zero, suc, ◌+◌, ◌<◌}
use native.Mathlib.Omega.{arith}
use lib.Dec.{eqb}
use lib.ListN.{length, get_or}
use borrow.Author.Tests.{eq-eqb, ne_eqb, eqb-true, eqb-false}
use Rattle.std.specs.Prelude.{Option, Some, None, MatchOption, unwrap_or, count_by}
use Rattle.std.proofs.lemmas.List.Sums.{sum_by-cons}
use Rattle.ground.proofs.Cases.{on_test}
use Rattle.ground.proofs.Searches.{is_hit, is_miss}
use Rattle.reception.specs.Summary.{is_lost, delivered, first_lost, last_of, last_lost}

-- ---- how many
pub all_counted : (heard : List ℕ) → count_by (λ h. not (eqb h 0)) heard ≡ delivered heard
unfolding delivered
all_counted [] = refl
all_counted (h ∷ heard) =
    let same : cond (not (eqb h 0)) 1 0 ≡ cond (eqb h 0) 0 1 = on_test (eqb h 0) (λ t. simp t refl) (λ t. simp t refl) in
    sum_by-cons (λ x. cond (not (eqb x 0)) 1 0) h heard ∙ ap₂ (λ (a b : ℕ). a + b) same (all_counted heard)

module _ (heard : List ℕ) where
  -- ---- the first: what the search for it tells
  abbrev pub Found : Option ℕ → Type 0
  Found r =
      MatchOption r ((j : ℕ) → j < length heard → get_or heard j 0 ≡ 0 → ⊥)
      (λ i. (i < length heard) × (get_or heard i 0 ≡ 0) × ((j : ℕ) → j < i → get_or heard j 0 ≡ 0 → ⊥))

  pub is_first : (r : Option ℕ) → Found r → unwrap_or r 0 + 1 ≡ first_lost heard
  unfolding first_lost
  is_first None never =
      let nowhere = is_miss (is_lost heard) (length heard) (record { never = λ j _ l. ne_eqb (get_or heard j 0) 0 (never j l) }) in
      ap (λ (o : Option.Option ℕ). Option.get_or o 0 + 1) (sym nowhere)
  is_first (Some i) f =
      let found = is_hit (is_lost heard) (length heard) i
      (record { from = omega arith; below = f.0; holds = eq-eqb (get_or heard i 0) 0 f.1; least = λ j _ l. ne_eqb (get_or heard j 0) 0 (f.2 j l) }) in
      ap (λ (o : Option.Option ℕ). Option.get_or o 0 + 1) (sym found)

  -- ---- the last
  abbrev pub FoundLast : Option ℕ → Type 0
  FoundLast r =
      MatchOption r ((j : ℕ) → j < length heard → get_or heard j 0 ≡ 0 → ⊥)
      (λ i. (i < length heard) × (get_or heard i 0 ≡ 0) × ((j : ℕ) → i < j → j < length heard → get_or heard j 0 ≡ 0 → ⊥))

  -- among the first n, where the search ends with line i + 1
  last_at : (i n : ℕ) → i < n → get_or heard i 0 ≡ 0 → ((j : ℕ) → i < j → j < n → get_or heard j 0 ≡ 0 → ⊥) → i + 1 ≡ last_of heard n
  unfolding last_of
  last_at i zero h e after = absurd (omega arith)
  last_at i (suc n) h e after =
      on_test (eqb (get_or heard n 0) 0)
      (λ t.
      let here : i < n → ⊥ = λ l. after n l (omega arith) (eqb-true (get_or heard n 0) 0 t) in
      simp t (omega (arith, here)))
      (λ t.
      let other : i ≡ n → ⊥ = λ q. eqb-false (get_or heard n 0) 0 t (ap (λ k. get_or heard k 0) (sym q) ∙ e) in
      simp t (last_at i n (omega (arith, other)) e (λ j k l. after j k (omega arith))))

  no_last : (n : ℕ) → ((j : ℕ) → j < n → get_or heard j 0 ≡ 0 → ⊥) → 1 ≡ last_of heard n
  unfolding last_of
  no_last zero never = refl
  no_last (suc n) never = simp (ne_eqb (get_or heard n 0) 0 (never n (omega arith))) (no_last n (λ j l. never j (omega arith)))

  pub is_last : (r : Option ℕ) → FoundLast r → unwrap_or r 0 + 1 ≡ last_lost heard
  is_last None never = no_last (length heard) never
  is_last (Some i) f = last_at i (length heard) f.0 f.1 f.2
