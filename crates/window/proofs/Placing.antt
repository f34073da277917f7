-- What stands where: word j of stream t at interleaved place s * j + t, and four words or bytes at the beginning of SAV and EAV.
-- Assumes nothing.
use mathlib.Core.Path.{◌≡◌, sym, ap₂, ◌∙◌}
use mathlib.Core.Bool.{Bool, true}
use Prim.Native.Nat.{ℕ, zero, suc, ◌+◌, ◌-◌, ◌*◌, ◌/◌, ◌%◌, ◌≤◌, ◌<◌}
use native.Mathlib.Nat.{mod-lt, div-add-mod, mul-add-div, mul-add-mod_self_left, div-eq_of_lt, mod-eq_of_lt}
use native.Mathlib.Omega.{arith}
use lib.Dec.{eqb, ltb}
use borrow.Author.Tests.{eqb-true, eqb-false, ltb-true, ltb-false}
use Rattle.ground.proofs.Cases.{on_test}
use Rattle.span.specs.declared.format.Shape.{Shape}
use Rattle.span.specs.Format.{streams, pairs_in}
use Rattle.span.specs.Layout.{ancillary_start}
use Rattle.span.proofs.Places.{inside}
use Rattle.window.specs.Read.{placed}

-- ---- interleaved places

module _ (s : ℕ) (some : 1 ≤ s) where
  module _ (j t : ℕ) (l : t < s) where
    -- it is word j, of stream t
    pub word_of_place : (s * j + t) / s ≡ j
    word_of_place = mul-add-div some j t ∙ omega (arith, div-eq_of_lt l)

    pub stream_of_place : (s * j + t) % s ≡ t
    stream_of_place = mul-add-mod_self_left s j t ∙ mod-eq_of_lt l

    -- a test at that place
    pub placed_at : (holds : ℕ → ℕ → Bool) → placed s holds (s * j + t) ≡ holds j t
    placed_at holds = ap₂ holds word_of_place stream_of_place

  -- every place is one of a word and a stream
  pub place_again : (k : ℕ) → s * (k / s) + k % s ≡ k
  place_again k = div-add-mod k s

  pub stream_below : (k : ℕ) → k % s < s
  stream_below k = mod-lt k some

  -- a test at every place below n is a test of the words that stand there
  module _ (n : ℕ) (holds : ℕ → ℕ → Bool) where
    pub at_word : ((k : ℕ) → k < n → placed s holds k ≡ true) → (j t : ℕ) → t < s → s * j + t < n → holds j t ≡ true
    at_word f j t l h = sym (placed_at j t l holds) ∙ f (s * j + t) h

    pub at_place : ((j t : ℕ) → t < s → s * j + t < n → holds j t ≡ true) → (k : ℕ) → k < n → placed s holds k ≡ true
    at_place f k h = f (k / s) (k % s) (stream_below k) (rw (place_again k) h)

-- a word of a stream stands in the span
pub in_span : (p : Shape) (j t : ℕ) → j < ancillary_start + p.ancillary → t < streams p → streams p * j + t < 2 * pairs_in p
in_span p j t h l = omega (arith, inside (streams p) (ancillary_start + p.ancillary) j t h l)

-- ---- the first four of SAV and EAV

-- a place is before n, or so many after it
pub split : {C : Type 0} (j n : ℕ) → (j < n → C) → ((i : ℕ) → j ≡ n + i → C) → C
split j n f g =
    on_test (ltb j n) (λ t. f (ltb-true j n t)) (λ t. let h = ltb-false j n t in g (j - n) (omega arith))

-- one of four
pub four : (C : ℕ → Type 0) → C 0 → C 1 → C 2 → C 3 → (i : ℕ) → i < 4 → C i
four C a b c d zero h = a
four C a b c d (suc zero) h = b
four C a b c d (suc (suc zero)) h = c
four C a b c d (suc (suc (suc zero))) h = d
four C a b c d (suc (suc (suc (suc i)))) h = absurd (omega arith)

-- a place is one of the first four, one of the four from e on, or another
pub each_place : {C : ℕ → Type 0} (e : ℕ)
    → ((i : ℕ) → i < 4 → C i)
    → ((i : ℕ) → i < 4 → C (e + i))
    → ((i : ℕ) → 4 ≤ i → (e ≤ i → e + 4 ≤ i) → C i)
    → (i : ℕ) → C i
each_place {C} e sav eav other i =
    split i 4 (sav i)
    (λ j p.
    split i e (λ h. other i (omega arith) (λ l. absurd (omega arith)))
    (λ k q. split k 4 (λ h. rw q (eav k h)) (λ m r. other i (omega arith) (λ l. omega arith))))

-- a number is one of two, or another
pub each_of_two : {C : ℕ → Type 0} (a b : ℕ) → C a → C b → ((j : ℕ) → (j ≡ a → ⊥) → (j ≡ b → ⊥) → C j) → (j : ℕ) → C j
each_of_two a b x y other j =
    on_test (eqb j a) (λ t. rw (eqb-true j a t) x)
    (λ t. on_test (eqb j b) (λ u. rw (eqb-true j b u) y) (λ u. other j (eqb-false j a t) (eqb-false j b u)))
