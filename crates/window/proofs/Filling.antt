-- The fill of a window, looked at two words at a time.
-- Assumes nothing.
use mathlib.Core.Path.{◌≡◌, refl, sym, ap, ◌∙◌}
use mathlib.Core.Bool.{Bool, true, false, not, true≢false}
use mathlib.Core.List.{List}
use mathlib.Core.Option.{Option, none, some}
use Prim.Native.Nat.{ℕ, ◌+◌, ◌*◌, ◌/◌, ◌%◌, ◌≤◌, ◌<◌}
use native.Mathlib.Omega.{arith}
use lib.Dec.{eqb}
use borrow.Author.Tests.{eq-eqb, ne_eqb}
use Rattle.ground.specs.Search.{first_from}
use Rattle.ground.proofs.Cases.{on_test}
use Rattle.ground.proofs.Searches.{miss_from, is_miss_from}
use Rattle.span.specs.declared.format.Shape.{Shape}
use Rattle.span.specs.Format.{streams}
use Rattle.span.specs.Span.{fill_word}
use Rattle.span.specs.Layout.{ancillary_start}
use Rattle.packing.specs.declared.bytes.TwoWords.{TwoWords}
use Rattle.window.specs.Words.{word_at}
use Rattle.window.specs.Inside.Fill.{fill_right}
use Rattle.window.specs.Inside.Given.{plain_pair}
use Rattle.window.proofs.Plain.{Behind, pair_plain, word_a_lem, word_b_lem}

-- both words of a pair are 100
pub record Both (x : TwoWords) : Type 0 where
  pub first : x.a ≡ 0x100
  pub second : x.b ≡ 0x100

-- those of the pairs from one to before q are
pub record Filled (w : List ℕ) (from q : ℕ) : Type 0 where
  pub come : from ≤ q
  pub right : (k : ℕ) → k < q → from ≤ k → Both (plain_pair w (3 * k))

module _ (p : Shape) (w : List ℕ) (some_streams : 1 ≤ p.stream_pairs) where
  -- the fill begins after all words of the streams
  behind : (k : ℕ) → p.stream_pairs * (ancillary_start + p.ancillary) ≤ k → Behind p k
  behind k h = record { sav = omega arith; eav = λ a. omega arith }

  word_right : (k : ℕ) → p.stream_pairs * (ancillary_start + p.ancillary) ≤ k / 2 → Both (plain_pair w (3 * (k / 2))) → word_at p w k ≡ fill_word
  unfolding word_at
  word_right k h both =
      let e = pair_plain p w (k / 2) (behind (k / 2) h) in
      on_test (eqb (k % 2) 0) (λ t. rw (t, e) both.first) (λ t. rw (t, e) both.second)

  -- a word that is another
  abbrev wrong : ℕ → Bool
  wrong k = not (eqb (word_at p w k) fill_word)

  -- where all pairs are looked at, none is
  pub all_right : Filled w (p.stream_pairs * (ancillary_start + p.ancillary)) (p.stream_pairs * (ancillary_start + p.ancillary) + p.fill_pairs) → fill_right p w ≡ true
  unfolding fill_right
  all_right f =
      rw (is_miss_from wrong (2 * p.fill_pairs) (streams p * (ancillary_start + p.ancillary))
      (record {
        never =
            λ k h l.
            let low : p.stream_pairs * (ancillary_start + p.ancillary) ≤ k / 2 = omega arith in
            ap not (eq-eqb _ _ (word_right k low (f.right (k / 2) (omega arith) low)));
      }))

  -- one is enough
  one_wrong : (k : ℕ) → streams p * (ancillary_start + p.ancillary) ≤ k → k < streams p * (ancillary_start + p.ancillary) + 2 * p.fill_pairs
      → (word_at p w k ≡ fill_word → ⊥) → fill_right p w ≡ false
  unfolding fill_right
  one_wrong k h l x = go (first_from (streams p * (ancillary_start + p.ancillary)) (2 * p.fill_pairs) wrong) refl
    where
      go : (o : Option ℕ) → first_from (streams p * (ancillary_start + p.ancillary)) (2 * p.fill_pairs) wrong ≡ o → fill_right p w ≡ false
      go none e =
          let never = (miss_from wrong (2 * p.fill_pairs) (streams p * (ancillary_start + p.ancillary)) e).never k h l in
          absurd (true≢false (sym (ap not (ne_eqb (word_at p w k) fill_word x)) ∙ never))
      go (some j) e = rw e

  -- the first word of a pair, or the second
  module _ {x : TwoWords} (q : ℕ) (is : x ≡ plain_pair w (3 * q)) (h : p.stream_pairs * (ancillary_start + p.ancillary) ≤ q)
      (l : q < p.stream_pairs * (ancillary_start + p.ancillary) + p.fill_pairs) where
    pub first_wrong_lem : (x.a ≡ 0x100 → ⊥) → fill_right p w ≡ false
    first_wrong_lem other = one_wrong (2 * q) (omega arith) (omega arith) (λ e. other (word_a_lem p w q is (behind q h) ∙ e))

    pub second_wrong : (x.b ≡ 0x100 → ⊥) → fill_right p w ≡ false
    second_wrong other = one_wrong (2 * q + 1) (omega arith) (omega arith) (λ e. other (word_b_lem p w q is (behind q h) ∙ e))
