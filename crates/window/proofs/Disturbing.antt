-- A sent span's words with another word for one XYZ: an example of what is disturbed.
-- Assumes nothing.
use mathlib.Core.Path.{◌≡◌, ap, ◌∙◌}
use mathlib.Core.List.{List}
use Prim.Native.Nat.{ℕ, ◌+◌, ◌*◌, ◌/◌, ◌≤◌, ◌<◌}
use native.Mathlib.Omega.{arith}
use lib.Dec.{eqb}
use lib.ListN.{length, set, length-set}
use lib.Seq.{get_or-set_same, get_or-set_other}
use borrow.Author.Tests.{eqb-true, eqb-false}
use Rattle.ground.proofs.Cases.{on_test}
use Rattle.word.specs.Repair.{distance}
use Rattle.word.proofs.Repairs.{no_distance}
use Rattle.span.specs.declared.format.Format.{Format}
use Rattle.span.specs.Format.{shape_of, streams, pairs_in}
use Rattle.span.specs.Span.{span_words}
use Rattle.span.specs.Stream.{Request}
use Rattle.span.proofs.Lengths.{length_words}
use Rattle.window.specs.Encoded.{word_in, Disturbed, DisturbedBefore}
use Rattle.window.proofs.Placing.{word_of_place}

module _ (f : Format) (a : Request) (t x : ℕ) (some : 1 ≤ streams (shape_of f))
    (small : (k : ℕ) → k < 2 * pairs_in (shape_of f) → word_in (span_words f a) k < 4096) (l : t < streams (shape_of f)) (b : x < 4096) where
  abbrev s : ℕ
  s = streams (shape_of f)

  abbrev there : ℕ
  there = s * 3 + t

  abbrev words : List ℕ
  words = set (span_words f a) there x

  long : length words ≡ 2 * pairs_in (shape_of f)
  long = length-set (span_words f a) there x ∙ length_words f a

  -- every other word is as it was sent
  other : (k : ℕ) → (k ≡ there → ⊥) → word_in words k ≡ word_in (span_words f a) k
  other k n = get_or-set_other (span_words f a) there k x 0 n

  not_there : (k : ℕ) → (k / s ≡ 3 → ⊥) → k ≡ there → ⊥
  not_there k n e = n (ap (λ (i : ℕ). i / s) e ∙ word_of_place s some 3 t l)

  pub one_other : Disturbed f a words × DisturbedBefore f a words there
  one_other = (
    record {
      long = long;
      small = λ k h.
          on_test (eqb k there)
          (λ e.
          let same = eqb-true k there e in
          let inside : there < length (span_words f a) = omega (arith, same, long, length_words f a) in
          rw (same, get_or-set_same (span_words f a) there x 0 inside) b)
          (λ n. rw (other k (eqb-false k there n)) (small k (omega (arith, long))));
      same = λ k h not-sav not-eav. other k (not_there k not-sav);
    },
    record {
      same = λ i h n. other i (λ e. omega arith);
      near = λ i h n. omega (arith, ap (λ (w : ℕ). distance w (word_in (span_words f a) i)) (other i (λ e. omega arith)) ∙ no_distance (word_in (span_words f a) i));
    },
  )
