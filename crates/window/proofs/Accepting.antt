-- When all tests of a window hold, and what its reading then answers.
-- Assumes nothing.
use mathlib.Core.Path.{◌≡◌, refl, sym, ap, ◌∙◌}
use mathlib.Core.Bool.{Bool, true, false, not}
use mathlib.Core.List.{List, [], ◌∷◌}
use mathlib.Core.Option.{Option, none, some}
use Prim.Native.Nat.{ℕ, zero, suc, ◌*◌, ◌<◌}
use native.Mathlib.Omega.{arith}
use lib.ListN.{get_or, drop}
use borrow.Author.Tests.{not-false}
use Rattle.ground.specs.Answer.{Answer, refused, given, Row, checked}
use Rattle.ground.specs.Search.{first_below}
use Rattle.ground.proofs.Searches.{miss, is_miss, is_hit}
use Rattle.span.specs.declared.format.Format.{Format}
use Rattle.span.specs.Format.{shape_of, streams, pairs_in, symbols_in}
use Rattle.window.specs.declared.delivery.Delivery.{Delivery}
use Rattle.window.specs.Read.{placed, word_tests, span_tests, delivery_of, read_span}
use Rattle.window.specs.Scan.{holds20}
use Rattle.window.specs.Tests.{holds21, holds22, holds23, holds24, holds25, holds26}
use Rattle.window.specs.Words.{word_at}
use Rattle.window.specs.Inside.Encoded.{Passes}

module _ (n : ℕ) (holds : ℕ → Bool) where
  -- a test that fails nowhere holds everywhere, and the other way round
  pub all_hold : first_below n (λ k. not (holds k)) ≡ none → (k : ℕ) → k < n → holds k ≡ true
  all_hold e k h = not-false (holds k) ((miss (λ k. not (holds k)) n e).never k (omega arith) h)

  pub none_fails : ((k : ℕ) → k < n → holds k ≡ true) → first_below n (λ k. not (holds k)) ≡ none
  none_fails f = is_miss (λ k. not (holds k)) n (record { never = λ j _ h. ap not (f j h) })

  -- the lowest place at which it does not hold
  pub fails_at : (k : ℕ) → k < n → holds k ≡ false → ((j : ℕ) → j < k → holds j ≡ true) → first_below n (λ k. not (holds k)) ≡ some k
  fails_at k h e f =
      is_hit (λ k. not (holds k)) n k
      (record { from = omega arith; below = h; holds = ap not e; least = λ j _ l. ap not (f j l) })

-- all tests hold
pub record Accepted (f : Format) (w : List ℕ) : Type 0 where
  pub scan : (i : ℕ) → i < symbols_in (shape_of f) → holds20 (shape_of f) w i ≡ true
  pub words : Passes f (word_at (shape_of f) w)

-- rows from the i-th on: where it holds it is passed, and where it does not it is met, by its number
abbrev pub nothing : Row
nothing = record { number = 0; fails = none }

pub passes : {A : Type 0} (rs : List Row) (a : A) (b : Answer A) (i : ℕ) → (get_or rs i nothing).fails ≡ none
    → checked (drop (suc i) rs) a ≡ b → checked (drop i rs) a ≡ b
passes [] a b zero e q = q
passes [] a b (suc i) e q = q
passes (x ∷ rs) a b zero e q = rw e q
passes (x ∷ rs) a b (suc i) e q = passes rs a b i e q

pub meets : {A : Type 0} (rs : List Row) (a : A) (i k : ℕ) → (get_or rs i nothing).fails ≡ some k
    → checked (drop i rs) a ≡ refused (get_or rs i nothing).number k
meets [] a i k e = let z : ◌≡◌ {A = ℕ} 0 1 = cc e in absurd (omega arith)
meets (x ∷ rs) a zero k e = rw e
meets (x ∷ rs) a (suc i) k e = meets rs a i k e

-- where something is given, every row was passed
pub row_passed : {A : Type 0} (rs : List Row) (a r : A) → checked rs a ≡ given r → (i : ℕ) → (get_or rs i nothing).fails ≡ none
row_passed [] a r e i = refl
row_passed (x ∷ rs) a r e i = go x.fails refl (λ q j. row_passed rs a r q j) i
  where
    go : (o : Option ℕ) → x.fails ≡ o → (checked rs a ≡ given r → (j : ℕ) → (get_or rs j nothing).fails ≡ none)
        → (i : ℕ) → (get_or (x ∷ rs) i nothing).fails ≡ none
    go (some k) q more i = let z : ◌≡◌ {A = ℕ} 0 1 = cc (rw q at e) in absurd (omega arith)
    go none q more zero = q
    go none q more (suc i) = more (rw q at e) i

module _ (f : Format) (w : List ℕ) where
  abbrev s : ℕ
  s = streams (shape_of f)

  abbrev n : ℕ
  n = 2 * pairs_in (shape_of f)

  abbrev word : ℕ → ℕ
  word = word_at (shape_of f) w

  -- what is given has passed all of them
  pub accepted_told : (r : Delivery) → read_span f w ≡ given r → Accepted f w
  unfolding read_span
  accepted_told r e =
      let passed = row_passed (span_tests f w) (delivery_of f w) r e in
      record {
        scan = all_hold (symbols_in (shape_of f)) (holds20 (shape_of f) w) (passed 0);
        words =
            record {
              timing = all_hold n (placed s (holds21 s word)) (passed 1);
              line_number = all_hold n (placed s (holds22 s word)) (passed 2);
              v = all_hold n (placed s (holds23 s word)) (passed 3);
              crcc = all_hold n (placed s (holds24 s word)) (passed 4);
              picture = all_hold n (placed s (holds25 s word f)) (passed 5);
              fill = all_hold n (placed s (holds26 s word f)) (passed 6);
            };
      }

-- words that meet tests 21 to 26 pass them
pub passes_given : {A : Type 0} (f : Format) (word : ℕ → ℕ) → Passes f word → (a : A) → checked (word_tests f word) a ≡ given a
passes_given f word m a =
    let s = streams (shape_of f) in
    let n = 2 * pairs_in (shape_of f) in
    let on = passes (word_tests f word) a (given a) in
    on 0 (none_fails n (placed s (holds21 s word)) m.timing)
    (on 1 (none_fails n (placed s (holds22 s word)) m.line_number)
    (on 2 (none_fails n (placed s (holds23 s word)) m.v)
    (on 3 (none_fails n (placed s (holds24 s word)) m.crcc)
    (on 4 (none_fails n (placed s (holds25 s word f)) m.picture)
    (on 5 (none_fails n (placed s (holds26 s word f)) m.fill) refl)))))

module _ (f : Format) (w : List ℕ) where
  pub is_accepted : Accepted f w → read_span f w ≡ given (delivery_of f w)
  unfolding read_span
  is_accepted a =
      passes (span_tests f w) (delivery_of f w) (given (delivery_of f w)) 0 (none_fails (symbols_in (shape_of f)) (holds20 (shape_of f) w) a.scan)
      (passes_given f (word_at (shape_of f) w) a.words (delivery_of f w))

  pub delivers : (r : Delivery) → read_span f w ≡ given r → r ≡ delivery_of f w
  delivers r e =
      let q : given r ≡ given (delivery_of f w) = sym e ∙ is_accepted (accepted_told f w r e) in cc q
