-- Which test a window meets: the first of 20 to 26, in this order, that does not hold everywhere, at the lowest place at which it does not.
-- Assumes nothing.
use mathlib.Core.Path.{◌≡◌, refl}
use mathlib.Core.Bool.{Bool, not}
use mathlib.Core.List.{List, [], ◌∷◌}
use mathlib.Core.Option.{Option, none, some}
use Prim.Native.Nat.{ℕ, zero, suc, ◌+◌, ◌*◌, ◌≤◌, ◌<◌}
use native.Mathlib.Omega.{arith}
use lib.ListN.{length, get_or, drop}
use Rattle.ground.specs.Answer.{Answer, refused, Row, checked}
use Rattle.ground.specs.Search.{first_below}
use Rattle.span.specs.declared.format.Format.{Format}
use Rattle.span.specs.declared.format.Shape.{Shape}
use Rattle.span.specs.Format.{shape_of, streams, pairs_in, symbols_in}
use Rattle.window.specs.declared.delivery.Delivery.{Delivery}
use Rattle.window.specs.Laws.{Holds, Fails}
use Rattle.window.specs.Read.{placed, word_tests, span_tests, delivery_of, read_span}
use Rattle.window.specs.Scan.{holds20}
use Rattle.window.specs.Tests.{holds21, holds22, holds23, holds24, holds25, holds26}
use Rattle.window.specs.Words.{word_at}
use Rattle.window.proofs.Accepting.{none_fails, fails_at, nothing, passes, meets}

found : (n : ℕ) (holds : ℕ → Bool) (k : ℕ) → Fails n holds k → first_below n (λ k. not (holds k)) ≡ some k
found n holds k x = fails_at n holds k x.place x.there x.before

-- a number that is answered is that of a row
row_met : {A : Type 0} (rs : List Row) (a : A) (number place : ℕ) → checked rs a ≡ refused number place
    → (i : ℕ) × (i < length rs) × ((get_or rs i nothing).number ≡ number)
row_met [] a number place e = let z : ◌≡◌ {A = ℕ} 0 1 = cc e in absurd (omega arith)
row_met (x ∷ rs) a number place e = go x.fails refl (row_met rs a number place)
  where
    go : (o : Option ℕ) → x.fails ≡ o
        → (checked rs a ≡ refused number place → (i : ℕ) × (i < length rs) × ((get_or rs i nothing).number ≡ number))
        → (i : ℕ) × (i < length (x ∷ rs)) × ((get_or (x ∷ rs) i nothing).number ≡ number)
    go (some k) q more = (0, omega arith, cc (rw q at e))
    go none q more = let (i, l, r) = more (rw q at e) in (suc i, omega arith, r)

module _ (f : Format) (w : List ℕ) where
  abbrev p : Shape
  p = shape_of f

  abbrev s : ℕ
  s = streams p

  abbrev word : ℕ → ℕ
  word = word_at p w

  -- tests 21 to 26, and what is answered where all hold
  abbrev rows : List Row
  rows = word_tests f word

  abbrev answer : Delivery
  answer = delivery_of f w

  -- one of them holds at all words; k is the lowest at which it does not
  abbrev Held : (ℕ → ℕ → Bool) → Type 0
  Held holds = Holds (2 * pairs_in p) (placed s holds)

  abbrev Met : (ℕ → ℕ → Bool) → ℕ → Type 0
  Met holds k = Fails (2 * pairs_in p) (placed s holds) k

  held : (holds : ℕ → ℕ → Bool) → Held holds → first_below (2 * pairs_in p) (λ k. not (placed s holds k)) ≡ none
  held holds = none_fails (2 * pairs_in p) (placed s holds)

  met : (holds : ℕ → ℕ → Bool) (k : ℕ) → Met holds k → first_below (2 * pairs_in p) (λ k. not (placed s holds k)) ≡ some k
  met holds = found (2 * pairs_in p) (placed s holds)

  -- each test, where those before it hold; `past` it the others are left to tell
  pub meets_20 : (k : ℕ) → Fails (symbols_in p) (holds20 p w) k → read_span f w ≡ refused 20 k
  unfolding read_span
  meets_20 k x = meets (span_tests f w) answer 0 k (found (symbols_in p) (holds20 p w) k x)

  module _ (scan : Holds (symbols_in p) (holds20 p w)) where
    past_20 : (r : Answer Delivery) → checked rows answer ≡ r → read_span f w ≡ r
    unfolding read_span
    past_20 r = passes (span_tests f w) answer r 0 (none_fails (symbols_in p) (holds20 p w) scan)

    pub meets_21 : (k : ℕ) → Met (holds21 s word) k → read_span f w ≡ refused 21 k
    meets_21 k x = past_20 (refused 21 k) (meets rows answer 0 k (met (holds21 s word) k x))

    module _ (timing : Held (holds21 s word)) where
      past_21 : (r : Answer Delivery) → checked (drop 1 rows) answer ≡ r → read_span f w ≡ r
      past_21 r e = past_20 r (passes rows answer r 0 (held (holds21 s word) timing) e)

      pub meets_22 : (k : ℕ) → Met (holds22 s word) k → read_span f w ≡ refused 22 k
      meets_22 k x = past_21 (refused 22 k) (meets rows answer 1 k (met (holds22 s word) k x))

      module _ (line_number : Held (holds22 s word)) where
        past_22 : (r : Answer Delivery) → checked (drop 2 rows) answer ≡ r → read_span f w ≡ r
        past_22 r e = past_21 r (passes rows answer r 1 (held (holds22 s word) line_number) e)

        pub meets_23 : (k : ℕ) → Met (holds23 s word) k → read_span f w ≡ refused 23 k
        meets_23 k x = past_22 (refused 23 k) (meets rows answer 2 k (met (holds23 s word) k x))

        module _ (v : Held (holds23 s word)) where
          past_23 : (r : Answer Delivery) → checked (drop 3 rows) answer ≡ r → read_span f w ≡ r
          past_23 r e = past_22 r (passes rows answer r 2 (held (holds23 s word) v) e)

          pub meets_24 : (k : ℕ) → Met (holds24 s word) k → read_span f w ≡ refused 24 k
          meets_24 k x = past_23 (refused 24 k) (meets rows answer 3 k (met (holds24 s word) k x))

          module _ (crcc : Held (holds24 s word)) where
            past_24 : (r : Answer Delivery) → checked (drop 4 rows) answer ≡ r → read_span f w ≡ r
            past_24 r e = past_23 r (passes rows answer r 3 (held (holds24 s word) crcc) e)

            pub meets_25 : (k : ℕ) → Met (holds25 s word f) k → read_span f w ≡ refused 25 k
            meets_25 k x = past_24 (refused 25 k) (meets rows answer 4 k (met (holds25 s word f) k x))

            module _ (picture : Held (holds25 s word f)) where
              past_25 : (r : Answer Delivery) → checked (drop 5 rows) answer ≡ r → read_span f w ≡ r
              past_25 r e = past_24 r (passes rows answer r 4 (held (holds25 s word f) picture) e)

              pub meets_26 : (k : ℕ) → Met (holds26 s word f) k → read_span f w ≡ refused 26 k
              meets_26 k x = past_25 (refused 26 k) (meets rows answer 5 k (met (holds26 s word f) k x))

  -- there are no other numbers
  numbered : (i : ℕ) → i < 7 → (get_or (span_tests f w) i nothing).number ≡ 20 + i
  numbered zero h = refl
  numbered (suc zero) h = refl
  numbered (suc (suc zero)) h = refl
  numbered (suc (suc (suc zero))) h = refl
  numbered (suc (suc (suc (suc zero)))) h = refl
  numbered (suc (suc (suc (suc (suc zero))))) h = refl
  numbered (suc (suc (suc (suc (suc (suc zero)))))) h = refl
  numbered (suc (suc (suc (suc (suc (suc (suc i))))))) h = absurd (omega arith)

  pub numbers : (number place : ℕ) → read_span f w ≡ refused number place → (20 ≤ number) × (number ≤ 26)
  unfolding read_span
  numbers number place e =
      let (i, l, q) = row_met (span_tests f w) answer number place e in
      (omega (arith, q, numbered i l), omega (arith, q, numbered i l))
