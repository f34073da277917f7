-- Pairs of one word again and again, where they leave the disparity as it was.
-- Assumes nothing.
use Rattle.std.proofs.Common.{◌≡◌, ℕ, zero, suc, ◌+◌, ◌-◌, ◌*◌, ◌/◌, ◌%◌, ◌<◌, ◌≤◌, List, [], ◌∷◌, length, get_or, take, set, sym, refl, ap, ◌∙◌, add-suc, arith, length-take-le, take_all, get_or-take, take-suc, take_at}
use lib.Seq.{sets}
use Rattle.ground.specs.Written.{upto}
use Rattle.ground.proofs.Writing.{sets_append, get_d_sets, length_upto, sets_upto, get_d_upto, upto_split}
use Rattle.symbol.specs.declared.disparity.Disparity.{Disparity}
use Rattle.symbol.specs.declared.disparity.Disparity.TheVariants.{Negative, Positive}
use Rattle.symbol.specs.Code.{after_of}
use Rattle.encoder.specs.Inside.Tables.{offset_of, of_offset}
use Rattle.span.specs.declared.format.Format.{Format}
use Rattle.span.specs.Format.{is_difference}
use Rattle.ground.proofs.Cases.{on_test}
use Rattle.span.specs.declared.format.Shape.{Shape}
use Rattle.span.specs.Encoding.{symbols_from, after_run}
use Rattle.span.specs.Sample.{blank_word}
use Rattle.span.specs.Span.{fill_word}
use Rattle.span.proofs.Encoding.{same_again, stays, length_symbols}
use Rattle.packing.specs.declared.bytes.ThreeBytes.{ThreeBytes}
use Rattle.packing.specs.Bytes.{bytes_of}
use Rattle.send.specs.declared.coder.Three.{Three}
use Rattle.send.specs.Inside.Put.{offset_after, put, pair_chars, run_chars, repeated, three_of, KeepsDisparity, blanking_chars}
use Rattle.send.proofs.Putting.{PutChars, one_offset, three_put}

-- the symbols of a pair of the word
abbrev pub pair_of : ℕ → ℕ → Three
pair_of d w = let b = bytes_of w w in three_of (of_offset d) b.first b.second b.third

pub pair_is : (d w : ℕ) {b : ThreeBytes} {t : Three} → b ≡ bytes_of w w → t ≡ three_of (of_offset d) b.first b.second b.third
    → t ≡ pair_of d w
pair_is d w q p = p ∙ ap (λ (b : ThreeBytes). three_of (of_offset d) b.first b.second b.third) q

module _ (d w : ℕ) (before : List ℕ) (at : ℕ) where
  -- the buffer with the symbols of the first n pairs
  unfoldable pub again : ℕ → List ℕ
  again n = sets before at (upto n (λ _. symbols_from (of_offset d) (pair_chars w w)))

  pub none_again : before ≡ again 0
  unfolding again upto
  none_again = refl

  -- one pair more
  pub once_more : {t : Three} → t ≡ pair_of d w → (n : ℕ)
      → set (set (set (again n) (at + 3 * n) t.first) (at + 3 * n + 1) t.second) (at + 3 * n + 2) t.third ≡ again (n + 1)
  unfolding again put
  once_more p n =
      let b = bytes_of w w in
      (three_put d (at + 3 * n) (again n) b.first b.second b.third p).out
      ∙ sets_upto 3 (λ _. symbols_from (of_offset d) (pair_chars w w)) (λ m. length_symbols (of_offset d) (pair_chars w w)) before at (at + 3 * n) n refl

  -- all of them
  pub all_again : KeepsDisparity w → (n : ℕ) → again n ≡ put d (run_chars n w) at before
  unfolding again put run_chars
  all_again s n = ap (sets before at) (sym (same_again (of_offset d) (pair_chars w w) (s.keeps (of_offset d)) n))

  -- the first 32 of them, and each symbol after those the one 96 before it
  module _ (s : KeepsDisparity w) (n : ℕ) (many : 32 ≤ n) (room : at + 3 * n ≤ length before) where
    abbrev pair : List ℕ
    pair = symbols_from (of_offset d) (pair_chars w w)

    sized : (m : ℕ) → length pair ≡ 3
    sized m = length_symbols (of_offset d) (pair_chars w w)

    abbrev run : List ℕ
    run = upto n (λ _. pair)

    long : length run ≡ 3 * n
    long = length_upto 3 (λ _. pair) sized n

    -- symbol k of the run is that of a pair
    symbol_of_lem : (k : ℕ) → k < 3 * n → get_or run k 0 ≡ get_or pair (k % 3) 0
    symbol_of_lem k h =
        let whole : 3 * (k / 3) + k % 3 ≡ k = omega arith in
        ap (λ (i : ℕ). get_or run i 0) (sym whole) ∙ get_d_upto 3 (λ _. pair) sized n (k / 3) (k % 3) 0 (omega arith) (omega arith)

    same_symbol : (m : ℕ) → 96 + m < 3 * n → get_or run m 0 ≡ get_or run (96 + m) 0
    same_symbol m h =
        let rest : (96 + m) % 3 ≡ m % 3 = omega arith in
        symbol_of_lem m (omega arith) ∙ ap (λ (i : ℕ). get_or pair i 0) (sym rest) ∙ sym (symbol_of_lem (96 + m) h)

    first_32 : take 96 run ≡ upto 32 (λ _. pair)
    first_32 =
        let rest : ℕ = n - 32 in
        let all : 32 + rest ≡ n = omega arith in
        ap (λ (i : ℕ). take 96 (upto i (λ _. pair))) (sym all)
        ∙ ap (take 96) (sym (upto_split 32 rest (λ _. pair)))
        ∙ take_at (upto 32 (λ _. pair)) (upto rest (λ _. pair)) 96 (length_upto 3 (λ _. pair) sized 32)

    repeats : (m : ℕ) → 96 + m ≤ 3 * n → repeated m (at + 96) (sets before at (take 96 run)) ≡ sets before at (take (96 + m) run)
    unfolding repeated
    repeats zero h = refl
    repeats (suc m) h =
        let done : List ℕ = take (96 + m) run in
        let size : length done ≡ 96 + m = length-take-le (96 + m) run (omega (arith, long)) in
        let here : at + 96 + m ≡ at + length done = omega arith in
        let back : at + 96 + m - 96 ≡ at + m = omega arith in
        let read : get_or (sets before at done) (at + 96 + m - 96) 0 ≡ get_or run (96 + m) 0 =
        ap (λ (i : ℕ). get_or (sets before at done) i 0) back
        ∙ get_d_sets before done at m 0 (omega arith) (omega arith)
        ∙ get_or-take (96 + m) run m 0 (omega arith)
        ∙ same_symbol m (omega arith) in
        ap (λ (l : List ℕ). set l (at + 96 + m) (get_or l (at + 96 + m - 96) 0)) (repeats m (omega arith))
        ∙ ap (set (sets before at done) (at + 96 + m)) read
        ∙ sets_append before done (get_or run (96 + m) 0 ∷ []) at (at + 96 + m) here
        ∙ ap (sets before at) (sym (take-suc run (96 + m) 0 (omega (arith, long))) ∙ ap (λ (k : ℕ). take k run) (sym (add-suc 96 m)))

    pub repeated_run : {first : List ℕ} → first ≡ put d (run_chars 32 w) at before
        → repeated (at + 3 * n - (at + 96)) (at + 96) first ≡ put d (run_chars n w) at before
    unfolding again
    repeated_run {first} is =
        let count : at + 3 * n - (at + 96) ≡ 3 * n - 96 = omega arith in
        let end : 96 + (3 * n - 96) ≡ 3 * n = omega arith in
        ap (λ (k : ℕ). repeated k (at + 96) first) count
        ∙ ap (repeated (3 * n - 96) (at + 96)) (is ∙ sym (all_again s 32) ∙ ap (sets before at) (sym first_32))
        ∙ repeats (3 * n - 96) (omega arith)
        ∙ ap (λ (k : ℕ). sets before at (take k run)) end
        ∙ ap (sets before at) (take_all (3 * n) run (omega (arith, long)))
        ∙ all_again s n

-- one symbol more is repeated
pub one_repeated : (from i : ℕ) (before : List ℕ) {out : List ℕ} → from ≤ i → out ≡ repeated (i - from) from before
    → set out i (get_or out (i - 96) 0) ≡ repeated (i + 1 - from) from before
unfolding repeated
one_repeated from i before h is =
    let here : from + (i - from) ≡ i = omega arith in
    let more : suc (i - from) ≡ i + 1 - from = omega arith in
    let stepped : set (repeated (i - from) from before) i (get_or (repeated (i - from) from before) (i - 96) 0) ≡ repeated (suc (i - from)) from before =
    rw here refl in
    rw is stepped ∙ ap (λ (n : ℕ). repeated n from before) more

-- told at each disparity
kept : {w : ℕ} → after_run Negative (pair_chars w w) ≡ Negative → after_run Positive (pair_chars w w) ≡ Positive → KeepsDisparity w
kept {w} negative positive = record { keeps = at }
  where
    at : (e : Disparity) → after_run e (pair_chars w w) ≡ e
    at Negative = negative
    at Positive = positive

-- 000 of a timing code, the blanking word and the word of the fill leave the disparity as it was
pub zero_stays : KeepsDisparity 0x000
unfolding after_run bytes_of after_of
zero_stays = kept refl refl

pub blank_stays : (f : Format) → KeepsDisparity (blank_word f)
unfolding after_run bytes_of after_of
blank_stays f = on_test (is_difference f) (λ t. rw t (kept refl refl)) (λ t. rw t (kept refl refl))

pub fill_stays : KeepsDisparity fill_word
unfolding after_run bytes_of after_of
fill_stays = kept refl refl

-- a word that is told to be one of these
pub keeps_too : {v w : ℕ} → v ≡ w → KeepsDisparity w → KeepsDisparity v
keeps_too e k = rw e k

module _ {d : ℕ} (o : d ≡ offset_of (of_offset d)) where
  run_after : {w : ℕ} → KeepsDisparity w → (n : ℕ) → of_offset d ≡ after_run (of_offset d) (run_chars n w)
  unfolding run_chars
  run_after {w} k n = sym (stays (of_offset d) (pair_chars w w) (k.keeps (of_offset d)) n)

  run_offset : {w : ℕ} → KeepsDisparity w → (n : ℕ) → d ≡ offset_after d (run_chars n w)
  unfolding offset_after
  run_offset k n = o ∙ ap offset_of (run_after k n)

  -- a run of pairs of such a word, as one run of characters
  pub run_made : {w at : ℕ} (n : ℕ) {before after : List ℕ} → KeepsDisparity w → after ≡ put d (run_chars n w) at before
      → PutChars d (run_chars n w) at before d after
  run_made n k e = record { offset = run_offset k n; out = e }

  -- the ancillary area and the fill
  pub blanking_made : {blank at : ℕ} (p : Shape) {before after : List ℕ} → KeepsDisparity blank → after ≡ put d (blanking_chars p blank) at before
      → PutChars d (blanking_chars p blank) at before d after
  blanking_made {blank} p k e =
      let area : List ℕ = run_chars (p.stream_pairs * p.ancillary) blank in
      record { offset = run_offset fill_stays p.fill_pairs ∙ one_offset d d area (run_chars p.fill_pairs fill_word) (run_after k (p.stream_pairs * p.ancillary)); out = e }
