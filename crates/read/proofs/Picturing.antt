-- Tests 25 and 26: where the picture and the fill are right they hold, and else they fail at the lowest place.
-- Assumes nothing.
use Rattle.std.specs.Prelude.{Ok}
use mathlib.Core.Path.{◌≡◌, refl, sym, ap, ◌∙◌, fun_ext}
use mathlib.Core.Bool.{Bool, true, false, true≢false, not}
use mathlib.Core.List.{List, [], ◌∷◌}
use mathlib.Core.Option.{Option, none, some}
use Prim.Native.Nat.{ℕ, zero, suc, ◌+◌, ◌-◌, ◌*◌, ◌/◌, ◌%◌, ◌≤◌, ◌<◌}
use native.Mathlib.Nat.{le_of_suc-le-suc, not-suc-le-zero, mul-le-mul_left, div-add-mod}
use native.Mathlib.Omega.{arith}
use lib.Dec.{eqb, ltb}
use lib.ListN.{length, get_or}
use borrow.Author.Tests.{not-true, not-false, lt-ltb, le-ltb, ltb-true, ltb-false}
use Rattle.ground.specs.Range.{within}
use Rattle.ground.specs.Search.{first_from, first_below, is_some}
use Rattle.ground.proofs.Cases.{on_test}
use Rattle.ground.proofs.Ranges.{is_within, not_within}
use Rattle.ground.proofs.Tests.{both_left, both_right}
use Rattle.ground.proofs.Writing.{get_d_upto, length_table, get_d_table}
use Rattle.line.specs.Stream.{is_active}
use Rattle.span.specs.declared.format.Format.{Format}
use Rattle.span.specs.Format.{shape_of, streams, pairs_in}
use Rattle.span.specs.Span.{fill_word}
use Rattle.span.specs.Layout.{picture_start, eav_start, ancillary_start}
use Rattle.span.proofs.Lengths.{known_has_streams}
use Rattle.packing.specs.Sample.{allowed_word}
use Rattle.read_test21_26.proofs.Regions.{from_word, before_word}
use Rattle.read_test21_26.proofs.Searching.{hit_in, miss_in, is_miss_in}
use Rattle.window.specs.Read.{placed, picture_of}
use Rattle.window.specs.Tests.{word_of, column, rows, line_read, holds25, holds26}
use Rattle.window.specs.Words.{word_at}
use Rattle.window.specs.Inside.Fill.{fill_right}
use Rattle.window.proofs.Accepting.{none_fails, fails_at}
use Rattle.window.proofs.Placing.{place_again, stream_below, placed_at}
use Rattle.read_test21_26.specs.Inside.Call.{wrong25, wrong26}
use Rattle.read_test21_26.specs.Inside.Holds.{picture25, fill26, wrong_in}
use Rattle.read_test21_26.specs.Inside.Picture.{all_allowed}
use Rattle.read_test21_26.specs.declared.service.Test.{Test}
use Rattle.read_test21_26.specs.declared.service.Test.TheVariants.{Sample, Fill}
use Rattle.read_test21_26.specs.Inside.Verdict.{Verdict, verdict_of, is_failed, first_row}
use Rattle.window.specs.Inside.Window.{IsWindow}
use Rattle.window.proofs.Windows.{length_rows}
use Rattle.read.specs.Inside.Picture.{picture_tests, right_picture}

-- ---- a test of all places that asks something in one run alone is another test of that run
module _ (n from to : ℕ) (holds asked : ℕ → Bool) (up : from ≤ to) (most : to ≤ n)
    (outside : (k : ℕ) → k < n → (from ≤ k → to ≤ k) → holds k ≡ true) (same : (k : ℕ) → from ≤ k → k < to → holds k ≡ asked k) where
  pub one_run : first_below n (λ k. not (holds k)) ≡ wrong_in asked from to
  one_run = go (wrong_in asked from to) refl
    where
      go : (o : Option ℕ) → wrong_in asked from to ≡ o → first_below n (λ k. not (holds k)) ≡ wrong_in asked from to
      go none e =
          let never = miss_in asked up e in
          none_fails n holds
          (λ k b.
          on_test (ltb k from) (λ t. let l = ltb-true k from t in outside k b (λ h. absurd (omega arith)))
          (λ t.
          let h = ltb-false k from t in
          on_test (ltb k to) (λ u. let l = ltb-true k to u in same k h l ∙ not-false (asked k) (never.never k h l))
          (λ u. outside k b (λ _. ltb-false k to u))))
          ∙ sym e
      go (some k) e =
          let l = hit_in asked up e in
          fails_at n holds k (omega (arith, l.below)) (same k l.from l.below ∙ not-true (asked k) l.holds)
          (λ j b.
          on_test (ltb j from)
          (λ t. let m = ltb-true j from t in outside j (omega (arith, l.below)) (λ h. absurd (omega arith)))
          (λ t.
          let h = ltb-false j from t in
          let m : j < to = omega (arith, l.below) in
          same j h m ∙ not-false (asked j) (l.least j h b)))
          ∙ sym e

-- ---- the words of the picture
each_allowed : (depth : ℕ) (xs : List ℕ) → all_allowed depth xs ≡ true → (i : ℕ) → i < length xs → allowed_word depth (get_or xs i 0) ≡ true
unfolding all_allowed
each_allowed depth [] t i h = absurd (not-suc-le-zero h)
each_allowed depth (x ∷ xs) t zero h = both_left (allowed_word depth x) (all_allowed depth xs) t
each_allowed depth (x ∷ xs) t (suc i) h =
    each_allowed depth xs (both_right (allowed_word depth x) (all_allowed depth xs) t) i (le_of_suc-le-suc h)

all_allowed_lem : (depth : ℕ) (xs : List ℕ) → ((i : ℕ) → i < length xs → allowed_word depth (get_or xs i 0) ≡ true) → all_allowed depth xs ≡ true
unfolding all_allowed
all_allowed_lem depth [] f = refl
all_allowed_lem depth (x ∷ xs) f = rw (f 0 (omega arith)) (all_allowed_lem depth xs (λ i h. f (suc i) (omega arith)))

module _ (s : ℕ) (word : ℕ → ℕ) where
  -- word 4 + i of stream t stands at i of its row
  row_word : (t i : ℕ) → t < s → i < 1920 → get_or (rows s word) (1920 * t + i) 0 ≡ word_of s word (picture_start + i) t
  unfolding rows
  row_word t i h l = get_d_upto 1920 (column s word picture_start 1920) (λ t. length_table 1920 _) s t i 0 h l ∙ get_d_table 1920 _ i 0 l

-- ---- a window
module _ (f : Format) (w : List ℕ) (is : IsWindow f w) where
  abbrev s : ℕ
  s = streams (shape_of f)

  abbrev word : ℕ → ℕ
  word = word_at (shape_of f) w

  abbrev n : ℕ
  n = 2 * pairs_in (shape_of f)

  some_streams : 1 ≤ s
  some_streams = omega (arith, known_has_streams f is.known)

  -- ---- 25
  abbrev asked25 : ℕ → Bool
  asked25 = placed s (picture25 f s word)

  abbrev fails25 : Option ℕ
  fails25 = first_below n (λ k. not (placed s (holds25 s word f) k))

  -- all words are allowed where none of them fails
  words_allowed : all_allowed f.depth (rows s word) ≡ true → wrong_in asked25 (picture_start * s) (eav_start * s) ≡ none
  words_allowed t =
      is_miss_in asked25 (omega arith)
      (record {
        never =
            λ k h l.
            let j = k / s in
            let low : picture_start ≤ j = from_word s some_streams (omega arith) in
            let high : j < eav_start = before_word s some_streams (omega arith) in
            let i = j - 4 in
            let back : 4 + i ≡ j = omega arith in
            let b : k % s < s = stream_below s some_streams k in
            let m : 1920 * (k % s) + i < length (rows s word) = rw length_rows_is (omega (arith, row_end (k % s) b)) in
            ap not
            (ap (λ (x : ℕ). allowed_word f.depth (word_of s word x (k % s))) (sym back)
            ∙ ap (allowed_word f.depth) (sym (row_word s word (k % s) i b (omega arith)))
            ∙ each_allowed f.depth (rows s word) t (1920 * (k % s) + i) m);
      })
    where
      length_rows_is : length (rows s word) ≡ 1920 * s
      length_rows_is = length_rows s word

      row_end : (t : ℕ) → t < s → 1920 * t + 1920 ≤ 1920 * s
      row_end t h = omega arith

  none_wrong : wrong_in asked25 (picture_start * s) (eav_start * s) ≡ none → all_allowed f.depth (rows s word) ≡ true
  none_wrong e =
      all_allowed_lem f.depth (rows s word)
      (λ x h.
      let t = x / 1920 in
      let i = x % 1920 in
      let inside : x < 1920 * s = rw (length_rows s word) at h in
      let b : t < s = omega arith in
      let l : i < 1920 = omega arith in
      let at : 1920 * t + i ≡ x = div-add-mod x 1920 in
      let never = (miss_in asked25 (omega arith) e).never (s * (picture_start + i) + t) (omega (arith, low_place i)) (omega (arith, high_place i t l b)) in
      ap (λ (y : ℕ). allowed_word f.depth (get_or (rows s word) y 0)) (sym at)
      ∙ ap (allowed_word f.depth) (row_word s word t i b l)
      ∙ sym (placed_at s some_streams (picture_start + i) t b (picture25 f s word))
      ∙ not-false (asked25 (s * (picture_start + i) + t)) never)
    where
      low_place : (i : ℕ) → picture_start * s ≤ s * (picture_start + i)
      low_place i = omega arith

      high_place : (i t : ℕ) → i < 1920 → t < s → s * (picture_start + i) + t < eav_start * s
      high_place i t l b =
          let m : s * (5 + i) ≤ s * eav_start = mul-le-mul_left s (let h : 5 + i ≤ eav_start = omega arith in h) in omega (arith, m)

  -- the verdict of a search that finds something, whatever follows
  found_some : (test : Test) (rest : Verdict) (o : Option ℕ) → (o ≡ none → ⊥) → verdict_of test o (Ok tt) ≡ verdict_of test o rest
  found_some test rest none x = absurd (x refl)
  found_some test rest (some k) x = refl

  -- a word of the picture stands among its places, and the other way round
  outside_25 : (k : ℕ) → (picture_start * s ≤ k → eav_start * s ≤ k) → placed s (holds25 s word f) k ≡ true
  unfolding holds25
  outside_25 k far =
      rw (not_within picture_start (eav_start - 1) (k / s)
      (λ a b.
      let m : s * picture_start ≤ s * (k / s) = mul-le-mul_left s a in
      let low : picture_start * s ≤ k = omega (arith, m, place_again s some_streams k) in
      let j : eav_start ≤ k / s = from_word s some_streams (omega (arith, far low)) in
      omega arith))

  inside_25 : is_active (line_read s word) ≡ true → (k : ℕ) → picture_start * s ≤ k → k < eav_start * s → placed s (holds25 s word f) k ≡ asked25 k
  unfolding holds25
  inside_25 a k low high =
      let first : picture_start ≤ k / s = from_word s some_streams (omega arith) in
      let last : k / s < eav_start = before_word s some_streams (omega arith) in
      rw (is_within picture_start (eav_start - 1) (k / s) first (omega arith), a)

  active_25 : is_active (line_read s word) ≡ true → fails25 ≡ wrong_in asked25 (picture_start * s) (eav_start * s)
  active_25 a =
      one_run n (picture_start * s) (eav_start * s) (placed s (holds25 s word f)) asked25 (omega arith) (omega arith) (λ k _. outside_25 k) (inside_25 a)

  blank_25 : is_active (line_read s word) ≡ false → fails25 ≡ none
  unfolding holds25
  blank_25 a = none_fails n (placed s (holds25 s word f)) (λ k _. on_test (within picture_start (eav_start - 1) (k / s)) (λ t. rw (t, a)) (λ t. rw t))

  pub right_25 : right_picture f (line_read s word) (picture_of f w) ≡ true → fails25 ≡ none
  unfolding picture_of
  right_25 t = on_test (is_active (line_read s word)) (λ a. active_25 a ∙ words_allowed (rw a at t)) blank_25

  pub wrong_25 : (rest : Verdict) → right_picture f (line_read s word) (picture_of f w) ≡ false
      → verdict_of Sample (wrong25 f w) (Ok tt) ≡ verdict_of Sample fails25 rest
  unfolding picture_of wrong25
  wrong_25 rest t =
      on_test (is_active (line_read s word))
      (λ a.
      found_some Sample rest (wrong_in asked25 (picture_start * s) (eav_start * s)) (λ e. true≢false (sym (none_wrong e) ∙ rw a at t))
      ∙ ap (λ (o : Option ℕ). verdict_of Sample o rest) (sym (active_25 a)))
      (λ a. absurd (true≢false (rw a at t)))

  -- ---- 26
  abbrev from : ℕ
  from = s * (ancillary_start + (shape_of f).ancillary)

  abbrev asked26 : ℕ → Bool
  asked26 = placed s (fill26 s word)

  abbrev fails26 : Option ℕ
  fails26 = first_below n (λ k. not (placed s (holds26 s word f) k))

  fill_26 : fails26 ≡ wrong_in asked26 from (from + 2 * (shape_of f).fill_pairs)
  unfolding holds26
  fill_26 =
      one_run n from (from + 2 * (shape_of f).fill_pairs) (placed s (holds26 s word f)) asked26 (omega arith) (omega arith)
      (λ k b far.
      on_test (ltb k from)
      (λ t.
      let l : k / s < ancillary_start + (shape_of f).ancillary = before_word s some_streams (ltb-true k from t) in
      rw (lt-ltb (k / s) (ancillary_start + (shape_of f).ancillary) l))
      (λ t. absurd (let h = far (ltb-false k from t) in omega arith)))
      (λ k low high.
      let l : ancillary_start + (shape_of f).ancillary ≤ k / s = from_word s some_streams low in
      rw (le-ltb (k / s) (ancillary_start + (shape_of f).ancillary) l))

  -- the look at the fill is that search
  looked_26 : fill_right (shape_of f) w ≡ not (is_some (wrong_in asked26 from (from + 2 * (shape_of f).fill_pairs)))
  unfolding fill_right wrong_in
  looked_26 =
      let size : from + 2 * (shape_of f).fill_pairs - from ≡ 2 * (shape_of f).fill_pairs = omega arith in
      rw size
      (ap (λ (test : ℕ → Bool). not (is_some (first_from from (2 * (shape_of f).fill_pairs) test)))
      (fun_ext (λ k. ap (λ (x : ℕ). not (eqb (word x) fill_word)) (sym (place_again s some_streams k)))))

  is_none : (o : Option ℕ) → not (is_some o) ≡ true → o ≡ none
  is_none none t = refl
  is_none (some k) t = absurd (true≢false (sym t))

  pub right_26 : fill_right (shape_of f) w ≡ true → fails26 ≡ none
  right_26 t = fill_26 ∙ is_none _ (sym looked_26 ∙ t)

  pub wrong_26 : verdict_of Fill (wrong26 f w) (Ok tt) ≡ verdict_of Fill fails26 (Ok tt)
  unfolding wrong26
  wrong_26 = ap (λ (o : Option ℕ). verdict_of Fill o (Ok tt)) (sym fill_26)

  -- ---- the verdict over both
  pub both_hold : right_picture f (line_read s word) (picture_of f w) ≡ true → fill_right (shape_of f) w ≡ true → (Ok tt) ≡ first_row (picture_tests f w)
  both_hold t u = rw (right_25 t, right_26 u)

  pub fill_fails : {v : Verdict} → right_picture f (line_read s word) (picture_of f w) ≡ true → v ≡ verdict_of Fill (wrong26 f w) (Ok tt)
      → v ≡ first_row (picture_tests f w)
  fill_fails t e = e ∙ wrong_26 ∙ ap (λ (o : Option ℕ). verdict_of Sample o (verdict_of Fill fails26 (Ok tt))) (sym (right_25 t))

  pub picture_fails : {v : Verdict} → right_picture f (line_read s word) (picture_of f w) ≡ false → v ≡ verdict_of Sample (wrong25 f w) (Ok tt)
      → v ≡ first_row (picture_tests f w)
  picture_fails t e = e ∙ wrong_25 (verdict_of Fill fails26 (Ok tt)) t

  -- ---- that they do not hold, without a place
  first_failed : (test : Test) (rest : Verdict) (o : Option ℕ) → (o ≡ none → ⊥) → is_failed (verdict_of test o rest) ≡ true
  first_failed test rest none x = absurd (x refl)
  first_failed test rest (some k) x = refl

  rest_failed : (test : Test) (rest : Verdict) (o : Option ℕ) → is_failed rest ≡ true → is_failed (verdict_of test o rest) ≡ true
  rest_failed test rest none t = t
  rest_failed test rest (some k) t = refl

  pub picture_refused : right_picture f (line_read s word) (picture_of f w) ≡ false → is_failed (first_row (picture_tests f w)) ≡ true
  unfolding picture_of
  picture_refused t =
      first_failed Sample (verdict_of Fill fails26 (Ok tt)) fails25
      (λ e.
      on_test (is_active (line_read s word)) (λ a. true≢false (sym (none_wrong (sym (active_25 a) ∙ e)) ∙ rw a at t))
      (λ a. true≢false (rw a at t)))

  pub fill_refused : fill_right (shape_of f) w ≡ false → is_failed (first_row (picture_tests f w)) ≡ true
  fill_refused t =
      rest_failed Sample (verdict_of Fill fails26 (Ok tt)) fails25
      (first_failed Fill (Ok tt) fails26
      (λ e. true≢false (sym (looked_26 ∙ ap (λ (o : Option ℕ). not (is_some o)) (sym fill_26 ∙ e)) ∙ t)))
