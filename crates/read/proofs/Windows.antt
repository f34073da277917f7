-- What the parts answer of a window, and what its reading answers.
-- Assumes nothing.
use Rattle.std.specs.Prelude.{Result, Ok, Err, is_err}
use mathlib.Core.Path.{◌≡◌, refl, sym, ap, ◌∙◌}
use mathlib.Core.Bool.{Bool, true, false, cond, not}
use mathlib.Core.Logic.{⊎_elim}
use mathlib.Core.List.{List}
use mathlib.Core.Option.{Option, none, some, get_or}
use Prim.Native.Nat.{ℕ, ◌≤◌, ◌<◌}
use native.Mathlib.Nat.{eq-or-lt_of_le}
use native.Mathlib.Omega.{arith}
use lib.ListN.{length, replicate}
use lib.Dec.{eqb}
use borrow.Author.Tests.{eq-eqb, ne_eqb, eqb-true, eqb-false, le-ltb}
use Rattle.ground.proofs.Cases.{on_test}
use Rattle.ground.specs.Answer.{Answer, Row, refused}
use Rattle.ground.specs.Search.{first_below}
use Rattle.ground.proofs.Searches.{hit}
use Rattle.span.specs.declared.format.Format.{Format}
use Rattle.span.specs.declared.format.Shape.{Shape}
use Rattle.span.specs.Format.{shape_of, streams, samples_in, symbols_in}
use Rattle.span.proofs.Formats.{small}
use Rattle.span.proofs.Lengths.{known_has_streams}
use Rattle.read_test21_26.specs.declared.call.Service.{Service}
use Rattle.read_test21_26.specs.declared.call.JudgeError.{JudgeError}
use Rattle.read_test21_26.specs.declared.service.Fault.{Fault}
use Rattle.read_test20.specs.declared.whole.TakeError.{TakeError}
use Rattle.read_test20.specs.declared.whole.TakeError.TheVariants.{Invalid, NotExamined}
use Rattle.read_test20.specs.declared.whole.Valid.{Valid}
use Rattle.window.specs.declared.delivery.Delivery.{Delivery}
use Rattle.crcc.specs.declared.sums.Sums.{Sums}
use Rattle.window.specs.Read.{word_tests, delivery_of, picture_of, read_span, rows_left, rows_read}
use Rattle.window.specs.Scan.{start_of, running_at, holds20}
use Rattle.window.specs.Tests.{rows as rows_of}
use Rattle.window.specs.Words.{word_at}
use Rattle.window.specs.Inside.Columns.{sums_of}
use Rattle.read_test20.specs.Inside.Run.{place20}
use Rattle.read_test20.specs.Inside.Whole.{valid_of, taken_of, taken_if, rows_if}
use Rattle.read_test21_26.specs.Inside.Call.{service_of, judged_by, service_if}
use Rattle.read_test21_26.specs.Inside.Verdict.{Verdict, first_row}
use Rattle.window.specs.Inside.Window.{IsWindow}
use Rattle.window.proofs.Windows.{long, read_is}
use Rattle.read_test21_26.specs.Tests.{number_of}
use Rattle.read_test21_26.specs.declared.call.JudgeError.TheVariants.{NoWindow, Fails}
use Rattle.read.specs.declared.answer.ReadError.{ReadError}
use Rattle.read.specs.declared.answer.ReadError.TheVariants.{UnknownFormat, WrongInput, WrongOutput, WrongSymbol, Fails as Wrong}
use Rattle.read.specs.Call.{paper_read}
use Rattle.read.specs.Inside.Answer.{read_taken, read_judged}
use Rattle.read.specs.Inside.Picture.{line_tests, picture_tests}
use Rattle.read.proofs.Summing.{sums_right}
use Rattle.read.proofs.Verdicts.{answer_by, checked_by, then_by, then_by_lem, number_late, refused_told, never_none}

-- the place of test 20 is no further than the end
pub place_most : (p : Shape) (w : List ℕ) → place20 p w ≤ length w
unfolding place20
place_most p w = go (first_below (length w) (λ i. not (holds20 p w i))) refl
  where
    go : (o : Option ℕ) → first_below (length w) (λ i. not (holds20 p w i)) ≡ o
        → get_or (first_below (length w) (λ i. not (holds20 p w i))) (length w) ≤ length w
    go none e = rw e (omega arith)
    go (some k) e = rw e (omega (arith, (hit (λ i. not (holds20 p w i)) (length w) k e).below))

module _ (f : Format) (w : List ℕ) (is : IsWindow f w) where
  abbrev word : ℕ → ℕ
  word = word_at (shape_of f) w

  -- ---- the parts
  pub judged_is : {r : Result Service JudgeError} {c : Sums} → c ≡ sums_of (shape_of f) w → r ≡ service_if f w c
      → r ≡ judged_by (first_row (line_tests f w)) (service_of (shape_of f) w)
  judged_is sums answer =
      let p = shape_of f in
      answer
      ∙ rw (sums, is.known, long)
      (ap (λ (rs : List Row). judged_by (first_row rs) (service_of p w))
      (sums_right p w (known_has_streams f is.known) (small f refl).half f refl))

  -- ---- test 20
  abbrev wrong20 : ℕ → Bool
  wrong20 i = not (holds20 (shape_of f) w i)

  same_20 : first_below (symbols_in (shape_of f)) wrong20 ≡ first_below (length w) wrong20
  same_20 = ap (λ (n : ℕ). first_below n wrong20) (sym is.long)

  pub none_20 : place20 (shape_of f) w ≡ length w → first_below (symbols_in (shape_of f)) wrong20 ≡ none
  unfolding place20
  none_20 e = same_20 ∙ go (first_below (length w) wrong20) refl
    where
      go : (o : Option ℕ) → first_below (length w) wrong20 ≡ o → first_below (length w) wrong20 ≡ none
      go none q = q
      go (some k) q = let z : k ≡ length w = rw q at e in absurd (omega (arith, (hit wrong20 (length w) k q).below))

  pub some_20 : place20 (shape_of f) w < length w → first_below (symbols_in (shape_of f)) wrong20 ≡ some (place20 (shape_of f) w)
  unfolding place20
  some_20 h = same_20 ∙ go (first_below (length w) wrong20) refl
    where
      go : (o : Option ℕ) → first_below (length w) wrong20 ≡ o
          → first_below (length w) wrong20 ≡ some (get_or (first_below (length w) wrong20) (length w))
      go none q = let z : length w < length w = rw q at h in absurd (omega arith)
      go (some k) q = rw q

  -- what the pass answers, and the rows after it
  module _ (rows : List ℕ) (room : length rows ≡ samples_in (shape_of f)) where
    pub taken_is : taken_if f w rows ≡ taken_of (shape_of f) w
    taken_is = rw (is.known, long, eq-eqb (length rows) (samples_in (shape_of f)) room)

    abbrev left : Bool → List ℕ
    left whole = cond whole (rows_of (streams (shape_of f)) word) (replicate (length rows) 0)

    rows_are : rows_if f w rows ≡ left (eqb (place20 (shape_of f) w) (length w))
    rows_are = rw (is.known, long, eq-eqb (length rows) (samples_in (shape_of f)) room)

    pub rows_whole_lem : place20 (shape_of f) w ≡ length w → rows_if f w rows ≡ picture_of f w
    unfolding picture_of
    rows_whole_lem all = rows_are ∙ ap left (eq-eqb (place20 (shape_of f) w) (length w) all)

    pub rows_invalid : place20 (shape_of f) w < length w → rows_if f w rows ≡ replicate (length rows) 0
    rows_invalid h = rows_are ∙ ap left (ne_eqb (place20 (shape_of f) w) (length w) (λ e. absurd (omega arith)))

  -- each of its answers tells which it was
  module _ where
    abbrev answer : Bool → Result Valid TakeError
    answer whole = cond whole (Ok (valid_of (shape_of f) w)) (Err (Invalid (place20 (shape_of f) w)))

    pub whole_told : {v : Valid} → Ok v ≡ taken_of (shape_of f) w → (place20 (shape_of f) w ≡ length w) × (v ≡ valid_of (shape_of f) w)
    whole_told {v} e =
        on_test (eqb (place20 (shape_of f) w) (length w))
        (λ t. (eqb-true _ _ t, let q : Ok v ≡ Ok (valid_of (shape_of f) w) = e ∙ ap answer t in cc))
        (λ t.
        let q : Ok v ≡ Err (Invalid (place20 (shape_of f) w)) = e ∙ ap answer t in
        let z : ◌≡◌ {A = ℕ} 0 1 = cc in
        absurd (omega arith))

    pub invalid_told : {k : ℕ} → Err (Invalid k) ≡ taken_of (shape_of f) w → (place20 (shape_of f) w < length w) × (k ≡ place20 (shape_of f) w)
    invalid_told {k} e =
        on_test (eqb (place20 (shape_of f) w) (length w))
        (λ t.
        let q : Err (Invalid k) ≡ Ok (valid_of (shape_of f) w) = e ∙ ap answer t in
        let z : ◌≡◌ {A = ℕ} 0 1 = cc in
        absurd (omega arith))
        (λ t.
        let q : Err (Invalid k) ≡ Err (Invalid (place20 (shape_of f) w)) = e ∙ ap answer t in (
          ⊎_elim (λ x. absurd (eqb-false _ _ t x)) (λ x. x) (eq-or-lt_of_le (place_most (shape_of f) w)),
          cc,
        ))

    pub always_examined : {A : Type 0} → Err NotExamined ≡ taken_of (shape_of f) w → A
    always_examined e =
        on_test (eqb (place20 (shape_of f) w) (length w))
        (λ t.
        let q : Err NotExamined ≡ Ok (valid_of (shape_of f) w) = e ∙ ap answer t in
        let z : ◌≡◌ {A = ℕ} 0 1 = cc in
        absurd (omega arith))
        (λ t.
        let q : Err NotExamined ≡ Err (Invalid (place20 (shape_of f) w)) = e ∙ ap answer t in
        let z : ◌≡◌ {A = ℕ} 0 1 = cc in
        absurd (omega arith))

  -- ---- the reading
  pub read_20 : place20 (shape_of f) w < length w → read_span f w ≡ refused 20 (place20 (shape_of f) w)
  unfolding read_span
  read_20 h = rw (some_20 h)

  pub read_by : {v : Verdict} → place20 (shape_of f) w ≡ length w → first_row (word_tests f word) ≡ v → read_span f w ≡ answer_by v (delivery_of f w)
  unfolding read_span
  read_by all e =
      rw (none_20 all) (checked_by (delivery_of f w) (word_tests f word) refl ∙ ap (λ (v : Verdict). answer_by v (delivery_of f w)) e)

  -- tests 21 to 24, and then the others
  pub first_fails : {x : Fault} → first_row (line_tests f w) ≡ Err x → first_row (word_tests f word) ≡ Err x
  first_fails e = then_by_lem (line_tests f w) (picture_tests f w) ∙ ap (λ (v : Verdict). then_by v (first_row (picture_tests f w))) e

  pub first_hold : first_row (line_tests f w) ≡ Ok tt → first_row (word_tests f word) ≡ first_row (picture_tests f w)
  first_hold e = then_by_lem (line_tests f w) (picture_tests f w) ∙ ap (λ (v : Verdict). then_by v (first_row (picture_tests f w))) e

  -- ---- what is handed on
  pub taken_refused : (e : TakeError) → Err e ≡ taken_of (shape_of f) w → paper_read (Err (read_taken e)) ≡ read_span f w
  taken_refused (Invalid k) e = let told = invalid_told e in ap (λ (k : ℕ). refused 20 k) told.1 ∙ sym (read_20 told.0)
  taken_refused NotExamined e = always_examined e

  pub judged_refused : (e : JudgeError) → place20 (shape_of f) w ≡ length w → Err e ≡ judged_by (first_row (line_tests f w)) (service_of (shape_of f) w)
      → paper_read (Err (read_judged e)) ≡ read_span f w
  judged_refused (Fails x) all e = sym (read_by all (first_fails (refused_told (service_of (shape_of f) w) (first_row (line_tests f w)) e)))
  judged_refused NoWindow all e = never_none (service_of (shape_of f) w) (first_row (line_tests f w)) e

  -- ---- and the rows with it
  module _ (rows : List ℕ) {left : List ℕ} (room : length rows ≡ samples_in (shape_of f)) where
    pub taken_rows : (e : TakeError) → Err e ≡ taken_of (shape_of f) w → left ≡ rows_if f w rows → left ≡ rows_left (read_span f w) rows (picture_of f w)
    taken_rows (Invalid k) e is =
        let told = invalid_told e in
        is ∙ rows_invalid rows room told.0 ∙ rw (read_20 told.0)
    taken_rows NotExamined e is = always_examined e

  module _ (entry : List ℕ) {left : List ℕ} (all : place20 (shape_of f) w ≡ length w) where
    pub read_rows : (r : Result Delivery ReadError) → paper_read r ≡ read_span f w → is_err r ≡ false → left ≡ picture_of f w
        → left ≡ rows_left (read_span f w) entry (picture_of f w)
    read_rows (Ok d) e t is = is ∙ rw (← e)
    read_rows (Err x) e t is = cc

    pub refused_rows : (r : Result Delivery ReadError) → paper_read r ≡ read_span f w → is_err r ≡ true → (n : ℕ) → n ≡ length entry → left ≡ replicate n 0
        → left ≡ rows_left (read_span f w) entry (picture_of f w)
    refused_rows r e t n size zero = go (first_row (word_tests f word)) refl r e t
      where
        go : (v : Verdict) → first_row (word_tests f word) ≡ v → (r : Result Delivery ReadError) → paper_read r ≡ read_span f w → is_err r ≡ true
            → left ≡ rows_left (read_span f w) entry (picture_of f w)
        go (Err x) q r e t = zero ∙ rw (read_by all q, le-ltb (number_of x.test) 20 (number_late x.test), size)
        go (Ok done) q (Ok d) e t = cc
        go (Ok done) q (Err UnknownFormat) e t = let z = e ∙ read_by all q in cc
        go (Ok done) q (Err WrongInput) e t = let z = e ∙ read_by all q in cc
        go (Ok done) q (Err WrongOutput) e t = let z = e ∙ read_by all q in cc
        go (Ok done) q (Err (WrongSymbol k)) e t = let z = e ∙ read_by all q in cc
        go (Ok done) q (Err (Wrong x)) e t = let z = e ∙ read_by all q in cc

-- ---- the values of a delivery
pub delivery_is : (f : Format) (w : List ℕ) → IsWindow f w → {v : Valid} {service : Service} → v ≡ valid_of (shape_of f) w
    → service ≡ service_of (shape_of f) w
    → record {
      line = service.line;
      content = service.content;
      before = v.before;
      after = v.after;
      repairs = service.repairs;
    }
    ≡ delivery_of f w
unfolding delivery_of
delivery_is f w is {v} {service} valid served =
    let before : v.before ≡ start_of w = ap (λ (x : Valid). x.before) valid in
    let after : v.after ≡ running_at w (symbols_in (shape_of f)) = ap (λ (x : Valid). x.after) valid ∙ ap (running_at w) is.long in
    rw (before, after, served)

-- a call that is not, reads the window
module _ (f : Format) (w : List ℕ) (is : IsWindow f w) (entry : List ℕ) (room : length entry ≡ samples_in (shape_of f)) where
  pub rows_read_lem : rows_left (read_span f w) entry (picture_of f w) ≡ rows_read f w entry
  rows_read_lem = ap (λ (r : Answer Delivery). rows_left r entry (picture_of f w)) (sym (read_is f w is (length entry) room))
