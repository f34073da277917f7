-- What is answered where all refusals are told as one.
-- Assumes nothing.
use Rattle.std.specs.Prelude.{Some, None, Ok, Err}
use mathlib.Core.Path.{◌≡◌, refl, sym, ap, ◌∙◌}
use mathlib.Core.Bool.{true, false, true≢false, ◌&&◌}
use mathlib.Core.List.{List}
use mathlib.Core.Logic.{⊎_elim}
use mathlib.Core.Option.{none}
use Prim.Native.Nat.{ℕ}
use native.Mathlib.Nat.{eq-or-lt_of_le}
use native.Mathlib.Omega.{arith}
use lib.Dec.{eqb}
use lib.ListN.{length}
use borrow.Author.Tests.{eq-eqb, eqb-true, eqb-false}
use Rattle.ground.specs.Answer.{Answer, refused, given}
use Rattle.ground.proofs.Cases.{on_test}
use Rattle.ground.proofs.Tests.{both_left, both_right}
use Rattle.span.specs.declared.format.Format.{Format}
use Rattle.span.specs.Format.{is_known, shape_of, samples_in, symbols_in}
use Rattle.span.specs.Inside.Fit.{ready}
use Rattle.span.proofs.Readiness.{known_then, symbols_then, rows_then}
use Rattle.window.specs.declared.delivery.Delivery.{Delivery}
use Rattle.window.specs.Read.{delivery_of, picture_of, read_span, read_of}
use Rattle.window.specs.Inside.Fill.{fill_right}
use Rattle.window.specs.Inside.Window.{IsWindow}
use Rattle.window.proofs.Windows.{unknown, no_window, no_room, read_is}
use Rattle.read_test20.specs.declared.whole.Valid.{Valid}
use Rattle.read_test20.specs.Inside.Run.{place20}
use Rattle.read_test20.specs.Inside.Whole.{valid_of, is_all_valid, whole_if, rows_whole}
use Rattle.read_test21_26.specs.Inside.Verdict.{Verdict, is_failed, first_row}
use Rattle.read.specs.Inside.Accept.{delivered_in, rows_accepted}
use Rattle.read.specs.Inside.Picture.{line_tests, picture_tests}
use Rattle.read.proofs.Picturing.{fill_refused}
use Rattle.read.proofs.Verdicts.{answer_by, then_by, then_by_lem}
use Rattle.read.proofs.Windows.{place_most, read_20, read_by, first_hold}

-- ---- a test that does not hold
failed_none : (d : Delivery) (v : Verdict) → is_failed v ≡ true → none ≡ delivered_in (answer_by v d)
failed_none d (Ok done) t = absurd (true≢false (sym t))
failed_none d (Err x) t = refl

then_failed : (v more : Verdict) → is_failed more ≡ true → is_failed (then_by v more) ≡ true
then_failed (Ok done) more t = t
then_failed (Err x) more t = refl

failed_then : (v more : Verdict) → is_failed v ≡ true → is_failed (then_by v more) ≡ true
failed_then (Ok done) more t = absurd (true≢false (sym t))
failed_then (Err x) more t = refl

-- tests 21 to 24
pub not_served : (f : Format) (w : List ℕ) → IsWindow f w → place20 (shape_of f) w ≡ length w → is_failed (first_row (line_tests f w)) ≡ true
    → none ≡ delivered_in (read_span f w)
not_served f w is all t =
    failed_none (delivery_of f w) (then_by (first_row (line_tests f w)) (first_row (picture_tests f w)))
    (failed_then (first_row (line_tests f w)) (first_row (picture_tests f w)) t)
    ∙ sym (ap delivered_in (read_by f w is all (then_by_lem (line_tests f w) (picture_tests f w))))

-- tests 25 and 26 after those that hold
module _ (f : Format) (w : List ℕ) (is : IsWindow f w) (all : place20 (shape_of f) w ≡ length w) (hold : first_row (line_tests f w) ≡ Ok tt) where
  pub not_accepted : is_failed (first_row (picture_tests f w)) ≡ true → none ≡ delivered_in (read_span f w)
  not_accepted t =
      failed_none (delivery_of f w) (first_row (picture_tests f w)) t ∙ sym (ap delivered_in (read_by f w is all (first_hold f w is hold)))

-- and whatever the others say, where the fill is wrong
unfilled : (f : Format) (w : List ℕ) → IsWindow f w → place20 (shape_of f) w ≡ length w → fill_right (shape_of f) w ≡ false
    → none ≡ delivered_in (read_span f w)
unfilled f w is all t =
    failed_none (delivery_of f w) (then_by (first_row (line_tests f w)) (first_row (picture_tests f w)))
    (then_failed (first_row (line_tests f w)) (first_row (picture_tests f w)) (fill_refused f w is t))
    ∙ sym (ap delivered_in (read_by f w is all (then_by_lem (line_tests f w) (picture_tests f w))))

-- ---- what the pass says
module _ (f : Format) (w : List ℕ) (room : ℕ) where
  abbrev place : ℕ
  place = place20 (shape_of f) w

  -- all that is asked of a window
  pub record Right (v : Valid) : Type 0 where
    pub is : IsWindow f w
    pub enough : room ≡ samples_in (shape_of f)
    pub all : place ≡ length w
    pub valid : v ≡ valid_of (shape_of f) w
    pub filled : fill_right (shape_of f) w ≡ true
    pub whole : is_all_valid f w room ≡ true

  pub right : {v : Valid} → Some v ≡ whole_if f w room → Right v
  right {v} e =
      on_test (is_all_valid f w room)
      (λ t.
      let fit : ready f (length w) room ≡ true = both_left (ready f (length w) room) (eqb place (length w) && fill_right (shape_of f) w) t in
      let both = both_right (ready f (length w) room) (eqb place (length w) && fill_right (shape_of f) w) t in
      let same : Some v ≡ Some (valid_of (shape_of f) w) = rw t at e in
      record {
        is = record { known = known_then f (length w) room fit; long = symbols_then f (length w) room fit };
        enough = rows_then f (length w) room fit;
        all = eqb-true place (length w) (both_left (eqb place (length w)) (fill_right (shape_of f) w) both);
        valid = cc same;
        filled = both_right (eqb place (length w)) (fill_right (shape_of f) w) both;
        whole = t;
      })
      (λ t. let z : ◌≡◌ {A = ℕ} 0 1 = cc (rw t at e) in absurd (omega arith))

  -- what it does not say is refused, by one number or another
  pub wrong : None ≡ whole_if f w room → none ≡ delivered_in (read_of f w room)
  wrong e = on_test (is_known f) with_format (λ t. sym (ap delivered_in (unknown f w room t).0))
    where
      whole_not : is_all_valid f w room ≡ true → ⊥
      whole_not t = let z : ◌≡◌ {A = ℕ} 0 1 = cc (rw t at e) in omega arith

      with_all : (is : IsWindow f w) → room ≡ samples_in (shape_of f) → place ≡ length w → none ≡ delivered_in (read_of f w room)
      with_all is enough all =
          on_test (fill_right (shape_of f) w)
          (λ t.
          absurd
          (whole_not
          (rw (is.known, eq-eqb (length w) (symbols_in (shape_of f)) is.long, eq-eqb room (samples_in (shape_of f)) enough, eq-eqb place (length w) all, t))))
          (λ t. unfilled f w is all t ∙ sym (ap delivered_in (read_is f w is room enough)))

      with_room : (is : IsWindow f w) → room ≡ samples_in (shape_of f) → none ≡ delivered_in (read_of f w room)
      with_room is enough =
          ⊎_elim (with_all is enough)
          (λ h. sym (ap delivered_in (read_is f w is room enough ∙ read_20 f w is h)))
          (eq-or-lt_of_le (place_most (shape_of f) w))

      with_window : IsWindow f w → none ≡ delivered_in (read_of f w room)
      with_window is =
          on_test (eqb room (samples_in (shape_of f))) (λ t. with_room is (eqb-true room (samples_in (shape_of f)) t))
          (λ t. sym (ap delivered_in (no_room f w is room (eqb-false room (samples_in (shape_of f)) t))))

      with_format : is_known f ≡ true → none ≡ delivered_in (read_of f w room)
      with_format known =
          on_test (eqb (length w) (symbols_in (shape_of f)))
          (λ t. with_window (record { known = known; long = eqb-true (length w) (symbols_in (shape_of f)) t }))
          (λ t. sym (ap delivered_in (no_window f w room known (eqb-false (length w) (symbols_in (shape_of f)) t)).0))

-- ---- the rows afterwards
pub rows_right : (f : Format) (w : List ℕ) (room : ℕ) {left : List ℕ} → is_all_valid f w room ≡ true → left ≡ rows_whole f w room left → left ≡ picture_of f w
unfolding picture_of
rows_right f w room t e = rw t at e

-- the picture is there, or it is not asked for
pub rows_there : (a : Answer Delivery) {left made : List ℕ} → left ≡ made → left ≡ rows_accepted a made left
rows_there (refused number place) e = refl
rows_there (given d) e = e

pub rows_any : (a : Answer Delivery) {left : List ℕ} (made : List ℕ) → none ≡ delivered_in a → left ≡ rows_accepted a made left
rows_any (refused number place) made e = refl
rows_any (given d) made e = let z : ◌≡◌ {A = ℕ} 0 1 = cc e in absurd (omega arith)
