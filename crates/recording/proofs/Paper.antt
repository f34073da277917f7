-- Recordings in document 01's own terms and numerals, proved: each field cites the law that says it.
-- Assumes nothing.
use mathlib.Core.Path.{◌≡◌, refl, sym, ap, ◌∙◌}
use mathlib.Core.List.{List}
use mathlib.Core.Option.{none, some}
use Prim.Native.Nat.{ℕ, ◌+◌, ◌≤◌, ◌<◌}
use lib.ListN.{length}
use borrow.Author.Tests.{eq-eqb, ne_eqb, le-leb, lt-leb}
use Rattle.ground.specs.Answer.{refused, given}
use Rattle.span.specs.declared.format.Format.{Format}
use Rattle.span.specs.Format.{format_from, shape_of, samples_in, symbols_in}
use Rattle.window.specs.Read.{delivery_of, picture_of, read_span}
use Rattle.window.specs.Tests.{holds25, holds26}
use Rattle.span.specs.Numbers.{IsFormat, Samples, Symbols}
use Rattle.span.proofs.Formats.{is_known_lem, unknown}
use Rattle.span.proofs.Numbers.{symbols_are, samples_are, samples_told}
use Rattle.delivery.specs.Kept.{kept_from}
use Rattle.delivery.proofs.Keeping.{kept_start, kept_last}
use Rattle.recording.specs.declared.answer.Spanned.{Spanned}
use Rattle.recording.specs.Call.{next_of, end_or, after_next}
use Rattle.recording.specs.Paper.{RecordingPaper}
use Rattle.recording.specs.Recording.{limit, reading, delivery_from}
use Rattle.recording.proofs.Calling.{find_meets_1, find_meets_3, find_meets_5}
use Rattle.recording.proofs.Readings.{is_read, not_read, reading_told}

-- the refusals of the next span by the room alone
module _ (f : Format) (r : List ℕ) (start room : ℕ) where
  next_1 : (IsFormat f → ⊥) → next_of f r start room ≡ refused 1 0
  next_1 x = simp (unknown f x)

  module _ (k : IsFormat f) where
    next_3 : 2097152 < length r → next_of f r start room ≡ refused 3 0
    unfolding limit
    next_3 h = simp (is_known_lem f k, lt-leb (length r) 2097152 h)

    module _ (short : length r ≤ 2097152) where
      next_4 : (Samples f room → ⊥) → next_of f r start room ≡ refused 4 0
      unfolding limit
      next_4 x =
          simp
          (is_known_lem f k, le-leb (length r) 2097152 short, ne_eqb room (samples_in (shape_of f)) (λ e. x (samples_told f room k e)))

      next_5 : Samples f room → length r < start → next_of f r start room ≡ refused 5 0
      unfolding limit
      next_5 h b =
          simp
          (is_known_lem f k, le-leb (length r) 2097152 short, eq-eqb room (samples_in (shape_of f)) (samples_are f room h), lt-leb start (length r) b)

-- the place after
module _ (f : Format) (r : List ℕ) (start room n : ℕ) (long : Symbols f n) where
  span_long : n ≡ symbols_in (shape_of f)
  span_long = symbols_are f n long

  after_span : (s : Spanned) → next_of f r start room ≡ given (some s) → after_next f r start room ≡ s.place + n
  after_span s e = ap (end_or (symbols_in (shape_of f)) (length r) start) e ∙ ap (λ (k : ℕ). s.place + k) (sym span_long)

  after_none : next_of f r start room ≡ given none
      → (length r + 1 ≤ start + n → after_next f r start room ≡ start)
      × (start + n ≤ length r + 1 → after_next f r start room + n ≡ length r + 1)
  after_none e =
      let at : after_next f r start room ≡ kept_from n (length r) start =
      ap (end_or (symbols_in (shape_of f)) (length r) start) e ∙ ap (λ (k : ℕ). kept_from k (length r) start) (sym span_long) in
      (λ h. at ∙ kept_start n (length r) start h, λ h. ap (λ (k : ℕ). k + n) at ∙ kept_last n (length r) start h)

component_unread : (number depth structure size c e : ℕ) (r : List ℕ) (p : ℕ)
    → delivery_from (format_from number depth c structure size) r p ≡ delivery_from (format_from number depth e structure size) r p
unfolding reading read_span picture_of shape_of holds25 holds26 delivery_of
component_unread number depth structure size c e r p = refl

pub recording_paper : RecordingPaper
unfolding limit
recording_paper = record {
  the_limit = refl;
  read_if = λ f w long d e. is_read f w long e;
  read_only_if = λ f w x e. let told = reading_told f w x e in (told.long, told.values, told.words);
  not_read = λ f w long number place e. not_read f w long e;
  find_meets1 = λ f r start x. find_meets_1 f r start (unknown f x);
  find_meets3 = λ f r start k. find_meets_3 f r start (is_known_lem f k);
  find_meets5 = λ f r start k. find_meets_5 f r start (is_known_lem f k);
  next_meets1 = next_1;
  next_meets3 = next_3;
  next_meets4 = next_4;
  next_meets5 = next_5;
  after_span = λ f r start room n s long e. after_span f r start room n long s e;
  after_none = λ f r start room n long e. after_none f r start room n long e;
  after_refusal = λ f r start room number place e. ap (end_or (symbols_in (shape_of f)) (length r) start) e;
  component_unread = component_unread;
}
