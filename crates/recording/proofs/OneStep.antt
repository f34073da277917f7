-- One call of `next_span`: it gives the first span that is left, or says that none is left.
-- Assumes nothing.
use mathlib.Core.Path.{◌≡◌, refl, sym, ap, ◌∙◌}
use mathlib.Core.Bool.{true}
use mathlib.Core.List.{List, [], ◌∷◌}
use mathlib.Core.Logic.{⊎_elim}
use mathlib.Core.Option.{Option, none, some}
use Prim.Native.Nat.{ℕ, ◌+◌, ◌≤◌}
use native.Mathlib.Omega.{arith}
use lib.ListN.{length}
use types.Run.{OneOf}
use Rattle.ground.specs.Answer.{refused, given}
use Rattle.ground.proofs.Answers.{when_given}
use Rattle.span.specs.declared.format.Format.{Format}
use Rattle.span.specs.Format.{is_known, shape_of, samples_in, symbols_in}
use Rattle.delivery.specs.Delivery.{Found, followed}
use Rattle.delivery.proofs.Finding.{at_the_end, next_then}
use Rattle.std.specs.Prelude.{Option as Answered, Some, None, Result, Ok, Err}
use Rattle.recording.specs.declared.answer.NextError.{NextError}
use Rattle.recording.specs.declared.answer.NextError.TheVariants.{UnknownFormat, WrongInput, WrongOutput, WrongStart}
use Rattle.recording.specs.declared.answer.Spanned.{Spanned}
use Rattle.recording.specs.Call.{paper_next, spanned, next_of, end_or, after_next, words_or, rows_next}
use Rattle.recording.specs.Recording.{limit, Reading, reading, next_from, delivery_from}
use Rattle.recording.proofs.Calling.{next_given}
use Rattle.recording.proofs.Readings.{span_whole}
use Rattle.recording.proofs.Nexts.{next_is}

-- what a step that delivers says: the span is the first that is left, its words are in the rows, and the step ends where it ends
pub record Stepped (f : Format) (r : List ℕ) (start : ℕ) (rows : List ℕ) (s : Spanned) (after : ℕ) : Type 0 where
  pub first : Found Reading
  pub is : s ≡ record { place = first.place; delivery = first.reading.values }
  pub delivers : delivery_from f r start ≡ first ∷ delivery_from f r after
  pub words : rows_next f r start rows ≡ first.reading.words
  pub behind : start + symbols_in (shape_of f) ≤ after
  pub inside : after ≤ length r

module _ (f : Format) (known : is_known f ≡ true) (r : List ℕ) where
  abbrev n : ℕ
  n = symbols_in (shape_of f)

  -- at the end
  pub none_left : (start : ℕ) → length r ≤ start → delivery_from f r start ≡ []
  none_left start h = at_the_end n (reading f) (span_whole f known) r start h

  module _ (short : length r ≤ limit) (start : ℕ) (inside : start ≤ length r) (rows : List ℕ) (room : length rows ≡ samples_in (shape_of f)) where
    answer : next_of f r start (length rows) ≡ given (spanned (next_from f r start))
    answer = next_given f r start rows known short room inside

    next : delivery_from f r start ≡ followed (next_from f r start) (λ e. delivery_from f r (e.place + n))
    next = next_then n (reading f) (span_whole f known) r start

    pub stepped : {a : Result (Answered Spanned) NextError} {s : Spanned} {after : ℕ} → a ≡ Ok (Some s) → paper_next a ≡ next_of f r start (length rows)
        → after ≡ after_next f r start (length rows) → Stepped f r start rows s after
    stepped {a} {s} {after} is e at = go (next_from f r start) refl
      where
        given_is : given (some s) ≡ given (spanned (next_from f r start))
        given_is = sym (ap paper_next is) ∙ e ∙ answer

        some_is : some s ≡ spanned (next_from f r start)
        some_is = cc given_is

        end : after ≡ s.place + n
        end = at ∙ ap (end_or n (length r) start) (answer ∙ sym given_is)

        go : (x : Option (Found Reading)) → next_from f r start ≡ x → Stepped f r start rows s after
        go none x = let z : ◌≡◌ {A = ℕ} 0 1 = cc (some_is ∙ ap spanned x) in absurd (omega arith)
        go (some e) x =
            let same : some s ≡ some (record { place = e.place; delivery = e.reading.values }) = some_is ∙ ap spanned x in
            let s-is : s ≡ record { place = e.place; delivery = e.reading.values } = cc same in
            let same_place : e.place ≡ s.place = sym (ap (λ (t : Spanned). t.place) s-is) in
            let here = next_is f known r start e x in
            record {
              first = e;
              is = s-is;
              delivers = next ∙ rw x (ap (λ (q : ℕ). e ∷ delivery_from f r q) (ap (λ (k : ℕ). k + n) same_place ∙ sym end));
              words = sym (when_given rows (words_or rows (next_from f r start)) answer) ∙ ap (words_or rows) x;
              behind = omega (arith, end, same_place, here.behind);
              inside = omega (arith, end, same_place, here.inside);
            }

    none_next : given none ≡ next_of f r start (length rows) → delivery_from f r start ≡ []
    none_next e = next ∙ go (next_from f r start) refl
      where
        go : (x : Option (Found Reading)) → next_from f r start ≡ x → followed (next_from f r start) (λ e. delivery_from f r (e.place + n)) ≡ []
        go none x = rw x
        go (some a) x =
            let z : ◌≡◌ {A = ℕ} 0 1 = cc (e ∙ answer ∙ ap (λ (o : Option (Found Reading)). given (spanned o)) x) in
            absurd (omega arith)

    -- a call with such a start and such rows is refused by nothing
    not_refused : {number place : ℕ} → refused number place ≡ next_of f r start (length rows) → ⊥
    not_refused e = let z : ◌≡◌ {A = ℕ} 0 1 = cc (e ∙ answer) in omega arith

    -- so what does not deliver says that nothing is left
    pub ended : (a : Result (Answered Spanned) NextError) → ((s : Spanned) → a ≡ Ok (Some s) → ⊥) → paper_next a ≡ next_of f r start (length rows)
        → delivery_from f r start ≡ []
    ended (Ok (Some s)) x e = absurd (x s refl)
    ended (Ok None) x e = none_next e
    ended (Err UnknownFormat) x e = absurd (not_refused e)
    ended (Err WrongInput) x e = absurd (not_refused e)
    ended (Err WrongOutput) x e = absurd (not_refused e)
    ended (Err WrongStart) x e = absurd (not_refused e)
