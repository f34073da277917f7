-- An answer to C tells what the library answered: no two answers cross as the same.
-- Assumes nothing.
use mathlib.Core.Path.{◌≡◌, refl, sym, ap, ap₂, ◌∙◌}
use mathlib.Core.Bool.{cond}
use mathlib.Core.Option.{Option, none, some}
use Prim.Native.Nat.{ℕ}
use Rattle.ground.specs.Answer.{Answer, given}
use Rattle.ground.specs.Inside.Answer.{Injective}
use Rattle.window.specs.declared.delivery.Delivery.{Delivery}
use Rattle.std.specs.Prelude.{Option as Answered, Some, None, Result, Ok, Err}
use Rattle.recording.specs.declared.answer.FindError.{FindError}
use Rattle.recording.specs.declared.answer.FindError.TheVariants as Find
use Rattle.recording.specs.declared.answer.Next.{Next}
use Rattle.recording.specs.declared.answer.NextError.{NextError}
use Rattle.recording.specs.declared.answer.NextError.TheVariants as Next
use Rattle.recording.specs.declared.answer.Spanned.{Spanned}
use Rattle.recording.specs.Call.{paper_found, paper_next}
use Rattle.recording.proofs.OneToOne.{found_one_to_one, next_one_to_one}
use Rattle.recording_answers.specs.declared.recordings.FindAnswer.{FindAnswer}
use Rattle.recording_answers.specs.declared.recordings.NextAnswer.{NextAnswer}
use Rattle.recording_answers.specs.Recordings.{find_answer_of, next_answer_of}
use Rattle.boundary.proofs.Told.{through, answer_by}
use Rattle.span_answers.proofs.Told.{values_back, values_back_lem}

find_back : FindAnswer → Answer (Option ℕ)
find_back a = answer_by a.number 0 (cond a.found (some a.place) none)

pub find_told : Injective (λ (r : Result (Answered ℕ) FindError). find_answer_of (paper_found r))
unfolding find_back
find_told = through find_answer_of find_back back found_one_to_one
  where
    back : (r : Result (Answered ℕ) FindError) → find_back (find_answer_of (paper_found r)) ≡ paper_found r
    back (Ok (Some place)) = refl
    back (Ok None) = refl
    back (Err Find.UnknownFormat) = refl
    back (Err Find.WrongInput) = refl
    back (Err Find.WrongStart) = refl

next_back : NextAnswer → Answer (Option Spanned)
next_back a =
    answer_by a.number 0 (cond a.found (some (record { place = a.place; delivery = values_back a.delivery })) none)

next_back_lem : (r : Result (Answered Spanned) NextError) (resume : ℕ) → next_back (next_answer_of (paper_next r) resume) ≡ paper_next r
unfolding next_back
next_back_lem (Ok (Some s)) resume =
    ap (λ (d : Delivery). given (some (record { place = s.place; delivery = d }))) (values_back_lem s.delivery)
next_back_lem (Ok None) resume = refl
next_back_lem (Err Next.UnknownFormat) resume = refl
next_back_lem (Err Next.WrongInput) resume = refl
next_back_lem (Err Next.WrongOutput) resume = refl
next_back_lem (Err Next.WrongStart) resume = refl

resume_told : (r : Result (Answered Spanned) NextError) (n : ℕ) → (next_answer_of (paper_next r) n).resume ≡ n
resume_told (Ok (Some s)) n = refl
resume_told (Ok None) n = refl
resume_told (Err Next.UnknownFormat) n = refl
resume_told (Err Next.WrongInput) n = refl
resume_told (Err Next.WrongOutput) n = refl
resume_told (Err Next.WrongStart) n = refl

-- the answer, and where to go on
pub next_told : Injective (λ (r : Next). next_answer_of (paper_next r.answer) r.after)
next_told a b p =
    let answer = next_one_to_one a.answer b.answer
    (sym (next_back_lem a.answer a.after) ∙ ap next_back p ∙ next_back_lem b.answer b.after) in
    let after = sym (resume_told a.answer a.after) ∙ ap (λ (n : NextAnswer). n.resume) p ∙ resume_told b.answer b.after in
    ap₂ (λ (x : Result (Answered Spanned) NextError) (n : ℕ). record { answer = x; after = n }) answer after
