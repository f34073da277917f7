-- What holds of the answers to C of the calls on recordings: no two answers of the library cross as the same, so the number and the fields
-- determine what was answered. `proofs/Laws` proves each.
-- Assumes nothing.
use Rattle.std.specs.Prelude.{ℕ, Option as Answered, Result}
use Rattle.std.proofs.Math.Option.{none}
use Rattle.ground.specs.Answer.{refused, given}
use Rattle.ground.specs.Inside.Answer.{Injective}
use Rattle.span_answers.specs.Laws.{SaysNothing}
use Rattle.recording.specs.declared.answer.FindError.{FindError}
use Rattle.recording.specs.declared.answer.Next.{Next}
use Rattle.recording.specs.Call.{paper_found, paper_next}
use Rattle.recording_answers.specs.Recordings.{find_answer_of, next_answer_of}

pub record RecordingAnswersLaws : Type 0 where
  -- a refusal, and that there is no span, say nothing of one
  pub next_refused : (number place resume : ℕ) → SaysNothing (next_answer_of (refused number place) resume).delivery
  pub next_none : (resume : ℕ) → SaysNothing (next_answer_of (given none) resume).delivery
  -- finding a span
  pub find_told : Injective (λ (r : Result (Answered ℕ) FindError). find_answer_of (paper_found r))
  -- the next span, and where to continue
  pub next_told : Injective (λ (r : Next). next_answer_of (paper_next r.answer) r.after)
