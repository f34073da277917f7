-- What the calls on a recording answer to C (document 01, "Receiving and finding"). Whether there is a span is a field of its own: finding
-- none is not a refusal, and place 0 is a place.
-- Assumes nothing.
use Rattle.std.specs.Prelude.{ℕ, true, false}
use Rattle.std.proofs.Math.Option.{Option, none, some}
use Rattle.ground.specs.Answer.{Answer, refused, given}
use Rattle.recording.specs.declared.answer.Spanned.{Spanned}
use Rattle.recording_answers.specs.declared.recordings.FindAnswer.{FindAnswer}
use Rattle.recording_answers.specs.declared.recordings.NextAnswer.{NextAnswer}
use Rattle.span_answers.specs.Spans.{values_of, no_values}

abbrev pub find_answer_of : Answer (Option ℕ) → FindAnswer
find_answer_of (refused number place) = record { number = number; found = false; place = 0 }
find_answer_of (given none) = record { number = 0; found = false; place = 0 }
find_answer_of (given (some place)) = record { number = 0; found = true; place = place }

-- the answer, and where to continue
abbrev pub next_answer_of : Answer (Option Spanned) → ℕ → NextAnswer
next_answer_of (refused number place) resume =
    record { number = number; found = false; place = 0; resume = resume; delivery = no_values }
next_answer_of (given none) resume = record { number = 0; found = false; place = 0; resume = resume; delivery = no_values }
next_answer_of (given (some s)) resume =
    record { number = 0; found = true; place = s.place; resume = resume; delivery = values_of s.delivery }
