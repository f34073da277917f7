-- Steps through a recording, with the same rows lent each time: what each answers and leaves (document 01, "Receiving and finding").
-- Assumes nothing.
use Rattle.std.specs.Prelude.{ℕ, zero, suc, List, [], ◌∷◌, length}
use Rattle.std.proofs.Math.Option.{Option, none, some}
use Rattle.ground.specs.Answer.{Answer, given}
use Rattle.span.specs.declared.format.Format.{Format}
use Rattle.delivery.specs.Delivery.{Found}
use Rattle.recording.specs.declared.answer.Spanned.{Spanned}
use Rattle.recording.specs.Call.{next_of, after_next, rows_next}
use Rattle.recording.specs.Recording.{Reading}

-- one step: its answer, and the rows after it
pub record Step : Type 0 where
  pub answer : Answer (Option Spanned)
  pub rows : List ℕ

-- k steps from place p of a recording: the answer of each, and the rows after it
unfoldable pub run_from : ℕ → Format → List ℕ → ℕ → List ℕ → List Step
run_from zero f r p rows = []
run_from (suc k) f r p rows =
    record { answer = next_of f r p (length rows); rows = rows_next f r p rows } ∷ run_from k f r (after_next f r p (length rows)) (rows_next f r p rows)

-- what k steps leave: the place from which the next one searches, and the rows
pub record Rest : Type 0 where
  pub place : ℕ
  pub rows : List ℕ

unfoldable pub rest_by : ℕ → Format → List ℕ → ℕ → List ℕ → Rest
rest_by zero f r p rows = record { place = p; rows = rows }
rest_by (suc k) f r p rows = rest_by k f r (after_next f r p (length rows)) (rows_next f r p rows)

-- the step that gives a span
abbrev pub span_step : Found Reading → Step
span_step e = record { answer = given (some (record { place = e.place; delivery = e.reading.values })); rows = e.reading.words }

-- the step at the end, which leaves the rows as they were
abbrev pub end_step : List ℕ → Step
end_step rows = record { answer = given none; rows = rows }

-- the rows after the last of some spans; the lent ones if there is none
abbrev pub last_rows : List ℕ → List (Found Reading) → List ℕ
last_rows rows [] = rows
last_rows rows (e ∷ more) = last_rows e.reading.words more
