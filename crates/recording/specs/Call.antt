-- The two calls: finding a span, and finding and reading the next one (document 01, "Receiving and finding" and its table of refusals).
-- Assumes nothing.
use Rattle.std.specs.Prelude.{ℕ, ◌+◌, List, [], ◌∷◌, eqb, leb, length, Option as Answered, Result, Ok, Err}
use Rattle.std.proofs.Math.Option.{Option, none, some}
use Rattle.ground.specs.Answer.{Answer, refused, given, Row, unless, checked, unless_refused, told}
use Rattle.span.specs.declared.format.Format.{Format}
use Rattle.span.specs.Format.{is_known, shape_of, samples_in, symbols_in}
use Rattle.delivery.specs.Delivery.{Found as FoundAt}
use Rattle.delivery.specs.Kept.{kept_from}
use Rattle.recording.specs.declared.answer.FindError.{FindError}
use Rattle.recording.specs.declared.answer.FindError.TheVariants.{UnknownFormat, WrongInput, WrongStart}
use Rattle.recording.specs.declared.answer.NextError.{NextError}
use Rattle.recording.specs.declared.answer.NextError.TheVariants.{UnknownFormat as NoFormat, WrongInput as NoInput, WrongOutput, WrongStart as NoStart}
use Rattle.recording.specs.declared.answer.Spanned.{Spanned}
use Rattle.recording.specs.Recording.{limit, Reading, find_from, next_from}

-- ---- finding

-- the paper's number and value for each answer
abbrev pub paper_found : Result (Answered ℕ) FindError → Answer (Option ℕ)
paper_found (Ok place) = given (told place)
paper_found (Err UnknownFormat) = refused 1 0
paper_found (Err WrongInput) = refused 3 0
paper_found (Err WrongStart) = refused 5 0

-- 1 for an unknown format, 3 for a recording that is too long, 5 for a start beyond it
abbrev pub find_rows : Format → List ℕ → ℕ → List Row
find_rows f r start = unless 1 (is_known f) ∷ unless 3 (leb (length r) limit) ∷ unless 5 (leb start (length r)) ∷ []

abbrev pub find_of : Format → List ℕ → ℕ → Answer (Option ℕ)
find_of f r start = checked (find_rows f r start) (find_from f r start)

-- ---- the next span

abbrev pub paper_next : Result (Answered Spanned) NextError → Answer (Option Spanned)
paper_next (Ok s) = given (told s)
paper_next (Err NoFormat) = refused 1 0
paper_next (Err NoInput) = refused 3 0
paper_next (Err WrongOutput) = refused 4 0
paper_next (Err NoStart) = refused 5 0

-- what is answered for a span that is found: its place and the reader's values
abbrev pub spanned : Option (FoundAt Reading) → Option Spanned
spanned none = none
spanned (some e) = some (record { place = e.place; delivery = e.reading.values })

-- 1, 3, 4 if the rows do not have the length of a span's picture, 5
abbrev pub next_rows : Format → List ℕ → ℕ → ℕ → List Row
next_rows f r start room =
    unless 1 (is_known f)
    ∷ unless 3 (leb (length r) limit)
    ∷ unless 4 (eqb room (samples_in (shape_of f)))
    ∷ unless 5 (leb start (length r))
    ∷ []

abbrev pub next_of : Format → List ℕ → ℕ → ℕ → Answer (Option Spanned)
next_of f r start room = checked (next_rows f r start room) (spanned (next_from f r start))

-- the place after: the end of the span that is delivered; if there is none, the first place at or after the start at which a span may still
-- begin when more symbols arrive, so that nothing before it need be kept; the start if the call is refused
abbrev pub end_or : ℕ → ℕ → ℕ → Answer (Option Spanned) → ℕ
end_or n long start (refused number place) = start
end_or n long start (given none) = kept_from n long start
end_or n long start (given (some s)) = s.place + n

abbrev pub after_next : Format → List ℕ → ℕ → ℕ → ℕ
after_next f r start room = end_or (symbols_in (shape_of f)) (length r) start (next_of f r start room)

-- the rows afterwards: the picture of the span that is delivered, else as they were
abbrev pub words_or : List ℕ → Option (FoundAt Reading) → List ℕ
words_or entry none = entry
words_or entry (some e) = e.reading.words

abbrev pub rows_next : Format → List ℕ → ℕ → List ℕ → List ℕ
rows_next f r start entry = unless_refused (next_of f r start (length entry)) entry (words_or entry (next_from f r start))
