-- A step of a reader that holds the recording and its place (document 01, "Which form goes where").
-- Assumes nothing.
use Rattle.std.specs.Prelude.{ℕ, List, length}
use Rattle.std.proofs.Math.Option.{Option}
use Rattle.ground.specs.Answer.{Answer}
use Rattle.span.specs.declared.format.Format.{Format}
use Rattle.recording.specs.declared.answer.Spanned.{Spanned}
use Rattle.recording.specs.Call.{next_of, after_next, rows_next}
use Rattle.stepping.specs.declared.reader.Reader.{Reader}

-- with rows lent: its answer, the reader afterwards, and the rows. It is the next span from the reader's place.
abbrev pub answer_of : Format → Reader → List ℕ → Answer (Option Spanned)
answer_of f r rows = next_of f r.symbols.now r.place (length rows)

abbrev pub moved_of : Format → Reader → List ℕ → Reader
moved_of f r rows = record { symbols = r.symbols; place = after_next f r.symbols.now r.place (length rows) }

abbrev pub rows_after_step : Format → Reader → List ℕ → List ℕ
rows_after_step f r rows = rows_next f r.symbols.now r.place rows
