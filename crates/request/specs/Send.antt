-- Sending a span: its refusals in the order tried, the answer, and the symbol buffer afterwards (document 01, "Sending" and its table of
-- refusals).
-- Assumes nothing.
use Rattle.std.specs.Prelude.{ℕ, ◌/◌, Bool, not, List, [], ◌∷◌, eqb, length, get_or, Result, Ok, Err}
use Rattle.std.proofs.Math.Option.{Option}
use Rattle.ground.specs.Answer.{Answer, refused, Row, unless, checked, unless_refused, given}
use Rattle.ground.specs.Search.{first_below}
use Rattle.line.specs.Stream.{is_line}
use Rattle.symbol.specs.declared.disparity.Disparity.{Disparity}
use Rattle.span.specs.Content.{Content}
use Rattle.span.specs.declared.format.Format.{Format}
use Rattle.span.specs.Format.{is_known, shape_of, samples_in, symbols_in}
use Rattle.span.specs.Sample.{allowed}
use Rattle.span.specs.Span.{span_symbols, span_after}
use Rattle.span.specs.Stream.{Request}
use Rattle.request.specs.declared.sent.SendError.{SendError}
use Rattle.request.specs.declared.sent.SendError.TheVariants.{UnknownFormat, NoLine, WrongInput, WrongOutput, NotAllowed}

abbrev pub request : ℕ → Content → List ℕ → Request
request n content samples = record { line = n; content = content; samples = samples }

-- the paper's number and values for each answer
abbrev pub paper_sent : Result Disparity SendError → Answer Disparity
paper_sent (Ok d) = given d
paper_sent (Err UnknownFormat) = refused 1 0
paper_sent (Err NoLine) = refused 2 0
paper_sent (Err WrongInput) = refused 3 0
paper_sent (Err WrongOutput) = refused 4 0
paper_sent (Err (NotAllowed place)) = refused 6 place

-- sample i, as given, may not be sent: it is one of stream i / 1920
abbrev pub forbidden : Format → Request → ℕ → Bool
forbidden f a i = not (allowed f a.line (i / 1920) (get_or a.samples i 0))

-- 6: the lowest index of a sample that may not be sent
unfoldable pub first_forbidden : Format → Request → Option ℕ
first_forbidden f a = first_below (length a.samples) (forbidden f a)

-- the refusals in the order tried, for a symbol buffer of this length
abbrev pub refusals : Format → Request → ℕ → List Row
refusals f a room =
    unless 1 (is_known f)
    ∷ unless 2 (is_line a.line)
    ∷ unless 3 (eqb (length a.samples) (samples_in (shape_of f)))
    ∷ unless 4 (eqb room (symbols_in (shape_of f)))
    ∷ record { number = 6; fails = first_forbidden f a }
    ∷ []

-- the disparity after the span, or the refusal
abbrev pub send_of : Disparity → Format → Request → ℕ → Answer Disparity
send_of d f a room = checked (refusals f a room) (span_after d f a)

-- the symbol buffer afterwards
abbrev pub sent_buffer : Disparity → Format → Request → List ℕ → List ℕ
sent_buffer d f a symbols = unless_refused (send_of d f a (length symbols)) symbols (span_symbols d f a)
