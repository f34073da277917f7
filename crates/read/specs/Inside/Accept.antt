-- What the finder asks of the reader: an answer with all refusals told as one, and rows that are its own.
-- Assumes nothing.
use Rattle.std.specs.Prelude.{ℕ, List, Option as Answered, Some, None}
use Rattle.std.proofs.Math.Option.{Option, none, some}
use Rattle.ground.specs.Answer.{Answer, refused, given}
use Rattle.window.specs.declared.delivery.Delivery.{Delivery}

abbrev pub delivered_in : Answer Delivery → Option Delivery
delivered_in (refused number place) = none
delivered_in (given d) = some d

abbrev pub accepted_in : Answered Delivery → Option Delivery
accepted_in (Some d) = some d
accepted_in None = none

-- the rows afterwards: the picture if the span is delivered, else anything
abbrev pub rows_accepted : Answer Delivery → List ℕ → List ℕ → List ℕ
rows_accepted (refused number place) made left = left
rows_accepted (given d) made left = made
