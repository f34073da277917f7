-- Spans in a recording (document 01, "Receiving and finding"): what is read where, and how long a recording may be.
-- Assumes nothing.
use Rattle.std.specs.Prelude.{ℕ, Bool, cond, List, eqb, length}
use Rattle.std.proofs.Math.Option.{Option, none, some}
use Rattle.ground.specs.Answer.{Answer, refused, given}
use Rattle.ground.specs.Search.{is_some}
use Rattle.span.specs.declared.format.Format.{Format}
use Rattle.span.specs.Format.{shape_of, symbols_in}
use Rattle.window.specs.declared.delivery.Delivery.{Delivery}
use Rattle.window.specs.Read.{picture_of, read_span}
use Rattle.delivery.specs.Delivery.{Found, find_by as find_by, next_by as next_by, deliver_by as deliver_by}

-- document 01: the finder takes a recording of at most 2,097,152 symbols. No law depends on the number.
unfoldable pub limit : ℕ
limit = 2097152

-- what is read from a span: line, content bytes, both disparities and repairs; and the picture words
pub record Reading : Type 0 where
  pub values : Delivery
  pub words : List ℕ

abbrev pub with_words : Answer Delivery → List ℕ → Option Reading
with_words (refused number place) words = none
with_words (given d) words = some (record { values = d; words = words })

-- what the reader reads from symbols, if it accepts them: there are as many as a span has, and `read_span` does not refuse them
unfoldable pub reading : Format → List ℕ → Option Reading
reading f w = cond (eqb (length w) (symbols_in (shape_of f))) (with_words (read_span f w) (picture_of f w)) none

abbrev pub accepts : Format → List ℕ → Bool
accepts f w = is_some (reading f w)

-- the first place at or after a start where it accepts
abbrev pub find_from : Format → List ℕ → ℕ → Option ℕ
find_from f r start = find_by (symbols_in (shape_of f)) (reading f) r start

-- that place, and what is read there
abbrev pub next_from : Format → List ℕ → ℕ → Option (Found Reading)
next_from f r start = next_by (symbols_in (shape_of f)) (reading f) r start

-- delivery: find, read, find again from the end of that span, until none
abbrev pub delivery_from : Format → List ℕ → ℕ → List (Found Reading)
delivery_from f r p = deliver_by (symbols_in (shape_of f)) (reading f) r p
