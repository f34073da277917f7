-- What holds of the answers to C of the calls on spans: each field crosses as it is, and no two answers of the library cross as the same,
-- so the number and the fields determine what was answered. `proofs/Laws` proves each.
-- Assumes nothing.
use Rattle.std.specs.Prelude.{ℕ, ◌≡◌, false, [], ◌∷◌, Result}
use Rattle.ground.specs.Answer.{refused}
use Rattle.ground.specs.Inside.Answer.{Injective}
use Rattle.boundary.specs.Laws.{Says}
use Rattle.window.specs.declared.delivery.Delivery.{Delivery}
use Rattle.span_answers.specs.declared.spans.Values.{Values}
use Rattle.span.specs.declared.format.UnknownFormat.{UnknownFormat}
use Rattle.span.specs.declared.length.SpanLengths.{SpanLengths}
use Rattle.span.specs.Length.{paper_lengths}
use Rattle.symbol.specs.declared.disparity.Disparity.{Disparity}
use Rattle.request.specs.declared.sent.SendError.{SendError}
use Rattle.request.specs.Send.{paper_sent}
use Rattle.read.specs.declared.answer.ReadError.{ReadError}
use Rattle.read.specs.Call.{paper_read}
use Rattle.span_answers.specs.Spans.{values_of, no_values, lengths_answer_of, send_answer_of, read_answer_of}

-- the values of a span field by field: the line, the content bytes in the order SAV 1, SAV 2, EAV 1, EAV 2, true for positive
pub record AreValues (v : Values) (d : Delivery) : Type 0 where
  pub line : v.line.number ≡ d.line.0
  pub sav1 : v.content.sav1 ≡ d.content.sav1
  pub sav2 : v.content.sav2 ≡ d.content.sav2
  pub eav1 : v.content.eav1 ≡ d.content.eav1
  pub eav2 : v.content.eav2 ≡ d.content.eav2
  pub before : Says v.positive_before d.before
  pub after : Says v.positive_after d.after
  pub repairs : v.repairs ≡ d.repairs.count
  pub repairs_of_bit : v.repairs_of_bit ≡ d.repairs.of_bit

-- no span: nothing is said of a line, of content bytes, of disparities or of a repair
pub record SaysNothing (v : Values) : Type 0 where
  pub line : v.line.number ≡ 0
  pub sav1 : v.content.sav1 ≡ 0
  pub sav2 : v.content.sav2 ≡ 0
  pub eav1 : v.content.eav1 ≡ 0
  pub eav2 : v.content.eav2 ≡ 0
  pub before : v.positive_before ≡ false
  pub after : v.positive_after ≡ false
  pub repairs : v.repairs ≡ 0
  pub repairs_of_bit : v.repairs_of_bit ≡ 0 ∷ 0 ∷ 0 ∷ 0 ∷ 0 ∷ 0 ∷ 0 ∷ 0 ∷ 0 ∷ 0 ∷ 0 ∷ 0 ∷ []

pub record SpanAnswersLaws : Type 0 where
  pub values : (d : Delivery) → AreValues (values_of d) d
  -- where there is no span
  pub nothing : SaysNothing no_values
  pub read_refused : (number place : ℕ) → SaysNothing (read_answer_of (refused number place)).delivery
  pub read_number :
      (number place : ℕ)
      → ((read_answer_of (refused number place)).number ≡ number) × ((read_answer_of (refused number place)).place ≡ place)
  pub send_number :
      (number place : ℕ)
      → ((send_answer_of (refused number place)).number ≡ number) × ((send_answer_of (refused number place)).place ≡ place)
  -- the lengths of a format
  pub lengths_told : Injective (λ (r : Result SpanLengths UnknownFormat). lengths_answer_of (paper_lengths r))
  -- sending a span
  pub send_told : Injective (λ (r : Result Disparity SendError). send_answer_of (paper_sent r))
  -- reading a span, and judging one
  pub read_told : Injective (λ (r : Result Delivery ReadError). read_answer_of (paper_read r))
