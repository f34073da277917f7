-- What the calls on one span answer to C (document 01, "Sending", "Receiving and finding" and its table of refusals). Fields meaningless in
-- a refusal are 0 or false.
-- Assumes nothing.
use Rattle.std.specs.Prelude.{ℕ, false, List, [], ◌∷◌}
use Rattle.ground.specs.Answer.{Answer, refused, given}
use Rattle.symbol.specs.declared.disparity.Disparity.{Disparity}
use Rattle.span.specs.declared.length.SpanLengths.{SpanLengths}
use Rattle.window.specs.declared.delivery.Delivery.{Delivery}
use Rattle.span_answers.specs.declared.spans.Values.{Values}
use Rattle.span_answers.specs.declared.spans.LengthsAnswer.{LengthsAnswer}
use Rattle.span_answers.specs.declared.spans.SendAnswer.{SendAnswer}
use Rattle.span_answers.specs.declared.spans.ReadAnswer.{ReadAnswer}
use Rattle.symbol.specs.Disparity.{is_positive}
use Rattle.boundary.specs.Numbers.{stream_line_number}

-- how often each bit was repaired, b0, the lowest, first
abbrev pub bit_counts_of : List ℕ → List ℕ
bit_counts_of c = c

-- what a span says about itself
abbrev pub values_of : Delivery → Values
values_of d =
    record {
      line = stream_line_number d.line;
      content = d.content;
      positive_before = is_positive d.before;
      positive_after = is_positive d.after;
      repairs = d.repairs.count;
      repairs_of_bit = bit_counts_of d.repairs.of_bit;
    }

-- if there is no span
abbrev pub no_counts : List ℕ
no_counts = 0 ∷ 0 ∷ 0 ∷ 0 ∷ 0 ∷ 0 ∷ 0 ∷ 0 ∷ 0 ∷ 0 ∷ 0 ∷ 0 ∷ []

abbrev pub no_values : Values
no_values =
    record {
      line = record { number = 0 };
      content = record { sav1 = 0; sav2 = 0; eav1 = 0; eav2 = 0 };
      positive_before = false;
      positive_after = false;
      repairs = 0;
      repairs_of_bit = no_counts;
    }

abbrev pub lengths_answer_of : Answer SpanLengths → LengthsAnswer
lengths_answer_of (refused number place) = record { number = number; samples = 0; symbols = 0 }
lengths_answer_of (given l) = record { number = 0; samples = l.samples; symbols = l.symbols }

abbrev pub send_answer_of : Answer Disparity → SendAnswer
send_answer_of (refused number place) = record { number = number; positive_after = false; place = place }
send_answer_of (given d) = record { number = 0; positive_after = is_positive d; place = 0 }

abbrev pub read_answer_of : Answer Delivery → ReadAnswer
read_answer_of (refused number place) = record { number = number; place = place; delivery = no_values }
read_answer_of (given d) = record { number = 0; place = 0; delivery = values_of d }
