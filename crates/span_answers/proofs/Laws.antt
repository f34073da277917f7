-- What holds of the answers of the calls on spans to C, proved: each field cites the law that says it.
-- Assumes nothing.
use mathlib.Core.Path.{refl}
use Rattle.boundary.proofs.Laws.{boundary_laws}
use Rattle.span_answers.specs.Laws.{SaysNothing, SpanAnswersLaws}
use Rattle.span_answers.specs.Spans.{no_values}
use Rattle.span_answers.proofs.Told.{bits_in_order, lengths_told, send_told, read_told}

says_nothing : SaysNothing no_values
says_nothing = record {
  line = refl;
  sav1 = refl;
  sav2 = refl;
  eav1 = refl;
  eav2 = refl;
  before = refl;
  after = refl;
  repairs = refl;
  repairs_of_bit = refl;
}

pub span_answers_laws : SpanAnswersLaws
span_answers_laws = record {
  values = λ d. record {
    line = refl;
    sav1 = refl;
    sav2 = refl;
    eav1 = refl;
    eav2 = refl;
    before = boundary_laws.back d.before;
    after = boundary_laws.back d.after;
    repairs = refl;
    repairs_of_bit = bits_in_order d.repairs.of_bit;
  };
  nothing = says_nothing;
  read_refused = λ number place. says_nothing;
  read_number = λ number place. (refl, refl);
  send_number = λ number place. (refl, refl);
  lengths_told = lengths_told;
  send_told = send_told;
  read_told = read_told;
}
