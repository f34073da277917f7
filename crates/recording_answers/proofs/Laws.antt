-- What holds of the answers of the calls on recordings to C, proved: each field cites the law that says it.
-- Assumes nothing.
use Rattle.span_answers.proofs.Laws.{span_answers_laws}
use Rattle.recording_answers.specs.Laws.{RecordingAnswersLaws}
use Rattle.recording_answers.proofs.Told.{find_told, next_told}

pub recording_answers_laws : RecordingAnswersLaws
recording_answers_laws = record {
  next_refused = λ number place resume. span_answers_laws.nothing;
  next_none = λ resume. span_answers_laws.nothing;
  find_told = find_told;
  next_told = next_told;
}
