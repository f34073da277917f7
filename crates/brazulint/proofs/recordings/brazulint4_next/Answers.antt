-- `brazulint::recordings::brazulint4_next` meets its contract: the call, for the numbers given.
-- Assumes nothing.
use mathlib.Core.Path.{ap, ap₂, ◌∙◌}
use lib.ListN.{length}
use Rattle.span.specs.declared.format.Format.{Format}
use Rattle.recording.specs.Call.{next_of, after_next, rows_next}
use Rattle.recording_answers.specs.Recordings.{next_answer_of}
use Rattle.brazulint.proofs.Clamped.{next_clamped, after_clamped, next_rows_clamped}
use Rattle.brazulint.proofs.recordings.brazulint4_next.Goals as goal

pub returns : goal.returns
returns c =
    let a = c.args in
    let f = c.format_from-f.ensures in
    let room = length a.rows.now in record {
      answer = c.next_answer.ensures
          ∙ ap₂ next_answer_of
          (c.next_span.ensures.answer
          ∙ ap (λ (g : Format). next_of g a.symbols.now a.start room) f
          ∙ next_clamped a.format a.symbols.now a.start room)
          (c.next_span.ensures.after
          ∙ ap (λ (g : Format). after_next g a.symbols.now a.start room) f
          ∙ after_clamped a.format a.symbols.now a.start room);
      rows = c.next_span.ensures.rows
          ∙ ap (λ (g : Format). rows_next g a.symbols.now a.start a.rows.now) f
          ∙ next_rows_clamped a.format a.symbols.now a.start a.rows.now;
    }
