-- `brazulint::spans::brazulint4_read` meets its contract: the call, for the numbers given.
-- Assumes nothing.
use mathlib.Core.Path.{ap, ◌∙◌}
use lib.ListN.{length}
use Rattle.span.specs.declared.format.Format.{Format}
use Rattle.window.specs.Read.{read_of, rows_read}
use Rattle.span_answers.specs.Spans.{read_answer_of}
use Rattle.brazulint.proofs.Clamped.{read_clamped, rows_clamped}
use Rattle.brazulint.proofs.spans.brazulint4_read.Goals as goal

pub returns : goal.returns
returns c =
    let a = c.args in
    let f = c.format_from.ensures in
    record {
      answer = c.read_answer.ensures
          ∙ ap read_answer_of
          (c.read.ensures.answer
          ∙ ap (λ (g : Format). read_of g a.symbols.now (length a.rows.now)) f
          ∙ read_clamped a.format a.symbols.now (length a.rows.now));
      rows = c.read.ensures.rows
          ∙ ap (λ (g : Format). rows_read g a.symbols.now a.rows.now) f
          ∙ rows_clamped a.format a.symbols.now a.rows.now;
    }
