-- `brazulint::spans::brazulint4_judge` meets its contract: the call, for the numbers given.
-- Assumes nothing.
use mathlib.Core.Path.{ap, ◌∙◌}
use Rattle.span.specs.declared.format.Format.{Format}
use Rattle.window.specs.Read.{judge_of}
use Rattle.span_answers.specs.Spans.{read_answer_of}
use Rattle.brazulint.proofs.Clamped.{judge_clamped}
use Rattle.brazulint.proofs.spans.brazulint4_judge.Goals as goal

pub returns : goal.returns
returns c =
    let a = c.args in
    let f = c.format_from.ensures in
    c.read_answer.ensures
    ∙ ap read_answer_of
    (c.judge.ensures ∙ ap (λ (g : Format). judge_of g a.symbols.now) f ∙ judge_clamped a.format a.symbols.now)
