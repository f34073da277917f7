-- `brazulint::spans::brazulint4_lengths` meets its contract: the call, for the numbers given.
-- Assumes nothing.
use mathlib.Core.Path.{ap, ◌∙◌}
use Rattle.span.specs.Length.{lengths_of}
use Rattle.span_answers.specs.Spans.{lengths_answer_of}
use Rattle.brazulint.proofs.Clamped.{lengths_clamped}
use Rattle.brazulint.proofs.spans.brazulint4_lengths.Goals as goal

pub returns : goal.returns
returns c =
    let a = c.args in
    let f = c.format_from.ensures in
    c.lengths_answer.ensures
    ∙ ap lengths_answer_of (c.lengths_of.ensures ∙ ap lengths_of f ∙ lengths_clamped a.format)
