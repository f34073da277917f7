-- `brazulint::words::brazulint4_line_words` meets its contract: the call, for the number given.
-- Assumes nothing.
use mathlib.Core.Path.{ap, ◌∙◌}
use Rattle.word.specs.LineNumber.{numbered_of}
use Rattle.word_answers.specs.Words.{line_words_answer_of}
use Rattle.brazulint.proofs.Clamped.{numbered_clamped}
use Rattle.brazulint.proofs.words.brazulint4_line_words.Goals as goal

pub returns : goal.returns
returns c =
    let l = c.stream_line_from-l.ensures in
    c.line_words_answer.ensures
    ∙ ap line_words_answer_of (c.line_words.ensures ∙ ap numbered_of l ∙ numbered_clamped c.args.line.number)
