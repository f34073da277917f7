-- `word::line_number::words_after` meets its contract by those of its two calls.
-- Assumes nothing.
use mathlib.Core.Path.{ap, ◌∙◌}
use Rattle.word.specs.LineNumber.{line_words}
use Rattle.word.proofs.line_number.words_after.Goals as goal

pub returns : goal.returns
returns c = c.words_of.ensures ∙ ap line_words c.line_after.ensures
