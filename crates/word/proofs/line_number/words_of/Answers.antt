-- `word::line_number::words_of` meets its contract by that of the guard bit.
-- Assumes nothing.
use Rattle.word.specs.LineNumber.{ln0, ln1}
use Rattle.word.proofs.line_number.words_of.Goals as goal

pub returns : goal.returns
unfolding ln0 ln1
returns c = rw (c.guarded.ensures, c.guarded-2.ensures, c.number_of-n.ensures)
