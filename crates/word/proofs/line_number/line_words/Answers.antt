-- `word::line_number::line_words` meets its contract: the test says which case of the definition holds.
-- Assumes nothing.
use mathlib.Core.Path.{◌≡◌, sym, ◌∙◌}
use mathlib.Core.Bool.{true, false}
use Rattle.line.specs.Stream.{is_line}
use Rattle.word.proofs.line_number.line_words.Goals as goal

pub returns-then-is_line : goal.returns-then-is_line
returns-then-is_line c =
    let t : is_line c.args.l.0 ≡ true = sym c.is_line.ensures ∙ c.if-is_line.true in
    simp (t, c.words_of.ensures)

pub returns : goal.returns
returns c =
    let t : is_line c.args.l.0 ≡ false = sym c.is_line.ensures ∙ c.if-is_line.false in
    simp t
