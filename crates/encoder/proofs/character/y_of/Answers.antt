-- `encoder::character::y_of` meets its contract: a byte has y in its high three bits, and the special characters stand in the order of their numbers.
-- Assumes nothing.
use borrow.Author.Tests.{lt-ltb, le-ltb}
use Rattle.symbol.specs.Character.{y_of}
use Rattle.encoder.proofs.character.y_of.Goals as goal

pub returns-then-c-lt256 : goal.returns-then-c-lt256
unfolding y_of
returns-then-c-lt256 c = simp (lt-ltb _ _ c.if-c-lt256.true)

pub returns : goal.returns
unfolding y_of
returns c = simp (le-ltb _ _ c.if-c-lt256.false)
