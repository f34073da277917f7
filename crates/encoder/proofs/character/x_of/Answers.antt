-- `encoder::character::x_of` meets its contract: a byte has x in its low five bits, and the special characters stand in the order of their numbers.
-- Assumes nothing.
use borrow.Author.Tests.{lt-ltb, le-ltb}
use Rattle.symbol.specs.Character.{x_of}
use Rattle.encoder.proofs.character.x_of.Goals as goal

pub returns-then-c-lt256 : goal.returns-then-c-lt256
unfolding x_of
returns-then-c-lt256 c = simp (lt-ltb _ _ c.if-c-lt256.true)

pub returns : goal.returns
unfolding x_of
returns c = simp (le-ltb _ _ c.if-c-lt256.false)
