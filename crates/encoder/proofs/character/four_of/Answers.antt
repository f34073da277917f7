-- `encoder::character::four_of` meets its contract: a special character has four bits of its own.
-- Assumes nothing.
use borrow.Author.Tests.{lt-ltb, le-ltb}
use Rattle.symbol.specs.Code.{four_of}
use Rattle.encoder.specs.Inside.Character.{four_of_byte}
use Rattle.encoder.proofs.character.four_of.Goals as goal

pub returns-then-c-lt256 : goal.returns-then-c-lt256
unfolding four_of four_of_byte
returns-then-c-lt256 c = rw (c.four_of_byte.ensures, c.y_of-y.ensures, c.x_of.ensures) (simp (lt-ltb _ _ c.if-c-lt256.true))

pub returns : goal.returns
unfolding four_of
returns c = rw (c.four_bits_special-special.ensures, c.y_of-y.ensures) (simp (le-ltb _ _ c.if-c-lt256.false))
