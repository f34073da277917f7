-- `word::repair::wrong_bit` meets its contract: the zeros below the lowest one say where it is.
-- Assumes nothing.
use mathlib.Core.Path.{sym}
use Rattle.ground.specs.Xor.{◌⊕◌}
use Rattle.word.proofs.WhichBit.{no_difference, some_bit}
use Rattle.word.proofs.repair.wrong_bit.Goals as goal

pub returns-then-x-eq0 : goal.returns-then-x-eq0
unfolding ◌⊕◌
returns-then-x-eq0 c = let a = c.args in sym (no_difference a.a a.b c.if-x-eq0.true)

pub returns : goal.returns
unfolding ◌⊕◌
returns c =
    let a = c.args in
    sym (some_bit a.a a.b c.requires.a_bound c.requires.b_bound c.if-x-eq0.false)
