-- `encoder::encode::encode_character` meets its contract: what is worked out block by block is what encoding answers.
-- Assumes nothing.
use native.Mathlib.Omega.{arith}
use Rattle.encoder.proofs.Blocks.{encoded_is}
use Rattle.encoder.proofs.encode.encode_character.Goals as goal

pub returns : goal.returns
returns c =
    let a = c.args in
    encoded_is a.d a.c (omega arith)
    c.six_of-six.ensures
    c.unbalanced.ensures
    c.flipped_if-between.ensures
    c.four_of-four.ensures
    c.unbalanced-2.ensures
    c.flipped_if-after.ensures
    c.as_symbol-symbol.ensures
