-- `character_answers::characters::encode_answer` meets its contract: a byte, a special character, or none.
-- Assumes nothing.
use mathlib.Core.Path.{ap, ◌∙◌}
use Prim.Native.Nat.{◌≤◌, ◌<◌}
use native.Mathlib.Omega.{arith}
use Rattle.symbol.specs.Character.{number_of}
use Rattle.encoder.specs.Encode.{encoded}
use Rattle.character_answers.proofs.Encoding.{special_is, is_character}
use Rattle.character_answers.proofs.characters.encode_answer.Goals as goal

pub returns-then-character-lt268 : goal.returns-then-character-lt268
returns-then-character-lt268 c =
    let a = c.args in
    let low : 256 ≤ a.character = omega arith in
    let high : a.character < 268 = omega arith in
    let k = ap number_of c.named-k.ensures ∙ special_is a.character low high in
    c.encoded-then-character-lt268.ensures ∙ is_character a.d a.character high (c.encode_special.ensures ∙ ap (encoded a.d) k)
