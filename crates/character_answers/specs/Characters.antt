-- What decoding and encoding answer to C (document 01, "Receiving and finding"; refusals 7 and 20): a character by its number, 0 to 255 for
-- a byte and 256 to 267 for a special one.
-- Assumes nothing.
use Rattle.std.specs.Prelude.{ℕ, true, false, cond, ltb}
use Rattle.ground.specs.Answer.{Answer, refused, given}
use Rattle.symbol.specs.declared.disparity.Disparity.{Disparity}
use Rattle.symbol.specs.declared.character.Character.{Character}
use Rattle.symbol.specs.declared.character.Character.TheVariants.{Byte as byte, Special as special}
use Rattle.symbol.specs.Character.{characters, number_of}
use Rattle.encoder.specs.declared.encode.Encoded.{Encoded}
use Rattle.encoder.specs.Encode.{encoded}
use Rattle.decoder.specs.declared.decode.Decoded.{Decoded}
use Rattle.character_answers.specs.declared.characters.DecodeAnswer.{DecodeAnswer}
use Rattle.character_answers.specs.declared.characters.EncodeAnswer.{EncodeAnswer}
use Rattle.symbol.specs.Disparity.{is_positive}

abbrev pub character_number : Character → ℕ
character_number (byte b) = b
character_number (special k) = number_of k

abbrev pub decoded_as : ℕ → Disparity → DecodeAnswer
decoded_as c d = record { number = 0; character = c; positive_after = is_positive d }

abbrev pub decode_answer_of : Answer Decoded → DecodeAnswer
decode_answer_of (refused number place) = record { number = number; character = 0; positive_after = false }
decode_answer_of (given a) = decoded_as (character_number a.character) a.after

abbrev pub encoded_as : Encoded → EncodeAnswer
encoded_as e = record { known = true; symbol = e.symbol; positive_after = is_positive e.after }

-- encoding refuses nothing: a number that is not a character has no symbol
abbrev pub encode_answer_of : Disparity → ℕ → EncodeAnswer
encode_answer_of d c = cond (ltb c characters) (encoded_as (encoded d c)) (record { known = false; symbol = 0; positive_after = false })
