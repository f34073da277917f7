-- What the decoding table holds, and what its entries say (document 01, "Receiving and finding").
-- Assumes nothing.
use Rattle.std.specs.Prelude.{ℕ, ◌+◌, ◌*◌, ◌/◌, ◌%◌, Bool, cond, List, [], ◌∷◌, eqb, ltb, get_or}
use Rattle.std.proofs.Math.Option.{Option, none, some}
use Rattle.ground.specs.Answer.{Answer, given, unless, checked}
use Rattle.ground.specs.Search.{is_some}
use Rattle.ground.specs.Written.{table}
use Rattle.symbol.specs.declared.disparity.Disparity.{Disparity}
use Rattle.symbol.specs.declared.disparity.Disparity.TheVariants.{Negative, Positive}
use Rattle.symbol.specs.Character.{character_of}
use Rattle.symbol.specs.Code.{char_of}
use Rattle.symbol.specs.Inside.Code.{flips}
use Rattle.ground.specs.Bit.{bit}
use Rattle.symbol.specs.Inside.Disparity.{flipped_if}
use Rattle.decoder.specs.declared.decode.Decoded.{Decoded}
use Rattle.decoder.specs.Meaning.{Means, meant_by}

-- an entry: the character's number in bits 0 to 8, bit 9 set if it is legal at negative disparity, bit 10 if at positive, bits 11 and 12
-- if it flips the disparity, and bit 13 if it is a byte; 0 if the number is not a symbol
abbrev pub entry_from : Option ℕ → Bool → Bool → ℕ
entry_from none n p = 0
entry_from (some c) n p = c + 512 * bit n + 1024 * bit p + 6144 * bit (flips c) + 8192 * bit (ltb c 256)

unfoldable pub entry_of : ℕ → ℕ
entry_of s = entry_from (meant_by s) (is_some (char_of Negative s)) (is_some (char_of Positive s))

unfoldable pub decoding_table : List ℕ
decoding_table = table 1024 entry_of

-- the entry of symbol s in a table; above 1023, the entry for no symbol
abbrev pub entry_in : List ℕ → ℕ → ℕ
entry_in t s = cond (ltb s 1024) (get_or t s 0) 0

-- what an entry says
abbrev pub legal_bit : Disparity → ℕ → Bool
legal_bit Negative e = eqb (e / 512 % 2) 1
legal_bit Positive e = eqb (e / 1024 % 2) 1

abbrev pub entry_after : Disparity → ℕ → Disparity
entry_after d e = flipped_if (eqb (e / 2048 % 2) 1) d

abbrev pub decoded_by : Disparity → ℕ → Answer Decoded
decoded_by d e =
    checked (unless 20 (legal_bit d e) ∷ []) (record { character = character_of (e % 512); after = entry_after d e })

abbrev pub means_by : ℕ → Means
means_by e =
    record {
      character = cond (eqb e 0) none (some (character_of (e % 512)));
      negative = legal_bit Negative e;
      positive = legal_bit Positive e;
    }

abbrev pub meaning_by : ℕ → Answer Means
meaning_by e = given (means_by e)
