-- Laws of decoding a symbol, for a reader of the papers; `proofs/Laws` proves each.
-- Assumes nothing.
use Rattle.std.specs.Prelude.{ℕ, ◌%◌, ◌≤◌, ◌<◌, ◌≡◌, get_or}
use Rattle.std.proofs.Math.Option.{some, map}
use Rattle.ground.specs.Answer.{refused, given}
use Rattle.ground.specs.Search.{is_some}
use Rattle.ground.specs.Inside.Answer.{Injective}
use Rattle.symbol.specs.declared.disparity.Disparity.{Disparity}
use Rattle.symbol.specs.declared.disparity.Disparity.TheVariants.{Negative, Positive}
use Rattle.symbol.specs.Character.{character_of}
use Rattle.symbol.specs.Code.{symbol_of, char_of, after_of}
use Rattle.decoder.specs.Decode.{paper_decoded, decode_of}
use Rattle.decoder.specs.Meaning.{paper_meaning, meant_by, meaning_of}
use Rattle.decoder.specs.Inside.Decoder.{entry_of, decoding_table, legal_bit, entry_after}

pub record DecoderLaws : Type 0 where
  -- the single decoder refuses a number above 1023 with 7, and one that is not any character's symbol at the disparity with 20
  pub decode_meets7 : (d : Disparity) (s : ℕ) → 1023 < s → decode_of d s ≡ refused 7 0
  pub decode_meets20 :
      (d : Disparity) (s : ℕ) → s ≤ 1023 → ((c : ℕ) → c < 268 → symbol_of d c ≡ s → ⊥) → decode_of d s ≡ refused 20 0
  -- the meaning of a number up to 1023 is its character at either disparity, and where it is legal; any other number is refused with 7
  pub meaning_good :
      (s : ℕ)
      → s ≤ 1023
      → meaning_of s
      ≡ given (record {
        character = map character_of (meant_by s);
        negative = is_some (char_of Negative s);
        positive = is_some (char_of Positive s);
      })
  pub meaning_meets7 : (s : ℕ) → 1023 < s → meaning_of s ≡ refused 7 0
  -- an entry of the decoding table says, at each disparity, whether its symbol is legal, which character it is, and the disparity after it
  pub entry_at : (s : ℕ) → s < 1024 → get_or decoding_table s 0 ≡ entry_of s
  pub entry_legal : (d : Disparity) (s : ℕ) → legal_bit d (entry_of s) ≡ is_some (char_of d s)
  pub entry_number : (d : Disparity) (s c : ℕ) → char_of d s ≡ some c → entry_of s % 512 ≡ c
  pub entry_flips : (d : Disparity) (s c : ℕ) → char_of d s ≡ some c → entry_after d (entry_of s) ≡ after_of d c
  -- the paper's number and values tell any two answers of a call apart, so that a contract about them fixes the answer
  pub decoded_told : Injective paper_decoded
  pub meaning_told : Injective paper_meaning
