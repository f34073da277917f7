-- The paper's values tell the answers apart, and which calls are refused, in the paper's own numerals.
-- Assumes nothing.
use mathlib.Core.Path.{◌≡◌, refl}
use mathlib.Core.Bool.{cond}
use mathlib.Core.Option.{Option, none, some, map}
use Prim.Native.Nat.{ℕ, ◌≤◌, ◌<◌}
use native.Mathlib.Omega.{arith}
use lib.Dec.{eqb}
use borrow.Author.Tests.{lt-ltb, le-ltb}
use Rattle.ground.specs.Answer.{Answer, refused, given}
use Rattle.ground.specs.Search.{is_some}
use Rattle.ground.specs.Inside.Answer.{Injective}
use Rattle.ground.proofs.Answers.{told_again}
use Rattle.symbol.specs.declared.disparity.Disparity.{Disparity}
use Rattle.symbol.specs.declared.disparity.Disparity.TheVariants.{Negative, Positive}
use Rattle.std.specs.Prelude.{Option as Answered, Some, None, Result, Ok, Err}
use Rattle.decoder.specs.declared.decode.Decoded.{Decoded}
use Rattle.decoder.specs.declared.decode.DecodeError.{DecodeError}
use Rattle.decoder.specs.declared.decode.DecodeError.TheVariants.{Above1023, Illegal}
use Rattle.decoder.specs.declared.meaning.Above1023.{Above1023 as TooLarge}
use Rattle.decoder.specs.declared.meaning.Legal.{Legal}
use Rattle.decoder.specs.declared.meaning.Meaning.{Meaning}
use Rattle.symbol.specs.declared.character.Character.{Character}
use Rattle.symbol.specs.Character.{character_of}
use Rattle.symbol.specs.Code.{symbol_of, char_of, after_of}
use Rattle.decoder.specs.Decode.{paper_decoded, decode_of}
use Rattle.decoder.specs.Meaning.{Means, paper_meaning, meant_by, meaning_of}
use Rattle.symbol.proofs.Inverse.{decode_encode, illegal_is}
use Rattle.symbol.proofs.Ones.{symbol_below}

-- ---- the answer is told again from the paper's values

abbrev decoded_again : Answer Decoded → Result Decoded DecodeError
decoded_again (refused n place) = Err (cond (eqb n 7) Above1023 Illegal)
decoded_again (given r) = Ok r

pub decoded_one_to_one : Injective paper_decoded
decoded_one_to_one = told_again decoded_again again
  where
    again : (r : Result Decoded DecodeError) → decoded_again (paper_decoded r) ≡ r
    again (Ok r) = refl
    again (Err Above1023) = refl
    again (Err Illegal) = refl

abbrev meaning_from : Option Character → Legal → Answered Meaning
meaning_from none l = None
meaning_from (some c) l = Some record { character = c; legal = l }

abbrev meaning_again : Answer Means → Result (Answered Meaning) TooLarge
meaning_again (refused n place) = Err (record {})
meaning_again (given m) = Ok (meaning_from m.character (record { negative = m.negative; positive = m.positive }))

pub meaning_one_to_one : Injective paper_meaning
meaning_one_to_one = told_again meaning_again again
  where
    again : (r : Result (Answered Meaning) TooLarge) → meaning_again (paper_meaning r) ≡ r
    again (Ok (Some m)) = refl
    again (Ok None) = refl
    again (Err e) = refl

-- ---- which calls are refused

-- a character's symbol is decoded to that character and the disparity after it
pub decodes : (d : Disparity) (c : ℕ) → c < 268
    → decode_of d (symbol_of d c) ≡ given (record { character = character_of c; after = after_of d c })
decodes d c h = simp (lt-ltb (symbol_of d c) 1024 (symbol_below d c h), decode_encode d c h)

-- a number up to 1023 that is no character's symbol meets 20
pub meets_20 : (d : Disparity) (s : ℕ) → s ≤ 1023 → ((c : ℕ) → c < 268 → symbol_of d c ≡ s → ⊥) → decode_of d s ≡ refused 20 0
meets_20 d s h f = let l : s < 1024 = omega arith in simp (lt-ltb s 1024 l, illegal_is d s f)

-- any other meets 7, here and where its meaning is asked
pub meets_7 : (d : Disparity) (s : ℕ) → 1023 < s → decode_of d s ≡ refused 7 0
meets_7 d s h = simp (le-ltb s 1024 h)

pub meaning_meets_7 : (s : ℕ) → 1023 < s → meaning_of s ≡ refused 7 0
meaning_meets_7 s h = simp (le-ltb s 1024 h)

-- up to 1023 the meaning of a number is told
pub meaning_told : (s : ℕ) → s ≤ 1023
    → meaning_of s
    ≡ given
    (record {
      character = map character_of (meant_by s);
      negative = is_some (char_of Negative s);
      positive = is_some (char_of Positive s);
    })
meaning_told s h = let l : s < 1024 = omega arith in simp (lt-ltb s 1024 l)
