-- What a symbol means (document 01, "Receiving and finding", refusal 7).
-- Assumes nothing.
use Rattle.std.specs.Prelude.{ℕ, Bool, false, [], ◌∷◌, ltb, Option as Answered, Some, None, Result, Ok, Err}
use Rattle.std.proofs.Math.Option.{Option, none, some, map}
use Rattle.ground.specs.Answer.{Answer, refused, given, unless, checked}
use Rattle.ground.specs.Search.{is_some}
use Rattle.symbol.specs.declared.disparity.Disparity.TheVariants.{Negative, Positive}
use Rattle.decoder.specs.declared.meaning.Meaning.{Meaning}
use Rattle.decoder.specs.declared.meaning.Above1023.{Above1023}
use Rattle.symbol.specs.declared.character.Character.{Character}
use Rattle.symbol.specs.Character.{character_of}
use Rattle.symbol.specs.Code.{char_of}

-- one byte, one special character by name, or no symbol, and the disparities at which it is legal
pub record Means : Type 0 where
  pub character : Option Character
  pub negative : Bool
  pub positive : Bool

abbrev pub means_of : Answered Meaning → Means
means_of (Some m) = record { character = some m.character; negative = m.legal.negative; positive = m.legal.positive }
means_of None = record { character = none; negative = false; positive = false }

abbrev pub paper_meaning : Result (Answered Meaning) Above1023 → Answer Means
paper_meaning (Ok m) = given (means_of m)
paper_meaning (Err e) = refused 7 0

abbrev pub first_of : Option ℕ → Option ℕ → Option ℕ
first_of (some c) o = some c
first_of none o = o

-- the character of symbol s at either disparity (there is at most one: law `one_meaning`)
abbrev pub meant_by : ℕ → Option ℕ
meant_by s = first_of (char_of Negative s) (char_of Positive s)

abbrev pub meaning_of : ℕ → Answer Means
meaning_of s =
    checked (unless 7 (ltb s 1024) ∷ [])
    (record {
      character = map character_of (meant_by s);
      negative = is_some (char_of Negative s);
      positive = is_some (char_of Positive s);
    })
