-- What a symbol means, said by the symbols of the characters alone (document 01, "Receiving and finding"); `proofs/Paper` proves each.
-- Assumes nothing.
use Rattle.std.specs.Prelude.{ℕ, ◌≤◌, ◌<◌, ◌≡◌, true, false}
use Rattle.std.proofs.Math.Option.{none, some}
use Rattle.ground.specs.Answer.{given}
use Rattle.symbol.specs.declared.disparity.Disparity.{Disparity}
use Rattle.symbol.specs.declared.disparity.Disparity.TheVariants.{Negative, Positive}
use Rattle.symbol.specs.Character.{character_of}
use Rattle.symbol.specs.Code.{symbol_of}
use Rattle.decoder.specs.Meaning.{Means, meaning_of}

-- a number is the symbol of some character at a disparity
abbrev pub IsSymbol : Disparity → ℕ → Type 0
IsSymbol d s = (c : ℕ) × (c < 268) × (symbol_of d c ≡ s)

pub record DecoderPaper : Type 0 where
  -- the symbol of a character at either disparity means that character
  pub means :
      (d : Disparity) (c : ℕ) → c < 268 → (m : Means) × (meaning_of (symbol_of d c) ≡ given m) × (m.character ≡ some (character_of c))
  -- and is legal at just the disparities at which it is a character's symbol
  pub negative :
      (s : ℕ) (m : Means) → meaning_of s ≡ given m → (m.negative ≡ true → IsSymbol Negative s) × (IsSymbol Negative s → m.negative ≡ true)
  pub positive :
      (s : ℕ) (m : Means) → meaning_of s ≡ given m → (m.positive ≡ true → IsSymbol Positive s) × (IsSymbol Positive s → m.positive ≡ true)
  -- any other number up to 1023 is no symbol
  pub nothing :
      (s : ℕ)
      → s ≤ 1023
      → ((d : Disparity) → IsSymbol d s → ⊥)
      → meaning_of s ≡ given (record { character = none; negative = false; positive = false })
