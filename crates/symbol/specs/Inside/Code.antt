-- The symbol of each character, the disparity after it, and the character of each symbol: the part that only loops and proofs use.
-- The rest is in specs/Code.
-- Assumes nothing.
use Rattle.std.specs.Prelude.{ℕ, ◌≡◌, Bool}
use Rattle.symbol.specs.declared.disparity.Disparity.TheVariants.{Negative, Positive}
use Rattle.symbol.specs.Code.{after_of, symbol_of}
use Rattle.symbol.specs.Disparity.{is_positive}

-- whether character c takes negative disparity to positive (and then positive to negative: law `flips_both`)
unfoldable pub flips : ℕ → Bool
flips c = is_positive (after_of Negative c)

-- a character with two different forms
abbrev pub TwoForms : ℕ → Type 0
TwoForms c = symbol_of Negative c ≡ symbol_of Positive c → ⊥
