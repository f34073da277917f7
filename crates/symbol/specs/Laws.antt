-- Laws of the 8B/10B code, for a reader of the papers; `proofs/Laws` proves each. The characters are numbered below 268.
-- Assumes nothing.
use Rattle.std.specs.Prelude.{ℕ, ◌-◌, ◌≤◌, ◌<◌, ◌≡◌, ◌⊎◌}
use Rattle.std.proofs.Math.Option.{none, some}
use Rattle.std.specs.Int.Count.{ones_in}
use Rattle.ground.specs.Bit.{inverted}
use Rattle.ground.specs.Inside.Answer.{Injective}
use Rattle.symbol.specs.declared.disparity.Disparity.{Disparity}
use Rattle.symbol.specs.declared.special.Special.{Special}
use Rattle.symbol.specs.Character.{number_of, nth}
use Rattle.symbol.specs.Code.{symbol_of, after_of, char_of}
use Rattle.symbol.specs.Inside.Code.{flips, TwoForms}
use Rattle.symbol.specs.Inside.Disparity.{opposite, flipped_if}

pub record SymbolLaws : Type 0 where
  -- decoding a character's symbol gives the character, and encoding what was decoded gives the symbol (004, 7.1.1 and 7.1.2)
  pub decode_encode : (d : Disparity) (c : ℕ) → c < 268 → char_of d (symbol_of d c) ≡ some c
  pub encode_decode : (d : Disparity) (s c : ℕ) → char_of d s ≡ some c → symbol_of d c ≡ s
  -- a number is illegal at a disparity if and only if it is not the symbol of any character there
  pub illegal_if : (d : Disparity) (s : ℕ) → ((c : ℕ) → c < 268 → symbol_of d c ≡ s → ⊥) → char_of d s ≡ none
  pub illegal_only_if : (d : Disparity) (s : ℕ) → char_of d s ≡ none → (c : ℕ) → c < 268 → symbol_of d c ≡ s → ⊥
  -- no two characters share a symbol, at the same disparity or at different ones: a byte never looks like a special character
  pub one_character : (d e : Disparity) (b c : ℕ) → b < 268 → c < 268 → symbol_of d b ≡ symbol_of e c → b ≡ c
  pub data_or_special : (d e : Disparity) (b k : ℕ) → b < 256 → 256 ≤ k → k < 268 → symbol_of d b ≡ symbol_of e k → ⊥
  -- a symbol has ten bits, and four to six of them are ones
  pub ten_bits : (d : Disparity) (c : ℕ) → c < 268 → symbol_of d c < 1024
  pub four_to_six : (d : Disparity) (c : ℕ) → c < 268 → (4 ≤ ones_in 10 (symbol_of d c)) × (ones_in 10 (symbol_of d c) ≤ 6)
  -- a character flips the disparity at both disparities or at neither
  pub flips_both : (d : Disparity) (c : ℕ) → c < 268 → after_of d c ≡ flipped_if (flips c) d
  -- read at the opposite disparity, a symbol of a character with two forms is illegal
  pub opposed_illegal : (d : Disparity) (c : ℕ) → c < 268 → TwoForms c → char_of (opposite d) (symbol_of d c) ≡ none
  -- a character's symbol with one bit inverted is illegal, or is another character's and leaves the opposite disparity
  pub flip :
      (d : Disparity) (c k : ℕ)
      → c < 268
      → k < 10
      → let s = inverted k (symbol_of d c) in
      (char_of d s ≡ none) ⊎ ((b : ℕ) × (char_of d s ≡ some b) × (after_of d b ≡ opposite (after_of d c)))
  -- and it is never a form of the same character
  pub flip_no_form : (d e : Disparity) (c k : ℕ) → c < 268 → k < 10 → inverted k (symbol_of d c) ≡ symbol_of e c → ⊥
  -- the twelve special characters have the numbers 256 to 267, no two the same
  pub special_numbers : (k : Special) → (256 ≤ number_of k) × (number_of k < 268) × (nth (number_of k - 256) ≡ k)
  pub special_told : Injective number_of
