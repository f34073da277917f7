-- What holds of numbers as text, for anyone who reads what the programs print; `proofs/Laws` proves each.
-- Assumes nothing.
use Rattle.std.specs.Prelude.{ℕ, ◌-◌, ◌^◌, ◌≤◌, ◌<◌, ◌≡◌, length}
use Rattle.text.specs.Number.{places_of, decimal, hexadecimal}

pub record TextLaws : Type 0 where
  -- a number in decimal has as many digits as hold it, at least one, and no leading zero
  pub decimal_holds : (n : ℕ) → (1 ≤ places_of n) × (n < 10 ^ places_of n) × (1 < places_of n → 10 ^ (places_of n - 1) ≤ n)
  pub decimal_long : (n : ℕ) → length (decimal n) ≡ places_of n
  -- one of 64 bits has no more than 20
  pub decimal_most : (n : ℕ) → n < 2 ^ 64 → length (decimal n) ≤ 20
  -- in hexadecimal it has four
  pub hexadecimal_long : (n : ℕ) → length (hexadecimal n) ≡ 4
