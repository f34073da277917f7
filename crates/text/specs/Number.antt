-- Numbers as text, as the programs of document 01, "Values to hold against it", print them.
-- Assumes nothing.
use Rattle.std.specs.Prelude.{ℕ, zero, suc, ◌/◌, cond, List, ltb}
use Rattle.io.specs.Digits.{last_digits}

-- how many decimal digits a number takes: one below ten, else one more than a tenth of it takes. `most` bounds the steps, and the number
-- itself is bound enough: they are the fewest digits that hold it (law `places_fewest`).
abbrev pub places_in : ℕ → ℕ → ℕ
places_in zero n = 1
places_in (suc most) n = cond (ltb n 10) 1 (suc (places_in most (n / 10)))

unfoldable pub places_of : ℕ → ℕ
places_of n = places_in n n

-- as few digits as it takes
abbrev pub decimal : ℕ → List ℕ
decimal n = last_digits 10 (places_of n) n

-- four lower-case digits
abbrev pub hexadecimal : ℕ → List ℕ
hexadecimal n = last_digits 16 4 n
