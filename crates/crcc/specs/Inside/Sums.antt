-- The CRC of each stream over its picture words.
-- Assumes nothing.
use Rattle.std.specs.Prelude.{ℕ, [], ◌∷◌, get_or}
use Rattle.crcc.specs.declared.sums.Sums.{Sums}

-- that of stream t
abbrev pub sum_in : Sums → ℕ → ℕ
sum_in c t = get_or (c.first ∷ c.second ∷ c.third ∷ []) t c.fourth
