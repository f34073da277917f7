-- A row whose first words have been moved further along it, by a multiple of the polynomial of 004, 6.4 b (law `moves_nothing`).
-- Assumes nothing.
use Rattle.std.specs.Prelude.{ℕ, ◌+◌, ◌≤◌, cond, List, ◌≡◌, ltb, get_or}
use Rattle.ground.specs.Written.{table}
use Rattle.ground.specs.Xor.{◌⊕◌}
use Rattle.crcc.specs.Crcc.{crc}
use Rattle.row_crc.specs.Inside.Sums.{words_in}

-- word i of a row with what has been moved to it: the words 139, 86 and 93 before it, if they have been moved. A moved word j is kept at
-- 139 + j, so these are at i, i + 53 and i + 46; an entry is 0 until its word is moved, and those below 139 stay 0.
abbrev pub with_moved : List ℕ → List ℕ → ℕ → ℕ
with_moved row moved i = get_or row i 0 ⊕ get_or moved i 0 ⊕ get_or moved (i + 53) 0 ⊕ get_or moved (i + 46) 0

-- the row once the first j of its words have been moved
abbrev pub left : List ℕ → List ℕ → ℕ → ℕ → ℕ
left row moved j i = cond (ltb i j) 0 (with_moved row moved i)

-- nothing has been moved
pub record Empty (moved : List ℕ) : Type 0 where
  pub none : (k : ℕ) → get_or moved k 0 ≡ 0

-- the first j have been moved, and the CRC is unchanged
pub record FoldInv (row moved : List ℕ) (j : ℕ) : Type 0 where
  pub same : crc 0 (table 1920 (left row moved j)) ≡ crc 0 (words_in row 0)
  pub none : (k : ℕ) → 139 + j ≤ k → get_or moved k 0 ≡ 0
