-- The CRC of each stream over its picture words (004, 6.4 d), from the rows of a picture.
-- Assumes nothing.
use Rattle.std.specs.Prelude.{ℕ, ◌+◌, ◌*◌, cond, List, Option, Some, None, eqb, length, get_or}
use Rattle.ground.specs.Written.{table}
use Rattle.crcc.specs.Crcc.{crc}
use Rattle.crcc.specs.declared.sums.Sums.{Sums}

-- the 1920 words from a place on
abbrev pub words_in : List ℕ → ℕ → List ℕ
words_in rows from = table 1920 (λ i. get_or rows (from + i) 0)

-- row t of a picture's rows, stream by stream
abbrev pub stream_row : List ℕ → ℕ → List ℕ
stream_row rows t = words_in rows (1920 * t)

-- the CRC of each row, of two rows and of four
abbrev pub sums_of_two : List ℕ → Sums
sums_of_two rows = record { first = crc 0 (stream_row rows 0); second = crc 0 (stream_row rows 1); third = 0; fourth = 0 }

abbrev pub sums_of_four : List ℕ → Sums
sums_of_four rows =
    record { first = crc 0 (stream_row rows 0); second = crc 0 (stream_row rows 1); third = crc 0 (stream_row rows 2); fourth = crc 0 (stream_row rows 3) }

-- of rows of any length: rows of another length have none
unfoldable pub summed_of : List ℕ → Option Sums
summed_of rows =
    cond (eqb (length rows) 3840) (Some (sums_of_two rows)) (cond (eqb (length rows) 7680) (Some (sums_of_four rows)) None)

-- of two rows or four (law `has_sums`)
abbrev pub sums_in : List ℕ → Sums
sums_in rows = cond (eqb (length rows) 3840) (sums_of_two rows) (sums_of_four rows)
