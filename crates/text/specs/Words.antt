-- Words of sixteen bits in bytes, the low byte first, as the programs of document 01, "Values to hold against it", read them.
-- Assumes nothing.
use Rattle.std.specs.Prelude.{ℕ, ◌+◌, ◌*◌, ◌/◌, min, List, get_or}
use Rattle.ground.specs.Written.{table}

abbrev pub word_in_bytes : List ℕ → ℕ → ℕ
word_in_bytes bytes k = get_or bytes (2 * k) 0 + get_or bytes (2 * k + 1) 0 * 256

-- how many there are in this many bytes, up to a limit: an odd last byte, and what follows the limit, is ignored
abbrev pub count_of : ℕ → ℕ → ℕ
count_of most bytes = min most (bytes / 2)

-- the first n of them
abbrev pub words_in_bytes : ℕ → List ℕ → List ℕ
words_in_bytes n bytes = table n (word_in_bytes bytes)
