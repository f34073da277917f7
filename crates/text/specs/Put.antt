-- Text, as ASCII codes, put into a lent buffer.
-- Assumes nothing.
use Rattle.std.specs.Prelude.{ℕ, ◌+◌, Bool, cond, List, leb, length}
use Rattle.std.proofs.lemmas.List.Edits.{sets}

abbrev pub space : ℕ
space = 32

abbrev pub newline : ℕ
newline = 10

-- whether it fits into this much room from a place on
abbrev pub has_room : ℕ → ℕ → List ℕ → Bool
has_room room at text = leb (at + length text) room

-- where it ends, and the buffer afterwards; if it does not fit, nothing is put
abbrev pub end_of : ℕ → ℕ → List ℕ → ℕ
end_of room at text = cond (has_room room at text) (at + length text) at

abbrev pub put_of : List ℕ → ℕ → List ℕ → List ℕ
put_of out at text = cond (has_room (length out) at text) (sets out at text) out
