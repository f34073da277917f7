-- The picture as a file: a binary PGM of sixteen bits.
-- Assumes nothing.
use Rattle.std.specs.Prelude.{ℕ, ◌+◌, ◌*◌, ◌/◌, ◌%◌, cond, List, [], ◌∷◌, ◌++◌, take, drop, replicate}
use Rattle.ground.specs.Written.{upto}
use Rattle.line.specs.Stream.{is_active}
use Rattle.rig.specs.declared.knock.Knock.{Knock}
use Rattle.rig.specs.Frame.{line_of_piece}
use Rattle.rig.specs.Knock.{lost}
use Rattle.rig.specs.Piece.{picture_in}
use Rattle.test_picture.specs.TestPicture.{test_row}

-- each word is two bytes, the high byte first
unfoldable pub high_first : List ℕ → List ℕ
high_first [] = []
high_first (w ∷ words) = w / 256 ∷ w % 256 ∷ high_first words

-- "P5", width and height, the largest value, a line each
abbrev pub header : List ℕ
header = 80 ∷ 53 ∷ 10 ∷ 51 ∷ 56 ∷ 52 ∷ 48 ∷ 32 ∷ 50 ∷ 49 ∷ 54 ∷ 48 ∷ 10 ∷ 52 ∷ 48 ∷ 57 ∷ 53 ∷ 10 ∷ []

-- the two rows of line i of a piece, of its ten
abbrev pub rows_of_line : List ℕ → ℕ → List ℕ
rows_of_line picture i = take 7680 (drop (7680 * i) picture)

-- what is written of a piece: the rows of its active lines
unfoldable pub piece_bytes : ℕ → List ℕ → List ℕ
piece_bytes piece picture = upto 5 (λ i. cond (is_active (line_of_piece piece i)) (high_first (rows_of_line picture i)) [])

-- the file: the header, and then piece after piece
abbrev pub file_of : Knock → List ℕ
file_of k = header ++ upto 225 (λ piece. piece_bytes piece (picture_in k piece))

-- the row of picture line y, carried by stream line 41 + (y + 1) / 2: that of the test picture, or a black one (law `file_is`)
abbrev pub row_shown : Knock → ℕ → List ℕ
row_shown k y = cond (lost k (41 + (y + 1) / 2)) (replicate 3840 0) (test_row y)
