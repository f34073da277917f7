-- What is made of the spans delivered from a piece of five lines: which lines were heard, and their lines of the picture.
-- Assumes nothing.
use Rattle.std.specs.Prelude.{ℕ, ◌+◌, ◌-◌, ◌*◌, Bool, cond, ◌&&◌, List, [], ◌∷◌, ◌++◌, eqb, leb, length, replicate}
use Rattle.std.proofs.lemmas.List.Edits.{sets}
use Rattle.ground.specs.Range.{within}
use Rattle.line.specs.Stream.{is_active}
use Rattle.dividing.specs.Row.{joined, stream_in}
use Rattle.delivery.specs.Delivery.{Found}
use Rattle.recording.specs.Recording.{Reading, delivery_from}
use Rattle.reception.specs.Link.{link}

-- the number of the line that was read
abbrev pub line_heard : Reading → ℕ
line_heard x = x.values.line.0

-- two streams joined: the row of the picture whose even samples are in one and odd samples in the other (004, 5.3)
unfoldable pub joined_row : ℕ → List ℕ → List ℕ
joined_row t words = joined 1920 (stream_in words t) (stream_in words (t + 1))

-- the two lines of the picture that a span brings: images 1 and 2 make line 2l - 1, images 3 and 4 line 2l. A blanking line brings none.
abbrev pub both_rows : List ℕ → List ℕ
both_rows words = joined_row 0 words ++ joined_row 2 words

abbrev pub brings : Reading → List ℕ
brings x = cond (is_active (line_heard x)) (both_rows x.words) []

-- its line was heard: 1
abbrev pub flag : Reading → List ℕ
flag x = 1 ∷ []

-- one of the five lines from line `first` on
abbrev pub is_of : ℕ → ℕ → Bool
is_of first n = within first (first + 4) n

-- what a span brings is put at the place of its line among the five, each with room for `size` words. Spans of other lines bring nothing.
abbrev pub put_one : ℕ → (Reading → List ℕ) → ℕ → List ℕ → Reading → List ℕ
put_one size what first buffer x =
    cond (is_of first (line_heard x)) (sets buffer (size * (line_heard x - first)) (what x)) buffer

-- the same for each span delivered
unfoldable pub put_all : ℕ → (Reading → List ℕ) → ℕ → List ℕ → List (Found Reading) → List ℕ
put_all size what first buffer [] = buffer
put_all size what first buffer (e ∷ more) = put_all size what first (put_one size what first buffer e.reading) more

-- the flags of the five lines
abbrev pub heard_from : ℕ → List ℕ → List (Found Reading) → List ℕ
heard_from = put_all 1 flag

-- their picture lines, two of 3,840 words each
abbrev pub shown_from : ℕ → List ℕ → List (Found Reading) → List ℕ
shown_from = put_all 7680 brings

-- ---- the call: what a piece of symbols brings into cleared memory

-- whether it is done: a line with four lines after it, no more symbols than five spans have, and room for five flags and ten rows
abbrev pub receivable : ℕ → ℕ → ℕ → ℕ → Bool
receivable first symbols heard picture = leb first 1121 && (leb symbols 95040 && (eqb heard 5 && eqb picture 38400))

-- the flags and the rows
abbrev pub heard_by : ℕ → List ℕ → List ℕ
heard_by first symbols = heard_from first (replicate 5 0) (delivery_from link symbols 0)

abbrev pub shown_by : ℕ → List ℕ → List ℕ
shown_by first symbols = shown_from first (replicate 38400 0) (delivery_from link symbols 0)

-- the lent memory afterwards; anything else leaves it as it was
abbrev pub flags_received : ℕ → List ℕ → List ℕ → ℕ → List ℕ
flags_received first symbols heard picture = cond (receivable first (length symbols) (length heard) picture) (heard_by first symbols) heard

abbrev pub rows_received : ℕ → List ℕ → ℕ → List ℕ → List ℕ
rows_received first symbols heard picture = cond (receivable first (length symbols) heard (length picture)) (shown_by first symbols) picture
