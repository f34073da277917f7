-- What the loop over the picture keeps: rows of the words so far, and what is gathered from their symbols.
-- Assumes nothing.
use Rattle.std.specs.Prelude.{◌≡◌, ℕ, ◌+◌, ◌*◌, ◌≤◌, List, set}
use Rattle.std.proofs.lemmas.List.Edits.{sets}
use Rattle.packing.specs.declared.bytes.TwoWords.{TwoWords}
use Rattle.read_test20.specs.declared.see.Kept.{Kept}
use Rattle.ground.specs.Written.{table}
use Rattle.span.specs.declared.format.Shape.{Shape}
use Rattle.span.specs.Layout.{picture_start}
use Rattle.window.specs.Inside.Columns.{column_of}
use Rattle.window.specs.Inside.Given.{plain_pair}
use Rattle.read_test20.specs.Inside.Run.{RunInv}
use Rattle.read_test20.specs.Inside.See.{seen_three, seen_six, GatherInv, mask_by}

-- word i of the picture in streams 2u and 2u + 1, with this many pairs of streams
abbrev pub pair_in : ℕ → List ℕ → ℕ → ℕ → TwoWords
pair_in pairs w u i = plain_pair w (3 * (pairs * (picture_start + i) + u))

-- two words put into the rows of two streams
abbrev pub put_pair : TwoWords → ℕ → List ℕ → List ℕ
put_pair x at rows = set (set rows at x.a) (1920 + at) x.b

-- what is gathered after word j of two streams, and the rows then
abbrev pub place_two : List ℕ → ℕ → Kept → Kept
place_two w j v =
    let x = seen_three w (12 + 3 * j) v.good v.flips in
    record { good = x.good; flips = x.flips }

abbrev pub rows_two : List ℕ → ℕ → List ℕ → List ℕ
rows_two w j rows = put_pair (plain_pair w (12 + 3 * j)) j rows

-- the same for four streams
abbrev pub place_four : List ℕ → ℕ → Kept → Kept
place_four w j v =
    let x = seen_six w (24 + 6 * j) v.good v.flips in
    record { good = x.good; flips = x.flips }

abbrev pub rows_four : List ℕ → ℕ → List ℕ → List ℕ
rows_four w j rows = put_pair (plain_pair w (24 + 6 * j + 3)) (3840 + j) (put_pair (plain_pair w (24 + 6 * j)) j rows)

-- words 0 to j - 1 of two streams, in rows of `count` words
pub record TwoRowsInv (A B : ℕ → ℕ) (count low high : ℕ) (old : List ℕ) (j : ℕ) (rows : List ℕ) : Type 0 where
  pub some : j ≤ count
  pub apart : high ≡ low + count
  pub put : rows ≡ sets (sets old low (table j A)) high (table j B)

-- the first j words of streams 2u and 2u + 1 have been put into a buffer, from place `low` on
abbrev pub PutPairs : ℕ → List ℕ → ℕ → ℕ → List ℕ → ℕ → List ℕ → Type 0
PutPairs pairs w u low old j rows =
    TwoRowsInv (λ i. (pair_in pairs w u i).a) (λ i. (pair_in pairs w u i).b) 1920 low (low + 1920) old j rows

-- the first j words of all streams have been put into a buffer: those of two streams, and then those of the other two if there are four
pub record RowsInv (pairs : ℕ) (w old : List ℕ) (j : ℕ) (v : Kept) (rows : List ℕ) : Type 0 where
  pub clean : GatherInv w (12 * pairs) (12 * pairs + 3 * pairs * j) v.good v.flips
  pub low_rows : List ℕ
  pub low : PutPairs pairs w 0 0 old j low_rows
  pub two : pairs ≡ 1 → rows ≡ low_rows
  pub four : pairs ≡ 2 → PutPairs pairs w 1 3840 low_rows j rows

-- the first j picture words of each stream are valid, and `flips` has been gathered after them
pub record Come (pairs : ℕ) (w : List ℕ) (j flips : ℕ) : Type 0 where
  pub some : j ≤ 1920
  pub going : RunInv w 0 255 (12 * pairs) (12 * pairs + 3 * pairs * j) (mask_by flips)

-- the rows of streams 2u and 2u + 1 put into a buffer whose rows have `count` words
abbrev pub put_two : Shape → List ℕ → ℕ → ℕ → ℕ → List ℕ → List ℕ
put_two p w u first count buffer =
    sets (sets buffer (2 * u * count) (column_of p w first count (2 * u))) (2 * u * count + count)
    (column_of p w first count (2 * u + 1))
