-- Dividing a row of a picture into the rows of two images, and joining them (004, 5.3; document 01, "Dividing a picture").
-- Assumes nothing.
use Rattle.std.specs.Prelude.{ℕ, ◌+◌, ◌*◌, Bool, ◌&&◌, List, [], ◌∷◌, eqb, length, get_or, take, drop, Result, Ok, Err}
use Rattle.ground.specs.Answer.{Answer, refused, given, unless, checked, unless_refused}
use Rattle.ground.specs.Written.{upto, table}
use Rattle.dividing.specs.declared.row.CopyError.{CopyError}
use Rattle.dividing.specs.declared.row.CopyError.TheVariants.{WrongInput, WrongOutput}

-- the n samples of a row that go to the image with this w: its sample j is the row's sample 2j + w
unfoldable pub divided : ℕ → ℕ → List ℕ → List ℕ
divided w n row = table n (λ j. get_or row (2 * j + w) 0)

-- the row of 2n samples that two rows of n make: sample j of the first (w = 0), and then sample j of the second (w = 1)
unfoldable pub joined : ℕ → List ℕ → List ℕ → List ℕ
joined n first second = upto n (λ j. get_or first j 0 ∷ get_or second j 0 ∷ [])

-- the row of stream t, from rows stored one after the other
abbrev pub stream_in : List ℕ → ℕ → List ℕ
stream_in words t = take 1920 (drop (1920 * t) words)

-- the paper's number for each answer
abbrev pub paper_copied : Result (Unit {0}) CopyError → Answer (Unit {0})
paper_copied (Ok done) = given done
paper_copied (Err WrongInput) = refused 3 0
paper_copied (Err WrongOutput) = refused 4 0

-- the refusals in the order tried: 3 if an input has the wrong length, then 4 if an output has
abbrev pub copy_of : Bool → Bool → Answer (Unit {0})
copy_of input output = checked (unless 3 input ∷ unless 4 output ∷ []) tt

-- a row of a picture has 3840 samples, and one of a basic image 1920 (5.3)
abbrev pub is_row : List ℕ → Bool
is_row row = eqb (length row) 3840

abbrev pub are_rows : List ℕ → List ℕ → Bool
are_rows first second = eqb (length first) 1920 && eqb (length second) 1920

abbrev pub split_of : List ℕ → List ℕ → List ℕ → Answer (Unit {0})
split_of row first second = copy_of (is_row row) (are_rows first second)

-- the rows of the two images afterwards
abbrev pub split_first : List ℕ → List ℕ → List ℕ → List ℕ
split_first row first second = unless_refused (split_of row first second) first (divided 0 1920 row)

abbrev pub split_second : List ℕ → List ℕ → List ℕ → List ℕ
split_second row first second = unless_refused (split_of row first second) second (divided 1 1920 row)

abbrev pub join_of : List ℕ → List ℕ → List ℕ → Answer (Unit {0})
join_of first second row = copy_of (are_rows first second) (is_row row)

-- the row of the picture afterwards
abbrev pub join_row : List ℕ → List ℕ → List ℕ → List ℕ
join_row first second row = unless_refused (join_of first second row) row (joined 1920 first second)
