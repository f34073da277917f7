-- A piece of the frame, sent, knocked, delivered and joined: what comes of it, in terms of the knock alone.
-- Assumes nothing.
use Rattle.std.specs.Prelude.{ℕ, cond, ◌&&◌, List, [], ◌∷◌, ◌++◌, eqb, ltb, length, replicate, Result, Ok, Err}
use Rattle.std.proofs.Math.Option.{Option, none, some}
use Rattle.ground.specs.Answer.{Answer, refused, given, unless, checked, unless_refused}
use Rattle.ground.specs.Written.{upto, table}
use Rattle.picture.specs.Place.{picture_line_on}
use Rattle.symbol.specs.declared.disparity.Disparity.{Disparity}
use Rattle.test_picture.specs.TestPicture.{test_row}
use Rattle.rig.specs.declared.carry.CarryError.{CarryError}
use Rattle.rig.specs.declared.carry.CarryError.TheVariants.{NoPiece, WrongOutput}
use Rattle.rig.specs.declared.knock.Knock.{Knock}
use Rattle.rig.specs.Frame.{line_of_piece}
use Rattle.rig.specs.Knock.{lost}
use Rattle.rig.specs.Sending.{after_from}

-- two lines of a picture without light
abbrev pub black : List ℕ
black = replicate 7680 0

-- a line of the test picture; black where there is none
abbrev pub row_for : Option ℕ → List ℕ
row_for (some line) = test_row line
row_for none = replicate 3840 0

-- the two lines of the test picture that stream line n carries: those of images 1 and 3. A blanking line carries none.
abbrev pub sent_rows : ℕ → List ℕ
sent_rows n = row_for (picture_line_on n 1) ++ row_for (picture_line_on n 3)

-- those that arrive: black ones for a lost line
abbrev pub rows_at : Knock → ℕ → List ℕ
rows_at k n = cond (lost k n) black (sent_rows n)

-- all of a piece
unfoldable pub picture_in : Knock → ℕ → List ℕ
picture_in k piece = upto 5 (λ i. rows_at k (line_of_piece piece i))

-- which of its lines were heard: 1, or 0 for a lost line
unfoldable pub heard_in : Knock → ℕ → List ℕ
heard_in k piece = table 5 (λ i. cond (lost k (line_of_piece piece i)) 0 1)

-- ---- the call

-- the numbers are those that document 01 gives to lines and outputs
abbrev pub paper_carried : Result Disparity CarryError → Answer Disparity
paper_carried (Ok d) = given d
paper_carried (Err NoPiece) = refused 2 0
paper_carried (Err WrongOutput) = refused 4 0

-- 2 if the frame, which has 225 pieces, has no such piece; then 4 if there is not room for five flags and ten rows. Otherwise the disparity
-- after its spans.
abbrev pub carry_of : ℕ → Disparity → ℕ → ℕ → Answer Disparity
carry_of piece d heard picture =
    checked (unless 2 (ltb piece 225) ∷ unless 4 (eqb heard 5 && eqb picture 38400) ∷ []) (after_from d (line_of_piece piece 0) 5)

-- the lent memory afterwards: as it was if the call is refused
abbrev pub flags_carried : Knock → ℕ → Disparity → List ℕ → ℕ → List ℕ
flags_carried k piece d heard picture = unless_refused (carry_of piece d (length heard) picture) heard (heard_in k piece)

abbrev pub rows_carried : Knock → ℕ → Disparity → ℕ → List ℕ → List ℕ
rows_carried k piece d heard picture = unless_refused (carry_of piece d heard (length picture)) picture (picture_in k piece)
