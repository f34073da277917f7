-- Laws of dividing and joining rows of any length, for a reader of the papers; `proofs/Laws` proves each.
-- Assumes nothing.
use Rattle.std.specs.Prelude.{ℕ, ◌*◌, ◌<◌, ◌≡◌, List, length, get_or}
use Rattle.ground.specs.Inside.Answer.{Injective}
use Rattle.picture.specs.Division.{image_at, image_sample, w, sample_from}
use Rattle.dividing.specs.Row.{divided, joined, paper_copied}
use Rattle.dividing.specs.Inside.Row.{row_with}

pub record DividingLaws : Type 0 where
  -- joining what was divided gives the row (document 01, "Dividing a picture")
  pub join_split : (n : ℕ) (row : List ℕ) → length row ≡ 2 * n → joined n (divided 0 n row) (divided 1 n row) ≡ row
  -- dividing what was joined gives the two rows, by their w: 0 for the first, 1 for the second
  pub split_join :
      (n : ℕ) (first second : List ℕ) (c : ℕ)
      → c < 2
      → length (row_with c first second) ≡ n
      → divided c n (joined n first second) ≡ row_with c first second
  -- sample j of the row that image u gets is the sample of the picture's row that belongs there (004, 5.3)
  pub comes_from : (n : ℕ) (row : List ℕ) (u j : ℕ) → j < n → get_or (divided (w u) n row) j 0 ≡ get_or row (sample_from u j) 0
  -- and every sample of the row goes to its place, whichever line the row is on: none is lost
  pub goes_to :
      (n : ℕ) (row : List ℕ) (line k : ℕ)
      → k < 2 * n
      → get_or (divided (w (image_at line k)) n row) (image_sample k) 0 ≡ get_or row k 0
  -- the paper's number tells any two answers apart, so that a contract about it fixes the answer
  pub copied_told : Injective paper_copied
