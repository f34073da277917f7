-- What holds of the rig: which lines a knock costs, which pieces are carried, that the pieces are one signal; `proofs/Laws` proves each.
-- Assumes nothing.
use Rattle.std.specs.Prelude.{ℕ, ◌+◌, ◌-◌, ◌*◌, ◌≤◌, ◌<◌, ◌≡◌, true, false, ◌++◌, length}
use Rattle.ground.specs.Answer.{refused, given}
use Rattle.ground.specs.Inside.Answer.{Injective}
use Rattle.symbol.specs.declared.disparity.Disparity.{Disparity}
use Rattle.rig.specs.declared.knock.Knock.{Knock}
use Rattle.rig.specs.Frame.{line_of_piece}
use Rattle.rig.specs.Knock.{lost}
use Rattle.rig.specs.Piece.{paper_carried, carry_of}
use Rattle.rig.specs.Sending.{after_from}
use Rattle.rig.specs.Inside.Sending.{sent_from}

pub record RigLaws : Type 0 where
  -- stream line n, whose span has the symbols from 19,008 (n - 1) on and ends before 19,008 n, is lost if and only if the knock takes one
  -- of these
  pub is_lost_where :
      (k : Knock) (n : ℕ)
      → 1 ≤ n
      → 1 ≤ k.long
      → k.place < 19008 * n
      → 19008 * (n - 1) < k.place + k.long
      → lost k n ≡ true
  pub is_kept_where :
      (k : Knock) (n : ℕ)
      → 1 ≤ n
      → (1 ≤ k.long → k.place < 19008 * n → 19008 * (n - 1) < k.place + k.long → ⊥)
      → lost k n ≡ false
  -- pieces 0 to 224 are carried into five flags and ten rows of 3840; any other piece meets 2, other lengths 4
  pub carries :
      (piece : ℕ) (d : Disparity) (heard picture : ℕ)
      → piece < 225
      → heard ≡ 5
      → picture ≡ 38400
      → carry_of piece d heard picture ≡ given (after_from d (line_of_piece piece 0) 5)
  pub carry_meets2 : (piece : ℕ) (d : Disparity) (heard picture : ℕ) → (piece < 225 → ⊥) → carry_of piece d heard picture ≡ refused 2 0
  pub carry_meets4 :
      (piece : ℕ) (d : Disparity) (heard picture : ℕ)
      → piece < 225
      → (heard ≡ 5 → picture ≡ 38400 → ⊥)
      → carry_of piece d heard picture ≡ refused 4 0
  -- m lines are 19,008 m symbols; two runs of lines are one signal, the disparity handed from one to the other
  pub length_sent : (d : Disparity) (n m : ℕ) → length (sent_from d n m) ≡ 19008 * m
  pub sent_on : (d : Disparity) (n a b : ℕ) → sent_from d n (a + b) ≡ sent_from d n a ++ sent_from (after_from d n a) (n + a) b
  -- the numbers tell any two answers apart, so that a promise about them fixes the answer
  pub carried_told : Injective paper_carried
