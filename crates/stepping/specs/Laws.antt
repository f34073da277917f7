-- Laws of the stepping reader; `proofs/Laws` proves each.
-- Assumes nothing.
use Rattle.std.specs.Prelude.{ℕ, suc, ◌≡◌, List, ◌∷◌}
use Rattle.span.specs.declared.format.Format.{Format}
use Rattle.stepping.specs.declared.reader.Reader.{Reader}
use Rattle.stepping.specs.Reader.{answer_of, moved_of, rows_after_step}
use Rattle.stepping.specs.Inside.Steps.{run_of}

pub record SteppingLaws : Type 0 where
  -- a run of a reader's steps: one step, and then the run of the reader that it left
  pub step_by_step :
      (f : Format) (r : Reader) (rows : List ℕ) (k : ℕ)
      → run_of (suc k) f r rows
      ≡ record { answer = answer_of f r rows; rows = rows_after_step f r rows } ∷ run_of k f (moved_of f r rows) (rows_after_step f r rows)
