-- Which rows are filled with blanking samples, which are refused, and the row that is made.
-- Assumes nothing.
use mathlib.Core.Path.{◌≡◌}
use mathlib.Core.Bool.{true, false}
use mathlib.Core.List.{List}
use Prim.Native.Nat.{ℕ}
use lib.ListN.{length, replicate}
use borrow.Author.Tests.{eq-eqb, ne_eqb}
use Rattle.ground.specs.Answer.{refused, given}
use Rattle.ground.proofs.Writing.{replicate_table}
use Rattle.span.specs.declared.format.Format.{Format}
use Rattle.span.specs.Format.{is_known, shape_of, samples_in}
use Rattle.span.specs.Blanking.{fill_of, blank_row}
use Rattle.span.specs.Sample.{blank_word}

module _ (f : Format) (row : List ℕ) where
  pub fill_meets_1 : is_known f ≡ false → fill_of f row ≡ refused 1 0
  fill_meets_1 t = simp t

  module _ (known : is_known f ≡ true) where
    pub fill_meets_4 : (length row ≡ samples_in (shape_of f) → ⊥) → fill_of f row ≡ refused 4 0
    fill_meets_4 x = simp (known, ne_eqb (length row) (samples_in (shape_of f)) x)

    pub fills : length row ≡ samples_in (shape_of f) → fill_of f row ≡ given tt
    fills e = simp (known, eq-eqb (length row) (samples_in (shape_of f)) e)

  -- one word throughout
  pub blank_row_lem : length row ≡ samples_in (shape_of f) → replicate (length row) (blank_word f) ≡ blank_row f
  blank_row_lem e = rw e (replicate_table (samples_in (shape_of f)) (blank_word f))
