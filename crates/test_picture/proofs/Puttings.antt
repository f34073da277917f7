-- Which rows and samples are put, and which calls are refused, in the paper's own numbers.
-- Assumes nothing.
use mathlib.Core.Path.{◌≡◌}
use mathlib.Core.Bool.{true, false}
use mathlib.Core.List.{List}
use Prim.Native.Nat.{ℕ, ◌≤◌}
use lib.ListN.{length}
use borrow.Author.Tests.{eq-eqb, ne_eqb}
use Rattle.ground.specs.Answer.{refused, given}
use Rattle.ground.proofs.Ranges.{is_within, not_within}
use Rattle.line.specs.Stream.{is_line}
use Rattle.picture.specs.Place.{is_picture_line}
use Rattle.span.specs.declared.format.Format.{Format}
use Rattle.span.specs.Format.{is_known, shape_of, samples_in}
use Rattle.test_picture.specs.Putting.{row_answer, samples_answer}

module _ (line : ℕ) (row : List ℕ) where
  pub row_meets_2 : (1 ≤ line → line ≤ 2160 → ⊥) → row_answer line row ≡ refused 2 0
  row_meets_2 x = let t : is_picture_line line ≡ false = not_within 1 2160 line x in simp t

  module _ (p : 1 ≤ line) (q : line ≤ 2160) where
    pub row_meets_4 : (length row ≡ 3840 → ⊥) → row_answer line row ≡ refused 4 0
    row_meets_4 x = simp (is_within 1 2160 line p q, ne_eqb (length row) 3840 x)

    pub puts_row : length row ≡ 3840 → row_answer line row ≡ given tt
    puts_row e = simp (is_within 1 2160 line p q, eq-eqb (length row) 3840 e)

module _ (f : Format) (n : ℕ) (samples : List ℕ) where
  pub puts_samples : is_known f ≡ true → is_line n ≡ true → length samples ≡ samples_in (shape_of f) → samples_answer f n samples ≡ given tt
  puts_samples known line e = simp (known, line, eq-eqb (length samples) (samples_in (shape_of f)) e)
