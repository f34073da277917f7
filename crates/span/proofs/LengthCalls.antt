-- What the lengths call answers, in the paper's own numbers.
-- Assumes nothing.
use mathlib.Core.Path.{◌≡◌, ◌∙◌}
use mathlib.Core.Bool.{true, false}
use Rattle.ground.specs.Answer.{refused, given}
use Rattle.span.specs.declared.format.Format.{Format}
use Rattle.span.specs.Format.{is_known, shape_of, samples_in, symbols_in}
use Rattle.span.specs.Length.{lengths_of}
use Rattle.span.specs.Numbers.{IsFormat}
use Rattle.span.proofs.Formats.{is_known_lem}

module _ (f : Format) where
  pub lengths_given :
      is_known f ≡ true → lengths_of f ≡ given (record { samples = samples_in (shape_of f); symbols = symbols_in (shape_of f) })
  lengths_given t = simp t

  pub lengths_refused : is_known f ≡ false → lengths_of f ≡ refused 1 0
  lengths_refused t = simp t

module _ (f : Format) (k : IsFormat f) where
  pub lengths_of_120 : f.number ≡ 1 → lengths_of f ≡ given (record { samples = 3840; symbols = 7920 })
  unfolding shape_of
  lengths_of_120 e = lengths_given f (is_known_lem f k) ∙ rw e

  pub lengths_of_100 : f.number ≡ 2 → lengths_of f ≡ given (record { samples = 3840; symbols = 9504 })
  unfolding shape_of
  lengths_of_100 e = lengths_given f (is_known_lem f k) ∙ rw e

  pub lengths_of_50 : f.number ≡ 3 → lengths_of f ≡ given (record { samples = 7680; symbols = 19008 })
  unfolding shape_of
  lengths_of_50 e = lengths_given f (is_known_lem f k) ∙ rw e
