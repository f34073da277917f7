-- What a reader is given once its first tests have passed.
-- Assumes nothing.
use Rattle.std.specs.Prelude.{ℕ, ◌≡◌, true, List, length}
use Rattle.span.specs.declared.format.Format.{Format}
use Rattle.span.specs.Format.{is_known, shape_of, symbols_in}

-- as many symbols as a span of a known format has
pub record IsWindow (f : Format) (w : List ℕ) : Type 0 where
  pub known : is_known f ≡ true
  pub long : length w ≡ symbols_in (shape_of f)
