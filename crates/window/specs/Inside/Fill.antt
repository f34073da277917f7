-- The fill of a window: whether each word is 100.
-- Assumes nothing.
use Rattle.std.specs.Prelude.{ℕ, ◌+◌, ◌*◌, Bool, not, List, eqb}
use Rattle.ground.specs.Search.{first_from, is_some}
use Rattle.span.specs.declared.format.Shape.{Shape}
use Rattle.span.specs.Format.{streams}
use Rattle.span.specs.Span.{fill_word}
use Rattle.span.specs.Layout.{ancillary_start}
use Rattle.window.specs.Words.{word_at}

-- every fill word is right
unfoldable pub fill_right : Shape → List ℕ → Bool
fill_right p w =
    not (is_some (first_from (streams p * (ancillary_start + p.ancillary)) (2 * p.fill_pairs) (λ k. not (eqb (word_at p w k) fill_word))))
