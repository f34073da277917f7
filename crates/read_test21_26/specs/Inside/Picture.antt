-- Test 25 over the words of a picture.
-- Assumes nothing.
use Rattle.std.specs.Prelude.{ℕ, Bool, true, ◌&&◌, List, [], ◌∷◌}
use Rattle.packing.specs.Sample.{allowed_word}

-- every word may be a sample's
unfoldable pub all_allowed : ℕ → List ℕ → Bool
all_allowed depth [] = true
all_allowed depth (x ∷ xs) = allowed_word depth x && all_allowed depth xs
