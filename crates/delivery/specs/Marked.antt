-- What a reading of windows must satisfy so that no window can begin inside another (spans satisfy it: law `span_marked`, crate
-- recording).
-- Assumes nothing.
use Rattle.std.specs.Prelude.{ℕ, ◌+◌, ◌<◌, List, [], ◌∷◌}
use Rattle.delivery.specs.Delivery.{Found}

-- every window of a delivery ends after place e
abbrev pub AllAfter : {A : Type 0} → ℕ → ℕ → List (Found A) → Type 0
AllAfter n e [] = Unit
AllAfter n e (x ∷ xs) = (e < x.place + n) × AllAfter n e xs
