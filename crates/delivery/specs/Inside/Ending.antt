-- Where delivery has come to.
-- Assumes nothing.
use Rattle.std.specs.Prelude.{ℕ, ◌+◌, List, [], ◌∷◌}
use Rattle.delivery.specs.Delivery.{Found}

-- the end of the last of some windows of n symbols; p if there is none
abbrev pub end_after : {A : Type 0} → ℕ → ℕ → List (Found A) → ℕ
end_after n p [] = p
end_after n p (e ∷ more) = end_after n (e.place + n) more
