-- A knocked plug: definitions that only loops and proofs use. The rest is in specs/Knock.
-- Assumes nothing.
use Rattle.std.specs.Prelude.{ℕ, suc, cond, List, [], ◌∷◌}
use Rattle.rig.specs.declared.knock.Knock.{Knock}
use Rattle.rig.specs.Knock.{struck}

-- symbols of the frame, the first of them at place q: those struck are 0, and the others as they were
unfoldable pub knocked : Knock → ℕ → List ℕ → List ℕ
knocked k q [] = []
knocked k q (s ∷ more) = cond (struck k q) 0 s ∷ knocked k (suc q) more
