-- A run of characters as symbols, each at the disparity left by those before it.
-- Assumes nothing.
use Rattle.std.specs.Prelude.{ℕ, List, [], ◌∷◌}
use Rattle.symbol.specs.declared.disparity.Disparity.{Disparity}
use Rattle.symbol.specs.Code.{symbol_of, after_of}

-- the symbols of a run, where the disparity before it is d
unfoldable pub symbols_from : Disparity → List ℕ → List ℕ
symbols_from d [] = []
symbols_from d (c ∷ cs) = symbol_of d c ∷ symbols_from (after_of d c) cs

-- the disparity after it
unfoldable pub after_run : Disparity → List ℕ → Disparity
after_run d [] = d
after_run d (c ∷ cs) = after_run (after_of d c) cs
