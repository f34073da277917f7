-- Two blocks as a symbol, and whether a block flips the disparity.
-- Assumes nothing.
use Rattle.std.specs.Prelude.{ℕ, ◌+◌, ◌*◌, ◌^◌, Bool, not, eqb}
use Rattle.std.specs.Int.Count.{ones_in}
use Rattle.symbol.specs.Code.{reversed}

-- both blocks in reverse order, the six bits below the four
unfoldable pub as_symbol : ℕ → ℕ → ℕ
unfolding reversed
as_symbol six four = reversed 6 six + 2 ^ 6 * reversed 4 four

-- whether the ones of a block are not the half of its bits; no block has more than six bits
unfoldable pub unbalanced : ℕ → ℕ → Bool
unfolding ones_in
unbalanced half block = not (eqb (ones_in 6 block) half)
