-- What to keep of symbols in which no window was found, when more of them will arrive.
-- Assumes nothing.
use Rattle.std.specs.Prelude.{ℕ, ◌+◌, ◌-◌, cond, leb}

-- the first place of which the window is not whole among `long` symbols, if windows have n: those before it were tried
abbrev pub untried : ℕ → ℕ → ℕ
untried n long = long + 1 - n

-- the first place at or after p at which a window may still begin when more symbols arrive
unfoldable pub kept_from : ℕ → ℕ → ℕ → ℕ
kept_from n long p = cond (leb p (untried n long)) (untried n long) p
