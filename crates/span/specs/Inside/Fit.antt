-- Whether symbols and rows have the lengths of a known format.
-- Assumes nothing.
use Rattle.std.specs.Prelude.{ℕ, Bool, ◌&&◌, eqb}
use Rattle.span.specs.declared.format.Format.{Format}
use Rattle.span.specs.Format.{is_known, shape_of, samples_in, symbols_in}

-- the format is known, and has this many symbols and this many row words
abbrev pub ready : Format → ℕ → ℕ → Bool
ready f symbols rows = is_known f && (eqb symbols (symbols_in (shape_of f)) && eqb rows (samples_in (shape_of f)))
