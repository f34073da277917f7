-- The line that an answer of the line-number reader names, if any.
-- Assumes nothing.
use Rattle.std.specs.Prelude.{ℕ, Result, Ok, Err}
use Rattle.std.proofs.Math.Option.{Option, none, some}
use Rattle.line.specs.declared.stream.StreamLine.{StreamLine}
use Rattle.word.specs.declared.line_number.NameError.{NameError}

abbrev pub line_in : Result StreamLine NameError → Option ℕ
line_in (Ok l) = some l.0
line_in (Err e) = none
