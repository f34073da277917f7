-- The tests of a window's words and their numbers (document 01, its table of refusals).
-- Assumes nothing.
use Rattle.std.specs.Prelude.{ℕ}
use Rattle.read_test21_26.specs.declared.service.Test.{Test}
use Rattle.read_test21_26.specs.declared.service.Test.TheVariants.{Timing, Line, V, Crcc, Sample, Fill}

abbrev pub number_of : Test → ℕ
number_of Timing = 21
number_of Line = 22
number_of V = 23
number_of Crcc = 24
number_of Sample = 25
number_of Fill = 26
