-- `line::picture::stream_line_of` meets its contract: the test says which case of the definition holds.
-- Assumes nothing.
use mathlib.Core.Path.{sym, ◌∙◌}
use native.Mathlib.Omega.{arith}
use Rattle.ground.proofs.Ranges.{to_high}
use Rattle.line.proofs.picture.stream_line_of.Goals as goal

pub overflow_add-l : goal.overflow_add-l
overflow_add-l c =
    omega (arith, to_high _ _ _ (sym c.within.ensures ∙ c.if-within.true))
