-- `line::picture::basic_line_of` meets its contract: the test says which case of the definition holds.
-- Assumes nothing.
use mathlib.Core.Path.{sym, ◌∙◌}
use native.Mathlib.Omega.{arith}
use Rattle.ground.proofs.Ranges.{from_low}
use Rattle.line.proofs.picture.basic_line_of.Goals as goal

pub overflow_sub-result : goal.overflow_sub-result
overflow_sub-result c =
    let n = c.args.l.0 in
    omega (arith, c.number_of.ensures, from_low 42 1121 n (sym c.is_active.ensures ∙ c.if-is_active.true))
