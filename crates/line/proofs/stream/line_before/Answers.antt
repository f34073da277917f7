-- `line::stream::line_before` meets its contract: the test says which case of the definition holds.
-- Assumes nothing.
use mathlib.Core.Path.{sym, ◌∙◌}
use native.Mathlib.Omega.{arith}
use Rattle.ground.proofs.Ranges.{from_low}
use Rattle.line.proofs.stream.line_before.Goals as goal

pub overflow_sub-result : goal.overflow_sub-result
overflow_sub-result c =
    let n = c.args.l.0 in
    omega (arith, from_low 2 1125 n (sym c.within.ensures ∙ c.if-within.true))
