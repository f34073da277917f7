-- `generate::parameters::wanted_in` meets its contract: the tests are those of the table, in its order.
-- Assumes nothing.
use mathlib.Core.Path.{sym}
use Prim.Native.Nat.{◌<◌}
use native.Mathlib.Omega.{arith}
use lib.ListN.{length}
use Rattle.generate.proofs.Wants.{no_line, known_is, meets_2}
use Rattle.generate.proofs.parameters.wanted_in.Goals as goal

pub returns-then-input-lt4 : goal.returns-then-input-lt4
returns-then-input-lt4 c =
    let input = c.args.input.now in
    let known = known_is input c.plain_format-format.ensures c.is_known.ensures (c.if-not-is_known.false) in
    let short : length input < 4 = omega arith in
    sym (meets_2 input known (no_line input short))
