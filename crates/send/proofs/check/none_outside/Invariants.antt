-- `send::check::none_outside` meets its contract: nothing found and the rest within is the whole within.
-- Assumes nothing.
use Rattle.std.proofs.Common.{◌≡◌, ◌&&◌, eqb, drop}
use Rattle.request.specs.Inside.Check.{all_within}
use Rattle.send.proofs.check.none_outside.Given as goal

abbrev pub invariant-loop-x : goal.invariant-loop-x
invariant-loop-x l = (eqb l.found 0 && all_within l.low l.high (drop l.x-index l.samples)) ≡ all_within l.low l.high l.samples
