-- `send::send::scale` meets its contract: after i iterations the first i words stand in their places.
-- Assumes nothing.
use Rattle.std.proofs.Common.{◌≡◌}
use Rattle.send.proofs.Scaling.{words_upto}
use Rattle.send.proofs.send.scale.Given as goal

abbrev pub invariant-loop-i : goal.invariant-loop-i
invariant-loop-i l = l.words ≡ words_upto l.factor l.samples l.initial.words l.i
