-- `encoder::filling::fill_row` meets its contract: after x iterations the first x entries stand in their places.
-- Assumes nothing.
use mathlib.Core.Path.{◌≡◌}
use lib.ListN.{get_or}
use Rattle.encoder.specs.Inside.Filling.{picked, both_blocks}
use Rattle.ground.proofs.Storing.{stored}
use Rattle.encoder.proofs.filling.fill_row.Given as goal

abbrev pub invariant-loop-x : goal.invariant-loop-x
invariant-loop-x l = l.out ≡ stored l.initial.out l.at (λ k. both_blocks l.low k (picked (get_or l.masks k 0) l.same l.other)) l.x
