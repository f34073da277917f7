-- `encoder::filling::fill_k28s` meets its contract: after y iterations the first y entries stand in their places.
-- Assumes nothing.
use mathlib.Core.Path.{◌≡◌}
use lib.Bits.{bit_or}
use lib.ListN.{get_or}
use Rattle.ground.proofs.Storing.{stored}
use Rattle.encoder.proofs.filling.fill_k28s.Given as goal

abbrev pub invariant-loop-y : goal.invariant-loop-y
invariant-loop-y l = l.out ≡ stored l.initial.out l.at (λ k. bit_or l.k28 (get_or l.special k 0)) l.y
