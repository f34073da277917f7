-- `encoder::filling::fill_bytes` meets its contract: after y iterations the first y rows stand in their places.
-- Assumes nothing.
use mathlib.Core.Path.{◌≡◌}
use lib.ListN.{get_or}
use Rattle.encoder.specs.Inside.Filling.{row_of}
use Rattle.ground.proofs.Storing.{put_pieces}
use Rattle.encoder.proofs.filling.fill_bytes.Given as goal

abbrev pub invariant-loop-y : goal.invariant-loop-y
invariant-loop-y l = l.out ≡ put_pieces l.initial.out l.at (λ k. row_of l.low l.masks (get_or l.same k 0) (get_or l.other k 0)) l.y
