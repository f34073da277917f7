-- `put` of `Column` of `read_test20::see::Three` meets its contract: one word more of two streams.
-- Assumes nothing.
use Rattle.read_test20.proofs.Getting.{put_two_more}
use Rattle.read_test20.proofs.picture.ThreeColumn.put.Goals as goal

pub returns-clause-got : goal.returns-clause-got
returns-clause-got c = λ w old v seen g. put_two_more w v c.requires.j_bound seen c.put_pair.ensures.rows g
