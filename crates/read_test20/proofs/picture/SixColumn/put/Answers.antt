-- `put` of `Column` of `read_test20::see::Six` meets its contract: one word more of four streams.
-- Assumes nothing.
use Rattle.read_test20.proofs.Getting.{put_four_more}
use Rattle.read_test20.proofs.picture.SixColumn.put.Goals as goal

pub returns-clause-got : goal.returns-clause-got
returns-clause-got c = λ w old v seen g. put_four_more w v c.requires.j_bound seen c.put_six.ensures.rows g
