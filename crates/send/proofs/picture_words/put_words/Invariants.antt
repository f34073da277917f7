-- `send::picture_words::put_words` meets its contract: after q iterations the first 4 * q pairs of words are put.
-- Assumes nothing.
use Rattle.std.proofs.Common.{◌*◌}
use Rattle.send.proofs.Passing.{Done}
use Rattle.send.proofs.picture_words.put_words.Given as goal

abbrev pub invariant-loop-q : goal.invariant-loop-q
invariant-loop-q g l = Done l.d l.words l.at l.initial.out g.row.PAIRS (4 * l.q) l.offset l.out
