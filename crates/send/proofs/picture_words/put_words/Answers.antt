-- `send::picture_words::put_words` meets its contract: after q iterations the first 4 * q pairs of words are put.
-- Assumes nothing.
use Rattle.std.proofs.Common.{◌+◌, ◌*◌, arith}
use Rattle.send.proofs.Passing.{none_done, four_more, all_done}
use Rattle.send.proofs.picture_words.put_words.Goals as goal

pub loop-q-init : goal.loop-q-init
loop-q-init g c = none_done c.args.words.now c.args.at c.args.out.now g.row.PAIRS c.requires.d_value

pub loop-q-preserved : goal.loop-q-preserved
loop-q-preserved g c =
    let v = c.loop-q in
    let m = 4 * v.q in
    four_more v.invariant _ _ _ _ (c.args.at + 3 * m) (4 * (v.q + 1)) c.place_of.ensures.value c.place_of-in-loop-q.ensures.value c.place_of-in-loop-q-2.ensures.value c.place_of-in-loop-q-3.ensures.value (omega arith) (omega arith)
    (c.put_at-a.ensures.offset, c.put_at-a.ensures.out) (c.put_at-b.ensures.offset, c.put_at-b.ensures.out) (c.put_at-c.ensures.offset, c.put_at-c.ensures.out) (c.put_at-offset.ensures.offset, c.put_at-offset.ensures.out)

pub returns : goal.returns
returns g c =
    let k = all_done c.requires.le_pairs c.requires.pairs_bound (omega arith) c.loop-q.invariant in
    record { offset = k.offset; out = k.out }
