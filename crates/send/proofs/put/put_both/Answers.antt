-- `send::put::put_both` meets its contract: the three bytes of the number are those of the two words.
-- Assumes nothing.
use Rattle.std.proofs.Common.{arith}
use Rattle.send.proofs.Putting.{made, renamed, both_chars}
use Rattle.send.proofs.put.put_both.Goals as goal

pub returns : goal.returns
returns c =
    let a = c.args in
    let p = renamed (both_chars a.both (omega arith)) (made (c.put_three.ensures.offset, c.put_three.ensures.out)) in
    record { offset = p.offset; out = p.out }
