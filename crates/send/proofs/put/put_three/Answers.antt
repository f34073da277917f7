-- `send::put::put_three` meets its contract: three stores.
-- Assumes nothing.
use Rattle.send.proofs.Putting.{three_put}
use Rattle.send.proofs.put.put_three.Goals as goal

pub returns : goal.returns
returns c =
    let a = c.args in
    let p = three_put a.d a.at a.out.now a.x a.y a.z c.code_three-t.ensures in
    record { offset = p.offset; out = p.out }
