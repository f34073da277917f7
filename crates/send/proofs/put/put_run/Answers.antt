-- `send::put::put_run` meets its contract: after i iterations the first i pairs stand in the buffer.
-- Assumes nothing.
use Rattle.std.proofs.Common.{◌≡◌, ap, ◌∙◌, arith}
use Rattle.send.proofs.Runs.{pair_is, again, none_again, once_more, all_again}
use Rattle.send.proofs.put.put_run.Goals as goal

pub loop-i-init : goal.loop-i-init
loop-i-init c = none_again c.args.d c.args.w c.args.out.now c.args.at

pub loop-i-preserved : goal.loop-i-preserved
loop-i-preserved c =
    let a = c.args in
    let v = c.loop-i in
    rw v.invariant (once_more a.d a.w a.out.now a.at (pair_is a.d a.w c.bytes_of-b.ensures c.code_three-t.ensures) v.i)

pub returns : goal.returns
returns c =
    let a = c.args in
    let v = c.loop-i in
    let past : v.i ≡ a.pairs = omega arith in
    v.invariant ∙ ap (again a.d a.w a.out.now a.at) past ∙ all_again a.d a.w a.out.now a.at c.requires.keeps_disparity a.pairs
