-- `send::put::repeat` meets its contract: up to place i each symbol is the one 96 before it.
-- Assumes nothing.
use Rattle.std.proofs.Common.{◌≡◌, ℕ, ◌-◌, ap, arith}
use Rattle.send.specs.Inside.Put.{repeated}
use Rattle.send.proofs.Runs.{one_repeated}
use Rattle.send.proofs.put.repeat.Goals as goal

pub loop-i-init : goal.loop-i-init
unfolding repeated
loop-i-init c =
    let none : 0 ≡ c.args.from - c.args.from = omega arith in
    (omega arith, ap (λ (n : ℕ). repeated n c.args.from c.args.out.now) none)

pub loop-i-preserved : goal.loop-i-preserved
loop-i-preserved c = (omega arith, one_repeated c.args.from c.loop-i.i c.args.out.now (omega arith) c.loop-i.invariant.1)
