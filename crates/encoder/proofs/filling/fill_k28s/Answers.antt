-- `encoder::filling::fill_k28s` meets its contract: after y iterations the first y entries stand in their places.
-- Assumes nothing.
use mathlib.Core.Path.{◌≡◌, refl, ap, ◌∙◌}
use native.Mathlib.Omega.{arith}
use Rattle.ground.specs.Written.{table}
use Rattle.encoder.specs.Inside.Filling.{k28s_of}
use Rattle.ground.proofs.Storing.{stored, none_stored, one_more}
use Rattle.encoder.proofs.filling.fill_k28s.Goals as goal

pub loop-y-init : goal.loop-y-init
loop-y-init c = none_stored c.args.out.now c.args.at _

pub loop-y-preserved : goal.loop-y-preserved
loop-y-preserved c = one_more c.args.out.now c.args.at _ c.loop-y.y c.loop-y.invariant refl refl

pub returns : goal.returns
unfolding stored k28s_of table
returns c =
    let end : c.loop-y.y ≡ 8 = omega arith in c.loop-y.invariant ∙ ap (stored c.args.out.now c.args.at _) end
