-- `encoder::filling::fill_row` meets its contract: after x iterations the first x entries stand in their places.
-- Assumes nothing.
use mathlib.Core.Path.{◌≡◌, refl, ap, ◌∙◌}
use native.Mathlib.Omega.{arith}
use lib.Bits.{bit_or}
use lib.ListN.{get_or}
use Rattle.ground.specs.Written.{table}
use Rattle.encoder.specs.Inside.Filling.{row_of}
use Rattle.ground.proofs.Storing.{stored, none_stored, one_more}
use Rattle.encoder.proofs.filling.fill_row.Goals as goal

pub loop-x-init : goal.loop-x-init
loop-x-init c = none_stored c.args.out.now c.args.at _

pub loop-x-preserved : goal.loop-x-preserved
loop-x-preserved c =
    let a = c.args in
    let v = c.loop-x in
    one_more a.out.now a.at _ v.x v.invariant refl (ap (bit_or (get_or a.low.now v.x 0)) c.picked.ensures)

pub returns : goal.returns
unfolding stored row_of table
returns c =
    let end : c.loop-x.x ≡ 32 = omega arith in c.loop-x.invariant ∙ ap (stored c.args.out.now c.args.at _) end
