-- `encoder::filling::fill_bytes` meets its contract: after y iterations the first y rows stand in their places.
-- Assumes nothing.
use mathlib.Core.Path.{◌≡◌, refl, ap, ◌∙◌}
use native.Mathlib.Omega.{arith}
use Rattle.encoder.specs.Inside.Filling.{all_rows}
use Rattle.ground.proofs.Storing.{put_pieces, no_pieces, one_piece}
use Rattle.encoder.proofs.Filled.{length_row}
use Rattle.encoder.proofs.filling.fill_bytes.Goals as goal

pub loop-y-init : goal.loop-y-init
loop-y-init c = no_pieces c.args.out.now c.args.at _

pub loop-y-preserved : goal.loop-y-preserved
loop-y-preserved c =
    let a = c.args in
    let v = c.loop-y in
    c.fill_row.ensures ∙ one_piece 32 a.out.now a.at _ (λ k. length_row _ _ _ _) v.y _ v.invariant refl

pub returns : goal.returns
unfolding put_pieces all_rows
returns c =
    let end : c.loop-y.y ≡ 8 = omega arith in c.loop-y.invariant ∙ ap (put_pieces c.args.out.now c.args.at _) end
