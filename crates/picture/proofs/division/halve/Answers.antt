-- `picture::division::halve` meets its contract: image and line are those of n + 1, without that number.
-- Assumes nothing.
use native.Mathlib.Omega.{arith}
use Rattle.picture.specs.Division.{image_at, image_line, image_sample}
use Rattle.picture.proofs.Steps.{quarter_is}
use Rattle.picture.proofs.division.halve.Goals as goal

pub returns : goal.returns
unfolding image_at image_line image_sample
returns c =
    let a = c.args in
    let e = c.number_of-n.ensures in
    quarter_is a.line.0 a.sample (omega (arith, e)) (omega (arith, e, c.picture_line.ensures)) (omega arith)
