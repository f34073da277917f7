-- `row_crc::fold::crc_of_last` meets its contract.
-- Assumes nothing.
use mathlib.Core.Path.{refl, ◌∙◌}
use Rattle.row_crc.proofs.Folding.{none_before, next_left_lem}
use Rattle.row_crc.proofs.fold.crc_of_last.Goals as goal

pub loop-j-init : goal.loop-j-init
loop-j-init c =
    let s = c.args in
    (none_before s.a.now s.ma.now refl, none_before s.b.now s.mb.now refl)

pub loop-j-preserved : goal.loop-j-preserved
loop-j-preserved c =
    let s = c.args in
    let v = c.loop-j in (
      c.crc_word-c.ensures ∙ next_left_lem s.a.now s.ma.now v.invariant.0 v.auto.j c.with_moved.ensures,
      c.crc_word-d.ensures ∙ next_left_lem s.b.now s.mb.now v.invariant.1 v.auto.j c.with_moved-in-loop-j.ensures,
    )
