-- `way_back::back::picture_line_of` meets its contract.
-- Assumes nothing.
use mathlib.Core.Path.{sym, ap, ◌∙◌}
use native.Mathlib.Omega.{arith}
use Rattle.line.specs.Picture.{number_carried}
use Rattle.way_back.proofs.Backs.{has_told, line_told, none_told}
use Rattle.way_back.proofs.back.picture_line_of.Goals as goal

pub image_on-image-requires : goal.image_on-image-requires
image_on-image-requires c =
    let a = c.args in
    let h = has_told a.f a.link a.stream (sym c.has.ensures ∙ c.if-has.true) in
    record { le_link = h.link_from; link_bound = h.link_to; le_stream = h.stream_from; stream_bound = omega (arith, h.stream_to, h.pairs) }

pub returns-then-has : goal.returns-then-has
returns-then-has c =
    let a = c.args in
    let known = sym c.is_known.ensures ∙ c.if-is_known.true in
    let has = sym c.has.ensures ∙ c.if-has.true in
    let image = c.image_on-image.ensures in
    let on = sym c.picture_line_on.ensures ∙ ap number_carried c.in-Some.is in
    line_told a.f a.link a.stream a.l.0 known has image _ on

pub returns-in_default : goal.returns-in_default
returns-in_default c =
    let a = c.args in
    let known = sym c.is_known.ensures ∙ c.if-is_known.true in
    let has = sym c.has.ensures ∙ c.if-has.true in
    let image = c.image_on-image.ensures in
    let on = sym c.picture_line_on.ensures ∙ ap number_carried c.in_default.is in
    none_told a.f a.link a.stream a.l.0 known has image on
