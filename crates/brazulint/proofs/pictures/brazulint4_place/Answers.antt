-- `brazulint::pictures::brazulint4_place` meets its contract: the call, for the numbers given.
-- Assumes nothing.
use mathlib.Core.Path.{ap, ap₂, ◌∙◌}
use Rattle.picture.specs.Place.{placed_of}
use Rattle.picture_answers.specs.Pictures.{place_answer_of}
use Rattle.brazulint.proofs.Clamped.{placed_clamped}
use Rattle.brazulint.proofs.pictures.brazulint4_place.Goals as goal

pub returns : goal.returns
returns c =
    let a = c.args in
    let l = c.picture_line_from-l.ensures in
    let j = c.at_most_65535-j.ensures in
    c.place_answer.ensures
    ∙ ap place_answer_of (c.place_of.ensures ∙ ap₂ placed_of l j ∙ placed_clamped a.line.number a.sample)
