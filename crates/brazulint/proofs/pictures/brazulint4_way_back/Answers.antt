-- `brazulint::pictures::brazulint4_way_back` meets its contract: the call, for the numbers given.
-- Assumes nothing.
use mathlib.Core.Path.{ap, ◌∙◌}
use Rattle.picture_answers.specs.Pictures.{way_back_answer_of}
use Rattle.brazulint.proofs.Clamped.{back_asked}
use Rattle.brazulint.proofs.pictures.brazulint4_way_back.Goals as goal

pub returns : goal.returns
returns c =
    let a = c.args in
    let f = c.format_from-f.ensures in
    let k = c.at_most_65535-k.ensures in
    let t = c.at_most_65535-t.ensures in
    let l = c.stream_line_from-l.ensures in
    c.way_back_answer.ensures
    ∙ ap way_back_answer_of
    (c.picture_line_of.ensures ∙ back_asked a.format a.link a.stream a.line.number f k t l)
