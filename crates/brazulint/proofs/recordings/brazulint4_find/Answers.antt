-- `brazulint::recordings::brazulint4_find` meets its contract: the call, for the numbers given.
-- Assumes nothing.
use mathlib.Core.Path.{ap, ◌∙◌}
use Rattle.span.specs.declared.format.Format.{Format}
use Rattle.recording.specs.Call.{find_of}
use Rattle.recording_answers.specs.Recordings.{find_answer_of}
use Rattle.brazulint.proofs.Clamped.{find_clamped}
use Rattle.brazulint.proofs.recordings.brazulint4_find.Goals as goal

pub returns : goal.returns
returns c =
    let a = c.args in
    let f = c.format_from-f.ensures in
    c.find_answer.ensures
    ∙ ap find_answer_of
    (c.find.ensures
    ∙ ap (λ (g : Format). find_of g a.symbols.now a.start) f
    ∙ find_clamped a.format a.symbols.now a.start)
