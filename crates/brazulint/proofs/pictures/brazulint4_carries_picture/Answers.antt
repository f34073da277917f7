-- `brazulint::pictures::brazulint4_carries_picture` meets its contract: the call, for the number given.
-- Assumes nothing.
use mathlib.Core.Path.{ap, ◌∙◌}
use Rattle.line.specs.Stream.{is_active}
use Rattle.brazulint.proofs.Clamped.{row_clamped}
use Rattle.brazulint.proofs.pictures.brazulint4_carries_picture.Goals as goal

pub returns : goal.returns
returns c =
    c.is_active.ensures ∙ ap is_active c.stream_line_from.ensures ∙ row_clamped c.args.line.number
