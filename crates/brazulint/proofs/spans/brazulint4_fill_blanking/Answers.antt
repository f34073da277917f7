-- `brazulint::spans::brazulint4_fill_blanking` meets its contract: the call, for the numbers given.
-- Assumes nothing.
use mathlib.Core.Path.{ap, ◌∙◌}
use Rattle.span.specs.declared.format.Format.{Format}
use Rattle.span.specs.Blanking.{fill_of, filled_row}
use Rattle.boundary.specs.Numbers.{number_in}
use Rattle.brazulint.proofs.Clamped.{fill_clamped, filled_clamped}
use Rattle.brazulint.proofs.spans.brazulint4_fill_blanking.Goals as goal

pub returns : goal.returns
returns c =
    let a = c.args in
    let f = c.format_from.ensures in
    record {
      answer = c.filled_number.ensures
          ∙ ap number_in (c.fill_blanking.ensures.answer ∙ ap (λ (g : Format). fill_of g a.row.now) f ∙ fill_clamped a.format a.row.now);
      row = c.fill_blanking.ensures.row ∙ ap (λ (g : Format). filled_row g a.row.now) f ∙ filled_clamped a.format a.row.now;
    }
