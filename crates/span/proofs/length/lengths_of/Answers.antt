-- `span::length::lengths_of` meets its contract: the lengths of a known format.
-- Assumes nothing.
use mathlib.Core.Path.{sym, ap, ◌∙◌}
use Rattle.ground.specs.Answer.{given}
use Rattle.span.proofs.LengthCalls.{lengths_given, lengths_refused}
use Rattle.span.proofs.length.lengths_of.Goals as goal

pub returns-then-is_known : goal.returns-then-is_known
returns-then-is_known c =
    let known = sym c.is_known.ensures ∙ c.if-is_known.true in
    ap given c.span_lengths.ensures ∙ sym (lengths_given c.args.f known)

pub returns : goal.returns
returns c =
    let known = sym c.is_known.ensures ∙ c.if-is_known.false in
    sym (lengths_refused c.args.f known)
