-- `span::format::shape_of` meets its contract: the rows of the table.
-- Assumes nothing.
use mathlib.Core.Path.{sym, ap}
use native.Mathlib.Omega.{arith}
use Rattle.span.specs.Format.{numbered, shape_of}
use Rattle.span.proofs.Formats.{no_row}
use Rattle.span.proofs.format.shape_of.Goals as goal

pub returns-then-f-eq1 : goal.returns-then-f-eq1
unfolding shape_of
returns-then-f-eq1 c = sym (ap numbered c.if-f-eq1.true)

pub returns-then-f-eq2 : goal.returns-then-f-eq2
unfolding shape_of
returns-then-f-eq2 c = sym (ap numbered c.if-f-eq2.true)

pub returns-then-f-eq3 : goal.returns-then-f-eq3
unfolding shape_of
returns-then-f-eq3 c = sym (ap numbered c.if-f-eq3.true)

pub returns : goal.returns
unfolding shape_of
returns c =
    sym (no_row c.args.f.number (λ e. omega arith) (λ e. omega arith) (λ e. omega arith))
