-- `span::fit::is_ready` meets its contract: the tests one after the other.
-- Assumes nothing.
use mathlib.Core.Path.{◌≡◌, sym, ap, ◌∙◌}
use native.Mathlib.Omega.{arith}
use lib.Dec.{eqb}
use Rattle.span.specs.declared.length.SpanLengths.{SpanLengths}
use Rattle.span.specs.Format.{shape_of, symbols_in}
use Rattle.span.proofs.Readiness.{ready_is, not_symbols, not_known}
use Rattle.span.proofs.fit.is_ready.Goals as goal

pub returns-then-symbols-lengths : goal.returns-then-symbols-lengths
returns-then-symbols-lengths c =
    let a = c.args in
    let known = sym c.is_known.ensures ∙ c.if-is_known.true in
    let e = c.span_lengths-lengths.ensures in
    let q : a.symbols ≡ symbols_in (shape_of a.f) = omega (arith, ap (λ (l : SpanLengths). l.symbols) e, c.if-symbols-lengths.true) in
    ap (λ (l : SpanLengths). eqb a.rows l.samples) e ∙ sym (ready_is a.f a.symbols a.rows known q)

pub returns-else-symbols-lengths : goal.returns-else-symbols-lengths
returns-else-symbols-lengths c =
    let a = c.args in
    let known = sym c.is_known.ensures ∙ c.if-is_known.true in
    let e = c.span_lengths-lengths.ensures in
    sym (not_symbols a.f a.symbols a.rows known (λ q. omega (arith, ap (λ (l : SpanLengths). l.symbols) e, c.if-symbols-lengths.false)))

pub returns-else-is_known : goal.returns-else-is_known
returns-else-is_known c =
    let a = c.args in
    sym (not_known a.f a.symbols a.rows (sym c.is_known.ensures ∙ c.if-is_known.false))
