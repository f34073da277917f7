-- `span::length::span_lengths` meets its contract: the sums of the shape, none of which is large.
-- Assumes nothing.
-- the sums as the code makes them, and as the definitions do
use mathlib.Core.Path.{◌≡◌, ap, ◌∙◌}
use Prim.Native.Nat.{ℕ, ◌+◌, ◌*◌}
use native.Mathlib.Omega.{arith}
use Rattle.span.specs.declared.format.Shape.{Shape}
use Rattle.span.specs.declared.length.SpanLengths.{SpanLengths}
use Rattle.span.specs.Format.{samples_in, symbols_in}
use Rattle.span.specs.Layout.{ancillary_start}
use Rattle.span.proofs.Formats.{small, few_pairs}
use Rattle.span.proofs.length.span_lengths.Goals as goal

lengths_are : {p q : Shape} → p ≡ q → ◌≡◌ {A = SpanLengths} (record { samples = 3840 * p.stream_pairs; symbols = 3 * (p.stream_pairs * (ancillary_start + p.ancillary) + p.fill_pairs) }) (record { samples = samples_in q; symbols = symbols_in q })
lengths_are {p} {q} e =
    let samples : 3840 * p.stream_pairs ≡ samples_in p = omega arith in
    ap (λ (n : ℕ). record { samples = n; symbols = symbols_in p }) samples ∙ ap (λ (x : Shape). record { samples = samples_in x; symbols = symbols_in x }) e

pub overflow_mul-result : goal.overflow_mul-result
overflow_mul-result c = omega (arith, (small c.args.f c.shape_of-p.ensures).half)

pub overflow_add-result : goal.overflow_add-result
overflow_add-result c = omega (arith, (small c.args.f c.shape_of-p.ensures).ancillary)

pub overflow_mul-result-2 : goal.overflow_mul-result-2
overflow_mul-result-2 c = omega (arith, few_pairs (small c.args.f c.shape_of-p.ensures))

pub overflow_add-result-2 : goal.overflow_add-result-2
overflow_add-result-2 c =
    let s = small c.args.f c.shape_of-p.ensures in omega (arith, few_pairs s, s.fill)

pub overflow_mul-result-3 : goal.overflow_mul-result-3
overflow_mul-result-3 c =
    let s = small c.args.f c.shape_of-p.ensures in omega (arith, few_pairs s, s.fill)
