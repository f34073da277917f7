-- `generate::write::write_left` is safe and ends: no span has more samples, symbols and bytes than the arrays.
-- Assumes nothing.
use mathlib.Core.Path.{◌≡◌, sym, ◌∙◌}
use Prim.Native.Nat.{◌*◌, ◌≤◌}
use native.Mathlib.Omega.{arith}
use lib.Seq.{length-take-le}
use Rattle.span.specs.Format.{shape_of, symbols_in}
use Rattle.generate.proofs.Sizes.{samples_are, symbols_are, few_samples, few_symbols}
use Rattle.generate.proofs.write.write_left.Goals as goal

pub overflow_mul-k : goal.overflow_mul-k
overflow_mul-k g c = omega (arith, few_symbols _ c.span_lengths-lengths.ensures)

pub slice_bounds-samples-end : goal.slice_bounds-samples-end
slice_bounds-samples-end g c = few_samples _ c.span_lengths-lengths.ensures

pub slice_bounds-write_pieces-end : goal.slice_bounds-write_pieces-end
slice_bounds-write_pieces-end g c = sym (length-take-le _ _ (few_samples _ c.span_lengths-lengths.ensures))

pub slice_bounds-symbols-end : goal.slice_bounds-symbols-end
slice_bounds-symbols-end g c = few_symbols _ c.span_lengths-lengths.ensures

pub slice_bounds-write_pieces-end-2 : goal.slice_bounds-write_pieces-end-2
slice_bounds-write_pieces-end-2 g c = sym (length-take-le _ _ (few_symbols _ c.span_lengths-lengths.ensures))

pub slice_bounds-out-end : goal.slice_bounds-out-end
slice_bounds-out-end g c = omega (arith, few_symbols _ c.span_lengths-lengths.ensures)

pub slice_bounds-write_pieces-end-3 : goal.slice_bounds-write_pieces-end-3
slice_bounds-write_pieces-end-3 g c =
    let few = few_symbols _ c.span_lengths-lengths.ensures in
    sym (length-take-le _ _ (omega (arith, few)))

pub write_pieces-requires : goal.write_pieces-requires
write_pieces-requires g c =
    let l = c.span_lengths-lengths.ensures in
    let n = c.span_lengths-lengths.result.symbols in
    let few : n ≤ 19008 = few_symbols _ l in
    let fit : 2 * n ≤ 38016 = omega arith in
    let many : 2 * n ≡ 2 * symbols_in (shape_of c.args.left.format) = omega (arith, symbols_are _ l) in record { ready = c.requires; samples_len = length-take-le _ _ (few_samples _ l) ∙ samples_are _ l; symbols_len = length-take-le n _ few ∙ symbols_are _ l; out_len = length-take-le (2 * n) _ fit ∙ many }
