-- `read::read::judge` meets its contract.
-- Assumes nothing.
use mathlib.Core.Path.{◌≡◌, refl, sym, ap, ◌∙◌}
use Prim.Native.Nat.{◌≤◌}
use native.Mathlib.Omega.{arith}
use lib.ListN.{length}
use lib.Seq.{length-take-le}
use Rattle.span.specs.declared.length.SpanLengths.{SpanLengths}
use Rattle.span.specs.Format.{shape_of, symbols_in}
use Rattle.span.proofs.Formats.{small}
use Rattle.window.proofs.Windows.{judge_is}
use Rattle.window.specs.Inside.Window.{IsWindow}
use Rattle.read.proofs.read.judge.Goals as goal

pub slice_bounds-rows-end : goal.slice_bounds-rows-end
slice_bounds-rows-end c = omega (arith, ap (λ (l : SpanLengths). l.samples) c.span_lengths-lengths.ensures, (small c.args.f refl).half)

pub slice_bounds-read_window-end : goal.slice_bounds-read_window-end
slice_bounds-read_window-end c =
    let m = ap (λ (l : SpanLengths). l.samples) c.span_lengths-lengths.ensures in
    let few : c.span_lengths-lengths.result.samples ≤ 7680 = omega (arith, m, (small c.args.f refl).half) in
    sym (length-take-le _ _ few)

pub read_window-requires-clause-rows_len : goal.read_window-requires-clause-rows_len
read_window-requires-clause-rows_len c =
    let m = ap (λ (l : SpanLengths). l.samples) c.span_lengths-lengths.ensures in
    let few : c.span_lengths-lengths.result.samples ≤ 7680 = omega (arith, m, (small c.args.f refl).half) in
    length-take-le _ _ few ∙ m

pub returns : goal.returns
returns c =
    let a = c.args in
    let w = a.symbols.now in
    let lengths = c.span_lengths-lengths.ensures in
    let known = sym c.is_known.ensures ∙ c.if-not-is_known.false in
    let n = ap (λ (l : SpanLengths). l.symbols) lengths in
    let long : length w ≡ symbols_in (shape_of a.f) = omega (arith, n, c.if-symbols-lengths.false) in
    let is : IsWindow a.f w = record { known = known; long = long } in
    c.read_window.ensures.answer ∙ sym (judge_is a.f w is)
