-- `read::read::read` meets its contract.
-- Assumes nothing.
use mathlib.Core.Path.{◌≡◌, sym, ap, ◌∙◌}
use native.Mathlib.Omega.{arith}
use lib.ListN.{length}
use Rattle.span.specs.declared.length.SpanLengths.{SpanLengths}
use Rattle.span.specs.Format.{shape_of, samples_in, symbols_in}
use Rattle.window.proofs.Windows.{read_is}
use Rattle.read.proofs.Windows.{rows_read_lem}
use Rattle.window.specs.Inside.Window.{IsWindow}
use Rattle.read.proofs.read.read.Goals as goal

pub returns : goal.returns
returns c =
    let a = c.args in
    let w = a.symbols.now in
    let lengths = c.span_lengths-lengths.ensures in
    let known = sym c.is_known.ensures ∙ c.if-not-is_known.false in
    let n = ap (λ (l : SpanLengths). l.symbols) lengths in
    let long : length w ≡ symbols_in (shape_of a.f) = omega (arith, n, c.if-symbols-lengths.false) in
    let is : IsWindow a.f w = record { known = known; long = long } in
    let m = ap (λ (l : SpanLengths). l.samples) lengths in
    let room : length a.rows.now ≡ samples_in (shape_of a.f) = omega (arith, m, c.if-rows-lengths.false) in
    record { answer = c.read_window.ensures.answer ∙ sym (read_is a.f w is (length a.rows.now) room); rows = c.read_window.ensures.rows ∙ rows_read_lem a.f w is a.rows.now room }
