-- `list_spans::list::put_recording` meets its contract: what was read into the row are the recording's symbols.
-- Assumes nothing.
use mathlib.Core.Path.{◌≡◌, sym, ap, ◌∙◌}
use mathlib.Core.List.{List}
use Prim.Native.Nat.{ℕ, ◌≤◌}
use native.Mathlib.Omega.{arith}
use lib.ListN.{length}
use lib.Seq.{sets, length-take-le}
use Rattle.span.specs.declared.length.SpanLengths.{SpanLengths}
use Rattle.recording.specs.Recording.{delivery_from}
use Rattle.list_spans.specs.Listing.{lines_of}
use Rattle.list_spans.proofs.Listings.{read_length, enough_read, symbols_are, few_samples}
use Rattle.list_spans.proofs.list.put_recording.Goals as goal

pub slice_bounds-put_spans-end-3 : goal.slice_bounds-put_spans-end-3
slice_bounds-put_spans-end-3 c =
    omega (arith, few_samples c.args.f c.span_lengths-m.ensures, c.requires.rows_len)

pub slice_bounds-put_spans-end-4 : goal.slice_bounds-put_spans-end-4
slice_bounds-put_spans-end-4 c =
    let h : c.span_lengths-m.result.samples ≤ length c.args.rows.now = omega (arith, few_samples c.args.f c.span_lengths-m.ensures, c.requires.rows_len) in
    sym (length-take-le _ _ h)

pub put_spans-requires : goal.put_spans-requires
put_spans-requires c =
    let r = c.read_words-n in
    let h : r.result ≤ length r.new.words = enough_read c.args.bytes.now c.args.symbols.now r.result r.ensures.count r.ensures.read in
    let most : length r.new.words ≡ 32767 = read_length c.args.bytes.now c.args.symbols.now r.result r.ensures.read ∙ c.requires.symbols_len in
    let few : c.span_lengths-m.result.samples ≤ length c.args.rows.now = omega (arith, few_samples c.args.f c.span_lengths-m.ensures, c.requires.rows_len) in record { f_value = c.requires.f_value; symbols_len_bound = omega (arith, length-take-le r.result r.new.words h); rows_len = length-take-le _ _ few ∙ ap (λ (l : SpanLengths). l.samples) c.span_lengths-m.ensures; in_bounds = c.requires.in_bounds }

pub returns : goal.returns
returns c =
    let r = c.read_words-n in
    let is = symbols_are c.args.bytes.now c.args.symbols.now r.result c.requires.symbols_len r.ensures.count r.ensures.read in record { end = c.put_spans.ensures.end ∙ ap (λ (l : List ℕ). length (lines_of (delivery_from c.args.f l 0))) is; most = c.put_spans.ensures.most; written = c.put_spans.ensures.written ∙ ap (λ (l : List ℕ). sets c.args.out.now 0 (lines_of (delivery_from c.args.f l 0))) is }
