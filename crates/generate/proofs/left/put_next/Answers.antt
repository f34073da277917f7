-- `generate::left::put_next` meets its contract: the library's calls put the samples and the symbols, and each line follows the one before it.
-- Assumes nothing.
use mathlib.Core.Path.{refl, ap, ◌∙◌}
use native.Mathlib.Omega.{arith}
use Rattle.generate.specs.Generated.{low_first}
use Rattle.generate.specs.Inside.Pieces.{span_bytes}
use Rattle.generate.proofs.Lefts.{left_is}
use Rattle.generate.proofs.Sendings.{are_symbols, is_after}
use Rattle.generate.proofs.left.put_next.Goals as goal

pub returns : goal.returns
unfolding span_bytes
returns c =
    let s = c.args.s in
    let ready = c.requires.ready in
    let some = c.requires.count_nonzero in
    let long = c.requires.samples_len in
    let room = c.requires.symbols_len in
    let known = ready.known some in
    let line = ready.line some in
    let put = c.put_samples.ensures.samples in
    let symbols =
    are_symbols s.disparity s.format s.line.0 known line c.args.samples.now long put c.args.symbols.now room c.send.ensures.symbols in
    let after =
    is_after s.disparity s.format s.line.0 known line c.args.samples.now long put c.args.symbols.now room c.send.result c.send.ensures.answer in
    record { next = left_is refl (omega (arith, c.line_after-after.ensures)) refl (c.unwrap_or-disparity.ensures ∙ after); bytes = c.put_bytes.ensures ∙ ap low_first symbols }
