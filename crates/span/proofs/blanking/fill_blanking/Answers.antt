-- `span::blanking::fill_blanking` meets its contract: the format and the length say which answer it is, and each sample is the blanking word.
-- Assumes nothing.
use mathlib.Core.Path.{◌≡◌, sym, ap, ◌∙◌}
use native.Mathlib.Omega.{arith}
use lib.ListN.{length, replicate}
use lib.Seq.{ext_get_or}
use Rattle.std.proofs.lemmas.Grind.{elements}
use Rattle.std.proofs.lemmas.List.{length-take, get_or_append_left, get_or-append_right, get_or-replicate}
use Rattle.ground.proofs.Answers.{when_given}
use Rattle.span.specs.declared.length.SpanLengths.{SpanLengths}
use Rattle.span.specs.Format.{shape_of, samples_in}
use Rattle.span.specs.Sample.{blank_word}
use Rattle.span.proofs.Blank.{fills, blank_row_lem}
use Rattle.span.proofs.blanking.fill_blanking.Goals as goal

samples : {l m : SpanLengths} → l ≡ m → l.samples ≡ m.samples
samples e = ap (λ (l : SpanLengths). l.samples) e

pub returns-then-is_known : goal.returns-then-is_known
returns-then-is_known c =
    let a = c.args in
    let known = sym c.is_known.ensures ∙ c.if-is_known.true in
    let long : length a.row.now ≡ samples_in (shape_of a.f) = omega (arith, samples c.span_lengths-lengths.ensures) in
    let good = fills a.f a.row.now known long in
    let word = c.blank_word.ensures in
    let after = c.fill.ensures.after (λ y e. e) in
    let filled =
    ext_get_or 0 _ (replicate (length a.row.now) (blank_word a.f)) (grind (arith, elements))
    (λ i h. grind (arith, length-take, get_or_append_left, get_or-append_right, get_or-replicate)) in
    record { answer = sym good; row = filled ∙ blank_row_lem a.f a.row.now long ∙ when_given _ _ good }
