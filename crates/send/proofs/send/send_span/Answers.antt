-- `send::send::send_span` meets its contract: samples by the factor 1 are words as they are.
-- Assumes nothing.
-- no format has more samples
use Rattle.std.proofs.Common.{◌≡◌, ℕ, ◌≤◌, sym, refl, arith, length-take-le}
use Rattle.span.specs.declared.format.Format.{Format}
use Rattle.span.specs.Format.{shape_of, samples_in}
use Rattle.span.proofs.Formats.{small}
use Rattle.request.specs.Send.{request}
use Rattle.send.proofs.Scaling.{as_they_are, are_words}
use Rattle.send.proofs.Whole.{fits, span_put_lem}
use Rattle.send.proofs.send.send_span.Goals as goal

few : (f : Format) {n : ℕ} → n ≡ samples_in (shape_of f) → n ≤ 7680
few f e = omega (arith, e, (small f refl).half)

pub send_words-requires-clause-are_words : goal.send_words-requires-clause-are_words
send_words-requires-clause-are_words c =
    let a = c.args in
    let n = request a.l.0 a.content a.samples.now in
    let one : a.factor ≡ 1 = omega arith in
    let e = as_they_are a.samples.now one in
    are_words a.factor a.samples.now e (fits a.f n c.requires.accepted a.factor c.requires.factor_value)

pub returns-then-factor-eq1 : goal.returns-then-factor-eq1
returns-then-factor-eq1 c = let a = c.args in
    let n = request a.l.0 a.content a.samples.now in
    let one : a.factor ≡ 1 = omega arith in
    let e = as_they_are a.samples.now one in
    let told = span_put_lem a.f n c.requires.accepted a.factor c.requires.factor_value a.d a.out.now e c.requires.out_len (c.send_words.ensures.after, c.send_words.ensures.symbols) in record { after = told.0; symbols = told.1 }

pub slice_bounds-words-end : goal.slice_bounds-words-end
slice_bounds-words-end c =
    few c.args.f c.requires.accepted.samples

pub slice_bounds-send_scaled-end : goal.slice_bounds-send_scaled-end
slice_bounds-send_scaled-end c =
    sym (length-take-le _ _ (few c.args.f c.requires.accepted.samples))

pub send_scaled-requires-clause-words_len : goal.send_scaled-requires-clause-words_len
send_scaled-requires-clause-words_len c = length-take-le _ _ (few c.args.f c.requires.accepted.samples)
