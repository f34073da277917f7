-- `send::send::send_scaled` meets its contract: the words are the samples by the factor.
-- Assumes nothing.
use Rattle.request.specs.Send.{request}
use Rattle.send.proofs.Scaling.{are_words}
use Rattle.send.proofs.Whole.{fits, span_put_lem}
use Rattle.send.proofs.send.send_scaled.Goals as goal

pub scale-requires-clause-fits : goal.scale-requires-clause-fits
scale-requires-clause-fits c =
    let a = c.args in
    let n = request a.l.0 a.content a.samples.now in
    fits a.f n c.requires.accepted a.factor c.requires.factor_value

pub send_words-requires-clause-are_words : goal.send_words-requires-clause-are_words
send_words-requires-clause-are_words c =
    let a = c.args in
    let n = request a.l.0 a.content a.samples.now in
    let e = c.scale.ensures in
    are_words a.factor a.samples.now e (fits a.f n c.requires.accepted a.factor c.requires.factor_value)

pub returns : goal.returns
returns c = let a = c.args in
    let n = request a.l.0 a.content a.samples.now in
    let told = span_put_lem a.f n c.requires.accepted a.factor c.requires.factor_value a.d a.out.now c.scale.ensures c.requires.out_len (c.send_words.ensures.after, c.send_words.ensures.symbols) in record { after = told.0; symbols = told.1 }
