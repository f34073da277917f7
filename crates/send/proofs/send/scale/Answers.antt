-- `send::send::scale` meets its contract: after i iterations the first i words stand in their places.
-- Assumes nothing.
use Rattle.std.proofs.Common.{◌≡◌, length, ap, ◌∙◌, arith}
use Rattle.send.proofs.Scaling.{words_upto, no_words, one_word, all_words_lem}
use Rattle.send.proofs.send.scale.Goals as goal

pub loop-i-init : goal.loop-i-init
loop-i-init c = no_words c.args.factor c.args.samples.now c.args.words.now

pub loop-i-preserved : goal.loop-i-preserved
loop-i-preserved c =
    let a = c.args in
    one_word a.factor a.samples.now a.words.now c.loop-i.i c.loop-i.invariant (omega arith)

pub returns : goal.returns
returns c =
    let a = c.args in
    let v = c.loop-i in
    let past : v.i ≡ length a.samples.now = omega arith in
    v.invariant ∙ ap (words_upto a.factor a.samples.now a.words.now) past ∙ all_words_lem a.factor a.samples.now a.words.now c.requires.words_len
