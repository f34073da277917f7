-- `rig::transmit::send_line` meets its contract: the call is a good one, so it is answered.
-- Assumes nothing.
use mathlib.Core.Path.{◌∙◌}
use Rattle.rig.proofs.Lines.{asked_is, after_is, symbols_are}
use Rattle.rig.proofs.transmit.send_line.Goals as goal

pub returns : goal.returns
returns c =
    let a = c.args in
    let is = asked_is a.l.0 c.requires.le_l c.requires.l_bound a.words.now c.link-f.ensures c.requires.words_len c.put_samples.ensures.samples in
    record {
      after = c.unwrap_or.ensures
          ∙ after_is a.l.0 c.requires.le_l c.requires.l_bound a.d a.symbols.now c.link-f.ensures is c.requires.symbols_len c.send.result c.send.ensures.answer;
      symbols = symbols_are a.l.0 c.requires.le_l c.requires.l_bound a.d a.symbols.now c.link-f.ensures is c.requires.symbols_len c.send.ensures.symbols;
    }
