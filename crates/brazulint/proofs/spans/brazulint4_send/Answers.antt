-- `brazulint::spans::brazulint4_send` meets its contract: the call, for the numbers given.
-- Assumes nothing.
use mathlib.Core.Path.{ap, ◌∙◌}
use lib.ListN.{length}
use Rattle.boundary.specs.Numbers.{content_from, disparity_from}
use Rattle.span_answers.specs.Spans.{send_answer_of}
use Rattle.brazulint.proofs.Asking.{same_answer, same_buffer}
use Rattle.brazulint.proofs.Clamped.{send_clamped, sent_clamped}
use Rattle.brazulint.proofs.spans.brazulint4_send.Goals as goal

pub returns : goal.returns
returns c =
    let a = c.args in
    let f = c.format_from-f.ensures in
    let l = c.stream_line_from-l.ensures in
    let d = c.disparity_from-d.ensures in
    let k = c.content_from-content.ensures in
    let content = content_from a.asked.named a.asked.content in
    let before = disparity_from a.asked.positive in
    let line = a.asked.line.number in record {
      answer = c.send_answer.ensures
          ∙ ap send_answer_of
          (c.send.ensures.answer
          ∙ same_answer a.samples.now d f l k (length a.symbols.now)
          ∙ send_clamped before content a.samples.now a.format line (length a.symbols.now));
      symbols = c.send.ensures.symbols
          ∙ same_buffer a.samples.now d f l k a.symbols.now
          ∙ sent_clamped before content a.samples.now a.format line a.symbols.now;
    }
