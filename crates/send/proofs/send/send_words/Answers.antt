-- `send::send::send_words` meets its contract: the parts that are put, by what the calls before them answer.
-- Assumes nothing.
use Rattle.std.proofs.Common.{sym, ap, ◌∙◌}
use Rattle.encoder.specs.Inside.Tables.{offset_of, of_offset}
use Rattle.encoder.proofs.Entries.{offset_again}
use Rattle.span.proofs.Formats.{small}
use Rattle.send.proofs.Runs.{keeps_too, blank_stays}
use Rattle.send.proofs.Whole.{streams_there}
use Rattle.send.proofs.send.send_words.Goals as goal

pub put_span-after-requires-clause-bound : goal.put_span-after-requires-clause-bound
put_span-after-requires-clause-bound c = streams_there c.args.f c.shape_of-p.ensures c.requires.f_value

pub put_span-after-requires-clause-small : goal.put_span-after-requires-clause-small
put_span-after-requires-clause-small c = small c.args.f c.shape_of-p.ensures

pub put_span-after-requires-clause-keeps_disparity : goal.put_span-after-requires-clause-keeps_disparity
put_span-after-requires-clause-keeps_disparity c = keeps_too c.blank_word-blank.ensures (blank_stays c.args.f)

pub put_span-after-requires-clause-d_value : goal.put_span-after-requires-clause-d_value
put_span-after-requires-clause-d_value c =
    let o = c.offset_of-before.ensures in o ∙ ap offset_of (sym (ap of_offset o ∙ offset_again c.args.d))
