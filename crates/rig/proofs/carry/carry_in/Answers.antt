-- `rig::carry::carry_in` meets its contract: each step's promise is one of those that the law of a piece asks for.
-- Assumes nothing.
use Rattle.rig.proofs.Outcomes.{heard_is, picture_is, after_is}
use Rattle.rig.proofs.carry.carry_in.Goals as goal

pub returns : goal.returns
returns c =
    let a = c.args in
    let from = c.stream_line-first.ensures in record {
      after = after_is a.piece a.d from c.send_piece-after.ensures.after;
      heard = heard_is a.k a.piece c.requires.piece_bound a.d from c.send_piece-after.ensures.symbols c.strike.ensures a.heard.now a.picture.now
          c.requires.heard_len c.requires.picture_len c.receive.ensures.heard;
      picture = picture_is a.k a.piece c.requires.piece_bound a.d from c.send_piece-after.ensures.symbols c.strike.ensures a.heard.now a.picture.now
          c.requires.heard_len c.requires.picture_len c.receive.ensures.picture;
    }
