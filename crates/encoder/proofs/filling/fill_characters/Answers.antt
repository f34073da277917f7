-- `encoder::filling::fill_characters` meets its contract: the bytes, K28.0 to K28.7, and the other four.
-- Assumes nothing.
use Rattle.encoder.specs.Inside.Filling.{characters_put}
use Rattle.encoder.proofs.filling.fill_characters.Goals as goal

pub returns : goal.returns
unfolding characters_put
returns c =
    rw (
      c.fill_other_specials.ensures,
      c.fill_k28s.ensures,
      c.fill_bytes.ensures,
    )
