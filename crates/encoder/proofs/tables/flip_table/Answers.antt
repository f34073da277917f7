-- `encoder::tables::flip_table` meets its contract: what it is filled with is what it has to hold.
-- Assumes nothing.
use Rattle.encoder.proofs.Filled.{flips_filled}
use Rattle.encoder.proofs.tables.flip_table.Goals as goal

pub returns : goal.returns
returns c =
    rw (
      c.fill_characters.ensures,
      c.four_flips-special.ensures,
      c.four_bits_special.ensures,
      c.four_flips-other.ensures,
      c.four_bits-2.ensures,
      c.four_flips-same.ensures,
      c.four_bits.ensures,
      c.six_masks-masks.ensures,
      c.six_bits.ensures,
    ) flips_filled
