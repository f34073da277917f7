-- `encoder::tables::symbol_table` meets its contract: what it is filled with is what it has to hold.
-- Assumes nothing.
use Rattle.encoder.proofs.Filled.{symbols_filled}
use Rattle.encoder.proofs.tables.symbol_table.Goals as goal

pub returns : goal.returns
returns c =
    rw (
      c.put_symbols-2.ensures,
      c.put_symbols.ensures,
      c.high_bits-special_p.ensures,
      c.four_bits_special-2.ensures,
      c.high_bits-special_n.ensures,
      c.four_bits_special.ensures,
      c.high_bits-four_p.ensures,
      c.four_bits-2.ensures,
      c.high_bits-four_n.ensures,
      c.four_bits.ensures,
      c.low_bits-low_p.ensures,
      c.six_bits-3.ensures,
      c.low_bits-low_n.ensures,
      c.six_bits-2.ensures,
      c.six_masks-masks.ensures,
      c.six_bits.ensures,
    ) symbols_filled
