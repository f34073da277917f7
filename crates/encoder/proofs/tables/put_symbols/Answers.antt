-- `encoder::tables::put_symbols` meets its contract: all characters, and then those with the alternate form.
-- Assumes nothing.
use Rattle.encoder.specs.Inside.Filling.{symbols_put}
use Rattle.encoder.proofs.tables.put_symbols.Goals as goal

pub returns : goal.returns
unfolding symbols_put
returns c =
    rw (
      c.put_alternates.ensures,
      c.fill_characters.ensures,
      c.as_symbol-k28.ensures,
      c.six_bits_k28.ensures,
    )
