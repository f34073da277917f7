-- `decoder::table::decoding_table` meets its contract: antt computes the test of the whole table.
-- Assumes nothing.
use mathlib.Core.Path.{refl}
use Rattle.symbol.specs.Code.{symbol_of, after_of}
use Rattle.symbol.specs.Inside.Code.{flips}
use Rattle.decoder.proofs.Entries.{at_both, tested_entries}
use Rattle.decoder.proofs.table.decoding_table.Goals as goal

pub returns : goal.returns
unfolding symbol_of after_of flips
returns c =
    tested_entries _
    (record {
      long = refl;
      written = refl;
      so = at_both _ refl refl;
      given = at_both _ refl refl;
    })
