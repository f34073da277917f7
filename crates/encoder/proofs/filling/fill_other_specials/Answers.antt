-- `encoder::filling::fill_other_specials` meets its contract: four entries, one after the other.
-- Assumes nothing.
use Rattle.encoder.specs.Inside.Filling.{other_specials_put}
use Rattle.encoder.proofs.filling.fill_other_specials.Goals as goal

pub returns : goal.returns
unfolding other_specials_put
returns c =
    rw (
      c.put_entry-4.ensures,
      c.put_entry-3.ensures,
      c.put_entry-2.ensures,
      c.put_entry.ensures,
    )
