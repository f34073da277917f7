-- `encoder::tables::put_alternates` meets its contract: three entries, one after the other.
-- Assumes nothing.
use native.Mathlib.Omega.{arith}
use Rattle.encoder.specs.Inside.Filling.{alternates_put}
use Rattle.encoder.proofs.Blocks.{alternate_below}
use Rattle.encoder.proofs.tables.put_alternates.Goals as goal

pub put_entry-requires : goal.put_entry-requires
put_entry-requires c =
    let b = alternate_below _ c.alternate_at-xs.ensures in
    record { x_bound = omega arith; at_in_bounds = omega arith }

pub put_entry-requires-2 : goal.put_entry-requires-2
put_entry-requires-2 c =
    let b = alternate_below _ c.alternate_at-xs.ensures in
    record { x_bound = omega arith; at_in_bounds = omega arith }

pub put_entry-requires-3 : goal.put_entry-requires-3
put_entry-requires-3 c =
    let b = alternate_below _ c.alternate_at-xs.ensures in
    record { x_bound = omega arith; at_in_bounds = omega arith }

pub returns : goal.returns
unfolding alternates_put
returns c =
    rw (
      c.put_entry-3.ensures,
      c.put_entry-2.ensures,
      c.put_entry.ensures,
      c.as_symbol-high.ensures,
      c.alternate.ensures,
      c.alternate_at-xs.ensures,
    )
