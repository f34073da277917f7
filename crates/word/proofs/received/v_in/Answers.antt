-- `crate::received::v_in` meets its contract.
-- Assumes nothing.
use Prim.Native.Nat.{◌%◌}
use Rattle.word.proofs.Near.{v_told}
use Rattle.word.proofs.received.v_in.Goals as goal

pub returns : goal.returns
returns c = v_told (c.args.w % 4096) _ c.nearest_vh.ensures c.unwrap_or.ensures
