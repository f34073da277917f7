-- `read_test20::whole::fault_at` meets its contract.
-- Assumes nothing.
use Rattle.span.proofs.Formats.{small}
use Rattle.read_test20.proofs.whole.fault_at.Goals as goal

pub first_wrong-requires-clause-stream_pairs_bound : goal.first_wrong-requires-clause-stream_pairs_bound
first_wrong-requires-clause-stream_pairs_bound c = (small _ c.shape_of.ensures).half
