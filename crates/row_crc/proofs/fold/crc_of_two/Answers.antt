-- `row_crc::fold::crc_of_two` meets its contract.
-- Assumes nothing.
use Rattle.row_crc.proofs.Folding.{empty_room}
use Rattle.row_crc.proofs.fold.crc_of_two.Goals as goal

pub fold-requires-clause-empty : goal.fold-requires-clause-empty
fold-requires-clause-empty c = empty_room

pub fold-requires-2-clause-empty : goal.fold-requires-2-clause-empty
fold-requires-2-clause-empty c = empty_room
