-- `read_test20::see::see` meets its contract: the table's entry is the symbol's.
-- Assumes nothing.
use Rattle.read_test20.proofs.Seeing.{entry_is}
use Rattle.read_test20.proofs.see.see.Goals as goal

pub returns : goal.returns
returns c = rw (entry_is c.args.s c.requires.t_value c.requires.s_bound)
