-- `read_test20::see::see_run` meets its contract: the symbols before i have been seen.
-- Assumes nothing.
use Rattle.read_test20.proofs.Seeing.{seen_step}
use Rattle.read_test20.proofs.see.see_run.Goals as goal

pub loop-i-preserved : goal.loop-i-preserved
loop-i-preserved c = seen_step c.args.symbols.now c.loop-i.invariant c.see-x.ensures
