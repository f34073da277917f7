-- What shows that a part of a row that is given anew is a run of stores.
-- Assumes nothing.
use Rattle.std.proofs.lemmas.Grind.{common_steps}
use lib.Seq.{sets-eq}

pub ruleset stores = (common_steps, sets-eq)
