-- `crcc::crcc::crcc_of` meets its contract: what is left, from the register so far, is the whole from 0.
-- Assumes nothing.
use mathlib.Core.Path.{◌≡◌}
use lib.ListN.{drop}
use Rattle.crcc.specs.Crcc.{crcc_from}
use Rattle.crcc.proofs.crcc.crcc_of.Given as goal

abbrev pub invariant-loop-w : goal.invariant-loop-w
invariant-loop-w l = crcc_from l.c (drop l.w-index l.words) ≡ crcc_from 0 l.words
