-- `word::repair::repair_timing_word` meets its contract: below vh no legal word is near.
-- Assumes nothing.
use Prim.Native.Nat.{◌≤◌, ◌<◌}
use Rattle.ground.proofs.Searches.{Nowhere}
use Rattle.word.specs.Repair.{near}
use Rattle.word.proofs.repair.repair_timing_word.Given as goal

abbrev pub invariant-loop-vh : goal.invariant-loop-vh
invariant-loop-vh l = (l.w < 4096) × (l.vh ≤ 4) × Nowhere (near l.w) 0 l.vh
