-- `crate::picture::each_allowed` meets its contract: nothing found and the rest allowed is all allowed.
-- Assumes nothing.
use mathlib.Core.Path.{◌≡◌}
use mathlib.Core.Bool.{◌&&◌}
use lib.ListN.{drop}
use Rattle.read_test21_26.specs.Inside.Picture.{all_allowed}
use Rattle.read_test21_26.proofs.picture.each_allowed.Given as goal

abbrev pub invariant-loop-w : goal.invariant-loop-w
invariant-loop-w l = (l.all && all_allowed l.depth (drop l.w-index l.rows)) ≡ all_allowed l.depth l.rows
