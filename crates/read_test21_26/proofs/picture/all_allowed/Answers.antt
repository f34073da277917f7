-- `crate::picture::all_allowed` meets its contract.
-- Assumes nothing.
use mathlib.Core.Path.{◌∙◌}
use Rattle.read_test21_26.proofs.Allowing.{allowed_else}
use Rattle.read_test21_26.proofs.picture.all_allowed.Goals as goal

pub returns : goal.returns
returns c =
    let a = c.args in
    c.each_allowed-2.ensures ∙ allowed_else a.depth a.rows.now c.if-depth-eq10.false
