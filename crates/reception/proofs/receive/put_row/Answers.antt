-- `reception::receive::put_row` meets its contract.
-- Assumes nothing.
use mathlib.Core.Path.{◌≡◌}
use native.Mathlib.Omega.{arith}
use lib.ListN.{length}
use Rattle.reception.proofs.Bringing.{row_put_lem}
use Rattle.reception.proofs.receive.put_row.Goals as goal

pub returns : goal.returns
returns c =
    let a = c.args in
    let long : length a.rows.now ≡ 7680 = omega arith in
    row_put_lem a.rows.now long a.t c.requires.t_bound a.picture.now a.at c.requires.at_in_bounds c.join.ensures.row
