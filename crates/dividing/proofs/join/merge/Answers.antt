-- `dividing::join::merge` meets its contract: after j iterations the row begins with the samples of j pairs.
-- Assumes nothing.
use mathlib.Core.Path.{◌≡◌, ap, ◌∙◌}
use mathlib.Core.List.{List}
use Prim.Native.Nat.{ℕ, ◌+◌, ◌*◌}
use native.Mathlib.Omega.{arith}
use lib.ListN.{get_or, set, length-set}
use lib.Seq.{sets}
use borrow.Author.Rules.{rules}
use Rattle.dividing.specs.Row.{joined}
use Rattle.dividing.proofs.Rows.{none_joined, pair_joined, all_joined}
use Rattle.dividing.proofs.join.merge.Goals as goal

pub loop-j-init : goal.loop-j-init
loop-j-init c =
    let a = c.args in
    (omega arith, search rules, none_joined a.first.now a.second.now a.row.now)

pub loop-j-preserved : goal.loop-j-preserved
loop-j-preserved c =
    let a = c.args in
    let v = c.loop-j in
    let first = a.first.now in
    let second = a.second.now in (
      omega arith,
      simp length-set v.invariant.1,
      ap (λ (l : List ℕ). set (set l (2 * v.j) (get_or first v.j 0)) (2 * v.j + 1) (get_or second v.j 0)) v.invariant.2
          ∙ pair_joined first second a.row.now v.j,
    )

pub returns : goal.returns
returns c =
    let a = c.args in
    let v = c.loop-j in
    let first = a.first.now in
    let second = a.second.now in
    let end : v.j ≡ a.n = omega arith in
    v.invariant.2
    ∙ ap (λ (n : ℕ). sets a.row.now 0 (joined n first second)) end
    ∙ all_joined first second a.row.now a.n (search rules)
