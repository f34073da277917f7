-- `dividing::split::deal` meets its contract: after j iterations each image's row begins with its j samples.
-- Assumes nothing.
use mathlib.Core.Path.{◌≡◌, ap, ◌∙◌}
use mathlib.Core.List.{List}
use Prim.Native.Nat.{ℕ, ◌+◌, ◌*◌}
use native.Mathlib.Omega.{arith}
use lib.ListN.{get_or, set, length-set}
use lib.Seq.{sets}
use borrow.Author.Rules.{rules}
use Rattle.dividing.specs.Row.{divided}
use Rattle.dividing.proofs.Rows.{none_divided, one_divided, all_divided}
use Rattle.dividing.proofs.split.deal.Goals as goal

pub loop-j-init : goal.loop-j-init
loop-j-init c =
    let a = c.args in
    (omega arith, search rules, search rules, none_divided a.row.now 0 a.first.now, none_divided a.row.now 1 a.second.now)

pub loop-j-preserved : goal.loop-j-preserved
loop-j-preserved c =
    let a = c.args in
    let v = c.loop-j in
    let row = a.row.now in
    let e : 2 * v.j + 0 ≡ 2 * v.j = omega arith in (
      omega arith,
      simp length-set v.invariant.1,
      simp length-set v.invariant.2,
      ap (λ (l : List ℕ). set l v.j (get_or row (2 * v.j) 0)) v.invariant.3 ∙ rw e at (one_divided row 0 a.first.now v.j),
      ap (λ (l : List ℕ). set l v.j (get_or row (2 * v.j + 1) 0)) v.invariant.4 ∙ one_divided row 1 a.second.now v.j,
    )

pub returns : goal.returns
returns c =
    let a = c.args in
    let v = c.loop-j in
    let row = a.row.now in
    let end : v.j ≡ a.n = omega arith in record { first = v.invariant.3 ∙ ap (λ (n : ℕ). sets a.first.now 0 (divided 0 n row)) end ∙ all_divided row 0 a.first.now a.n (search rules); second = v.invariant.4 ∙ ap (λ (n : ℕ). sets a.second.now 0 (divided 1 n row)) end ∙ all_divided row 1 a.second.now a.n (search rules) }
