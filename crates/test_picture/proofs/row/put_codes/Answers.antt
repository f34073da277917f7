-- `test_picture::row::put_codes` meets its contract: after x iterations the first x samples are there.
-- Assumes nothing.
use mathlib.Core.Path.{◌≡◌, ap, ◌∙◌}
use mathlib.Core.List.{List}
use Prim.Native.Nat.{ℕ, ◌/◌}
use native.Mathlib.Omega.{arith}
use borrow.Author.Rules.{rules}
use lib.ListN.{set, length-set}
use lib.Seq.{sets}
use Rattle.ground.specs.Written.{table}
use Rattle.test_picture.specs.TestPicture.{sample_by, row_in_steps}
use Rattle.test_picture.proofs.Rows.{none_put, one_put, all_put}
use Rattle.test_picture.proofs.row.put_codes.Goals as goal

pub loop-x-init : goal.loop-x-init
loop-x-init c =
    let a = c.args in
    (omega arith, search rules, none_put (sample_by a.step a.line.0) a.row.now)

pub loop-x-preserved : goal.loop-x-preserved
loop-x-preserved c =
    let a = c.args in
    let v = c.loop-x in
    let code = c.sample_at.result / a.step in (
      omega arith,
      simp length-set v.invariant.1,
      ap (λ (l : List ℕ). set l v.x code) v.invariant.2
          ∙ one_put (sample_by a.step a.line.0) a.row.now v.x code (ap (λ (n : ℕ). n / a.step) c.sample_at.ensures),
    )

pub returns : goal.returns
unfolding row_in_steps
returns c =
    let a = c.args in
    let v = c.loop-x in
    let end : v.x ≡ 3840 = omega arith in
    let f = sample_by a.step a.line.0 in
    v.invariant.2 ∙ ap (λ (n : ℕ). sets a.row.now 0 (table n f)) end ∙ all_put f a.row.now 3840 (search rules)
