-- `crate::picture::each_allowed` meets its contract: nothing found and the rest allowed is all allowed.
-- Assumes nothing.
use mathlib.Core.Path.{sym, ap, ◌∙◌}
use Prim.Native.Nat.{ℕ, ◌≤◌, ◌<◌}
use native.Mathlib.Omega.{arith}
use lib.ListN.{length, length-take}
use Rattle.std.proofs.lemmas.Grind.{common_steps}
use Rattle.packing.specs.Sample.{allowed_word}
use Rattle.read_test21_26.proofs.Allowing.{look_step, look_done}
use Rattle.read_test21_26.proofs.picture.each_allowed.Goals as goal

pub loop-w-preserved : goal.loop-w-preserved
loop-w-preserved c =
    let a = c.args in
    let v = c.loop-w in
    let h : v.w-index < length a.rows.now = omega (arith, length-take {A = ℕ}) in
    look_step a.depth v.all a.rows.now v.w-index h (c.allowed_word-all.ensures ∙ ap (allowed_word a.depth) (grind (arith, common_steps))) ∙ v.invariant

pub returns : goal.returns
returns c =
    let a = c.args in
    let v = c.loop-w in
    let h : length a.rows.now ≤ v.w-index = omega (arith, length-take {A = ℕ}) in
    sym (look_done a.depth v.all a.rows.now v.w-index h) ∙ v.invariant
