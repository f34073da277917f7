-- `list_repairs::listing::put_listing` meets its contract: after i iterations the first i lines are there.
-- Assumes nothing.
use mathlib.Core.Path.{◌≡◌, sym, ◌∙◌}
use Prim.Native.Nat.{◌≤◌}
use native.Mathlib.Nat.{zero-add}
use native.Mathlib.Omega.{arith}
use lib.ListN.{length}
use lib.Seq.{length-take-le}
use borrow.Author.Rules.{rules}
use Rattle.ground.proofs.Putting.{put_length}
use Rattle.list_repairs.specs.Text.{word_count}
use Rattle.list_repairs.proofs.Lines.{none_listed, one_more, listed_most}
use Rattle.list_repairs.proofs.listing.put_listing.Goals as goal

pub loop-i-init : goal.loop-i-init
loop-i-init c =
    let a = c.args in
    (omega (arith, c.min-count.ensures), search rules, omega arith, none_listed a.input.now a.out.now)

pub put_line-at-requires : goal.put_line-at-requires
put_line-at-requires c =
    let v = c.loop-i in
    let a = c.args in
    let most = listed_most a.input.now v.i (omega (arith, v.invariant.0)) in
    omega (arith, v.invariant.0, v.invariant.1, v.invariant.3.ends, put_length v.invariant.3)

pub loop-i-preserved : goal.loop-i-preserved
loop-i-preserved c =
    let v = c.loop-i in
    let a = c.args in
    let w = c.word_of-w.ensures in
    (v.invariant.0, v.invariant.1, omega arith, one_more a.input.now v.i v.invariant.3 c.put_line-at.ensures.end c.put_line-at.ensures.written (omega arith) w)

pub returns : goal.returns
returns c =
    let v = c.loop-i in
    let a = c.args in
    let e : v.i ≡ word_count (length a.input.now) = omega (arith, v.invariant.0) in
    let most = listed_most a.input.now v.i (omega arith) in
    let l : v.at ≤ length v.out = omega (arith, v.invariant.1, v.invariant.3.ends, put_length v.invariant.3) in
    let p = rw e at v.invariant.3 in
    record { counts = (l, sym (length-take-le v.at v.out l)); end = p.ends ∙ zero-add _; written = p.written }
