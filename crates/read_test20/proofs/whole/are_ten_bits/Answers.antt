-- `read_test20::whole::are_ten_bits` meets its contract: no symbol before i is larger than all of them together.
-- Assumes nothing.
use Prim.Native.Nat.{◌≤◌}
use native.Mathlib.Omega.{arith}
use lib.Bits.{bit_or, or_lt}
use lib.ListN.{get_or}
use borrow.Author.Count.{below_more}
use borrow.Author.Rules.{rules}
use Rattle.read_test20.proofs.Seeing.{or_left_most, or_right_most}
use Rattle.read_test20.proofs.whole.are_ten_bits.Goals as goal

pub loop-s-preserved : goal.loop-s-preserved
loop-s-preserved c =
    let w = c.args.symbols.now in
    let v = c.loop-s in
    let i = v.s-index in
    (below_more (λ k. get_or w k 0 ≤ bit_or v.all (get_or w i 0)) i (λ k h. omega (arith, v.invariant.0 k h, or_left_most v.all (get_or w i 0))) (or_right_most v.all (get_or w i 0)), λ ten. or_lt 10 v.all (get_or w i 0) (v.invariant.1 ten) (ten.below i (search rules)))
