-- `read_test21_26::repairs::add_bits` meets its contract: each count gets its bit.
-- Assumes nothing.
use Rattle.std.proofs.Common.{◌≡◌, ℕ, ◌+◌, ◌<◌, ◌≢◌, ap₂, ◌∙◌, length, arith, length-set, get_or-set_other, get_or-set_same, below_more}
use Rattle.ground.specs.Bit.{bit_in}
use Rattle.ground.proofs.Writing.{is_table}
use Rattle.read_test21_26.proofs.repairs.add_bits.Goals as goal

-- the count of bit b, with the number of the bit that it is raised by in any form
counted : (b x y : ℕ) {r n m k : ℕ} → r ≡ n + (bit_in k x + bit_in k y) → n ≡ m → k ≡ b → r ≡ m + (bit_in b x + bit_in b y)
counted b x y is count place = is ∙ ap₂ (λ (n k : ℕ). n + (bit_in k x + bit_in k y)) count place

pub raised-requires : goal.raised-requires
raised-requires c =
    let v = c.loop-b in
    let l : v.b < 12 = omega arith in
    let same = v.invariant.2 v.b (omega arith) in
    record { count_bound = omega (arith, same, c.requires.each v.b l); b_bound = omega arith }

pub loop-b-preserved : goal.loop-b-preserved
loop-b-preserved c =
    let v = c.loop-b in
    let a = c.args in
    let here : v.b < length v.counts = omega (arith, v.invariant.0) in
    let is = counted v.b a.sav a.eav c.raised.ensures (v.invariant.2 v.b (omega arith)) (omega arith) in (
      simp length-set v.invariant.0,
      below_more _ _ (λ k h. let other : k ≢ v.b = omega arith in rw get_or-set_other (v.invariant.1 k h)) (rw get_or-set_same is),
      (λ k h. let other : k ≢ v.b = omega arith in rw get_or-set_other (v.invariant.2 k (omega arith))),
    )

pub returns : goal.returns
returns c = is_table 12 _ 0 _ c.loop-b.invariant.0 (λ i h. c.loop-b.invariant.1 i (omega arith))
