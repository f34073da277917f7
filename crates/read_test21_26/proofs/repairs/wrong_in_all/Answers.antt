-- `read_test21_26::repairs::wrong_in_all` meets its contract: the sum over the streams so far, which is small.
-- Assumes nothing.
use mathlib.Core.Path.{◌≡◌, refl, ap, ap₂, ◌∙◌}
use Prim.Native.Nat.{ℕ, ◌+◌}
use native.Mathlib.Omega.{arith}
use Rattle.span.specs.Format.{streams}
use Rattle.word.specs.Received.{wrong_bits}
use Rattle.window.specs.Tests.{sum_of}
use Rattle.read_test21_26.specs.Inside.Repairs.{brought}
use Rattle.read_test21_26.proofs.Repairing.{none_summed, one_more, all_summed, of_sav, of_eav}
use Rattle.read_test21_26.proofs.repairs.wrong_in_all.Goals as goal

pub loop-i-init : goal.loop-i-init
loop-i-init c =
    let a = c.args in
    (refl, none_summed wrong_bits a.w.shape a.w.symbols.now, omega arith)

pub loop-i-preserved : goal.loop-i-preserved
loop-i-preserved c =
    let p = c.args.w.shape in
    let w = c.args.w.symbols.now in
    let v = c.loop-i in
    let xyz = c.xyz_of-xyz.ensures in
    let x = c.wrong_bits.ensures.count ∙ of_sav wrong_bits p w v.i xyz in
    let y = c.wrong_bits-in-loop-i.ensures.count ∙ of_eav wrong_bits p w v.i xyz in (
      v.invariant.0,
      ap₂ (λ (m n : ℕ). m + n) v.invariant.1 (ap₂ (λ (m n : ℕ). m + n) x y) ∙ one_more wrong_bits p w v.i,
      omega (arith, c.wrong_bits-in-loop-i.ensures.few, c.wrong_bits.ensures.few, v.invariant.2),
    )

pub returns : goal.returns
returns c =
    let a = c.args in
    let v = c.loop-i in
    let end : v.i ≡ streams a.w.shape = omega (arith, v.invariant.0, c.loop-i-test.false) in
    v.invariant.1 ∙ ap (λ (n : ℕ). sum_of n (brought wrong_bits a.w.shape a.w.symbols.now)) end ∙ all_summed a.w.shape a.w.symbols.now
