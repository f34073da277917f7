-- `packing::bytes::pack` meets its contract: the tests say which case of the definition holds.
-- Assumes nothing.
use mathlib.Core.Path.{sym, ap, ◌∙◌}
use mathlib.Core.Logic.{inl, inr}
use Prim.Native.Nat.{◌≤◌}
use native.Mathlib.Omega.{arith}
use Rattle.ground.specs.Answer.{given}
use Rattle.packing.proofs.Packing.{packs, pack_meets_7}
use Rattle.packing.proofs.bytes.pack.Goals as goal

pub returns-then-a-gt4095 : goal.returns-then-a-gt4095
returns-then-a-gt4095 c =
    let a = c.args in
    let h : 4096 ≤ a.a = omega arith in
    sym (pack_meets_7 a.a a.b (inl h))

pub returns-then-b-gt4095 : goal.returns-then-b-gt4095
returns-then-b-gt4095 c =
    let a = c.args in
    let h : 4096 ≤ a.b = omega arith in
    sym (pack_meets_7 a.a a.b (inr h))

pub returns : goal.returns
returns c =
    let a = c.args in
    let p : a.a ≤ 4095 = omega arith in
    let q : a.b ≤ 4095 = omega arith in
    ap given c.bytes_of.ensures ∙ sym (packs a.a a.b p q)
