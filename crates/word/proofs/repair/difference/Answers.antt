-- `word::repair::difference` meets its contract: a number without its lowest one has a one less.
-- Assumes nothing.
use mathlib.Core.Path.{◌≡◌, sym, ◌∙◌}
use Prim.Native.Nat.{◌%◌}
use lib.Bits.{bit_xor}
use native.Mathlib.Omega.{arith}
use borrow.Author.Tests.{eq-eqb, ne_eqb}
use Rattle.word.proofs.Repairs.{nearness, difference_is}
use Rattle.word.proofs.repair.difference.Goals as goal

pub returns-then-x-eq0 : goal.returns-then-x-eq0
returns-then-x-eq0 c =
    let a = c.args in
    let z : bit_xor a.a a.b % 4096 ≡ 0 = omega (arith, c.if-x-eq0.true) in
    let e : nearness (bit_xor a.a a.b % 4096) ≡ 0 = simp (eq-eqb (bit_xor a.a a.b % 4096) 0 z) in
    sym e ∙ difference_is a.a a.b

pub returns-then-x-eq0-2 : goal.returns-then-x-eq0-2
returns-then-x-eq0-2 c =
    let a = c.args in
    let e : nearness (bit_xor a.a a.b % 4096) ≡ 1 = simp (ne_eqb _ _ c.if-x-eq0.false, eq-eqb _ _ c.if-x-eq0-2.true) in
    sym e ∙ difference_is a.a a.b

pub returns : goal.returns
returns c =
    let a = c.args in
    let e : nearness (bit_xor a.a a.b % 4096) ≡ 2 = simp (ne_eqb _ _ c.if-x-eq0.false, ne_eqb _ _ c.if-x-eq0-2.false) in
    sym e ∙ difference_is a.a a.b
