-- `encoder::character::six_of` meets its contract: a byte, K28, or another special character.
-- Assumes nothing.
use mathlib.Core.Path.{◌≡◌, ap, ◌∙◌}
use mathlib.Core.Bool.{true, false}
use Prim.Native.Nat.{ℕ}
use native.Mathlib.Omega.{arith}
use borrow.Author.Tests.{eq-eqb, ne_eqb}
use lib.ListN.{get_or}
use Rattle.symbol.specs.Blocks.{six_bits}
use Rattle.symbol.specs.Character.{x_of}
use Rattle.encoder.proofs.Blocks.{six_of_byte, six_of_special}
use Rattle.encoder.proofs.character.six_of.Goals as goal

pub returns-then-c-lt256 : goal.returns-then-c-lt256
returns-then-c-lt256 c =
    let a = c.args in
    c.six_at.ensures ∙ ap (λ (x : ℕ). get_or (six_bits a.d) x 0) c.x_of-x.ensures ∙ six_of_byte a.d a.c c.if-c-lt256.true

pub returns-then-x-eq28 : goal.returns-then-x-eq28
returns-then-x-eq28 c =
    let a = c.args in
    let is : x_of a.c ≡ 28 = omega arith in
    c.six_bits_k28.ensures ∙ six_of_special a.d a.c true c.if-c-lt256.false (eq-eqb _ 28 is)

pub returns : goal.returns
returns c =
    let a = c.args in
    let x = c.x_of-x in
    c.six_at-2.ensures ∙ ap (λ (x : ℕ). get_or (six_bits a.d) x 0) x.ensures ∙ six_of_special a.d a.c false c.if-c-lt256.false (ne_eqb _ 28 (λ e. omega arith))
