-- `picture::place::picture_line_on` meets its contract: the tests say whether there is a line, and the formula which.
-- Assumes nothing.
use mathlib.Core.Path.{sym, ◌∙◌}
use Prim.Native.Nat.{◌≤◌}
use native.Mathlib.Omega.{arith}
use Rattle.ground.proofs.Ranges.{from_low, to_high}
use Rattle.line.proofs.Travel.{carries_told}
use Rattle.picture.proofs.Places.{line_on}
use Rattle.picture.proofs.place.picture_line_on.Goals as goal

pub overflow_mul-n : goal.overflow_mul-n
overflow_mul-n c =
    let n = c.args.l.0 in
    let on = sym c.in_ok-basic.ensures in
    let told = carries_told n c.in_ok-basic.basic.0 on in
    omega (arith, c.number_of.ensures, told.1.0, told.1.1)

pub overflow_sub-n : goal.overflow_sub-n
overflow_sub-n c =
    let n = c.args.l.0 in
    let on = sym c.in_ok-basic.ensures in
    let told = carries_told n c.in_ok-basic.basic.0 on in
    omega (arith, c.number_of.ensures, told.0, told.1.1)

pub overflow_sub-n-2 : goal.overflow_sub-n-2
overflow_sub-n-2 c =
    omega (arith, from_low _ _ _ (sym c.within.ensures ∙ c.if-not-within.false))

pub overflow_add-n : goal.overflow_add-n
overflow_add-n c =
    let n = c.args.l.0 in
    let on = sym c.in_ok-basic.ensures in
    let told = carries_told n c.in_ok-basic.basic.0 on in
    let most = to_high _ _ _ (sym c.within.ensures ∙ c.if-not-within.false) in
    omega (arith, c.number_of.ensures, told.1.0, told.1.1)

pub returns : goal.returns
returns c =
    let a = c.args in
    let t = sym c.within.ensures ∙ c.if-not-within.false in
    let on = sym c.in_ok-basic.ensures in
    let low : 1 ≤ a.image = omega (arith, from_low _ _ _ t) in
    let high : a.image ≤ 4 = omega (arith, to_high _ _ _ t) in
    line_on a.l.0 a.image _ on low high (omega (arith, c.picture_line.ensures, c.number_of.ensures))
