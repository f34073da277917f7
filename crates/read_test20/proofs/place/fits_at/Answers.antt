-- `read_test20::place::fits_at` meets its contract: by where the symbol stands.
-- Assumes nothing.
use mathlib.Core.Path.{sym}
use native.Mathlib.Omega.{arith}
use Rattle.window.proofs.Symbols.{fits_sav, fits_eav, fits_byte}
use Rattle.read_test20.proofs.place.fits_at.Goals as goal

pub returns-then-i-lt2 : goal.returns-then-i-lt2
returns-then-i-lt2 c = let a = c.args in sym (fits_sav a.p a.i a.c c.if-i-lt2.true)

pub returns-then-i-eav : goal.returns-then-i-eav
returns-then-i-eav c =
    let a = c.args in
    sym (fits_byte a.p a.i a.c (omega (arith, c.if-i-lt2.false)) (λ h. absurd (omega (arith, c.if-i-eav.true))))

pub returns-then-i-eav-2 : goal.returns-then-i-eav-2
returns-then-i-eav-2 c =
    let a = c.args in
    sym (fits_eav a.p a.i a.c (omega (arith, c.if-i-lt2.false)) (omega (arith, c.if-i-eav.false)) (omega (arith, c.if-i-eav-2.true)))

pub returns : goal.returns
returns c =
    let a = c.args in
    sym (fits_byte a.p a.i a.c (omega (arith, c.if-i-lt2.false)) (λ h. omega (arith, c.if-i-eav-2.false)))
