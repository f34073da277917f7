-- `read_test20::area::see_area` meets its contract: three symbols that are repeated, or all of them.
-- Assumes nothing.
use mathlib.Core.Path.{◌≡◌, refl, sym, ap, ◌∙◌}
use Prim.Native.Nat.{ℕ, ◌-◌, ◌*◌}
use native.Mathlib.Omega.{arith}
use Rattle.read_test20.specs.Inside.See.{mask_by}
use Rattle.read_test20.proofs.Repeating.{repeated_going}
use Rattle.read_test20.proofs.area.see_area.Goals as goal

pub returns-then-repeats : goal.returns-then-repeats
returns-then-repeats c =
    let a = c.args in
    let k = c.see_run-first.ensures in
    let ok = sym c.passes.ensures ∙ c.if-passes.true in
    let same : mask_by c.see_run-first.result.flips ≡ mask_by a.flips = ap (λ (n : ℕ). 1536 - n * 512) c.if-first-flips.true in
    let start = c.requires.gather_inv.clean refl in
    record {
      come = omega (arith, c.requires.from_bound);
      fits = k.fits;
      clean = λ _. repeated_going a.symbols.now a.from a.to _ c.requires.from_bound (c.repeats.ensures.sound c.if-repeats.true) (k.clean ok) (same ∙ start.bit) c.requires.from_value;
      kept = λ _. ok;
    }
