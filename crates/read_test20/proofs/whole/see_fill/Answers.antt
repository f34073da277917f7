-- `read_test20::whole::see_fill` meets its contract: fill words, or bytes as they come.
-- Assumes nothing.
use mathlib.Core.Path.{◌≡◌, refl}
use Prim.Native.Nat.{◌+◌, ◌-◌, ◌*◌, ◌/◌}
use native.Mathlib.Omega.{arith}
use Rattle.read_test20.specs.Inside.See.{mask_by}
use Rattle.read_test20.proofs.Fills.{fill_going}
use Rattle.read_test20.proofs.Runs.{begin}
use Rattle.read_test20.proofs.whole.see_fill.Goals as goal

pub returns-then-are_fill-clause-seen : goal.returns-then-are_fill-clause-seen
returns-then-are_fill-clause-seen c =
    let a = c.args in
    let w = a.symbols.now in
    let tied = c.requires.tied in
    let b = c.are_fill.ensures.sound c.if-are_fill.true in
    let more : a.to ≡ a.from + 3 * ((a.to - a.from) / 3) = omega (arith, c.requires.from_bound, c.requires.from_value) in record { run = record { fits = tied.fits; going = fill_going w _ a.flips _ b _ (begin w 0 255 a.from (mask_by a.flips) tied.bit) _ more }; sound = λ _. b; kept = λ _. refl }
