-- Which knock an input asks for.
-- Assumes nothing.
use mathlib.Core.Path.{◌≡◌, sym}
use mathlib.Core.Bool.{true, false}
use mathlib.Core.Option.{some}
use Prim.Native.Nat.{ℕ, ◌+◌, ◌*◌, ◌≤◌}
use native.Mathlib.Omega.{arith}
use Rattle.line.proofs.Travel.{carries}
use Rattle.picture.specs.Place.{picture_line_on}
use Rattle.picture.proofs.Places.{line_on}
use Rattle.rig.specs.Knock.{lost}
use Rattle.rig.proofs.Losing.{is_lost_where, is_kept_where}
use Rattle.test_picture.specs.TestPicture.{test_sample}
use Rattle.test_picture.proofs.Codes.{values}
use Rattle.loopback.specs.Input.{millisecond}

-- where too few are given: the middle of the knock is that of the span of stream line 401, which carries the middle of the rings, and it
-- takes one of the thousand milliseconds in which 50 frames go over the link
pub brightest : (test_sample 720 1280 ≡ 4079) × (picture_line_on 401 3 ≡ some 720)
brightest = (values.0, sym (line_on 401 3 360 (carries 360 (omega arith) (omega arith)) (omega arith) (omega arith) (omega arith)))

pub around_the_rings : 2 * millisecond.place + millisecond.long ≡ (400 + 401) * 19008
around_the_rings = omega arith

pub loses_lines : (n : ℕ) → 373 ≤ n → n ≤ 429 → lost millisecond n ≡ true
loses_lines n p q = is_lost_where millisecond n (omega arith) (omega arith) (omega arith) (omega arith)

pub keeps_lines : (n : ℕ) → 1 ≤ n → (373 ≤ n → n ≤ 429 → ⊥) → lost millisecond n ≡ false
keeps_lines n p x = is_kept_where millisecond n p (λ _ begins ends. x (omega arith) (omega arith))

pub one_of_a_thousand : 1000 * millisecond.long ≡ 50 * (1125 * 19008)
one_of_a_thousand = omega arith
