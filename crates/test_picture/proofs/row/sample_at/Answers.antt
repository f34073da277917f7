-- `test_picture::row::sample_at` meets its contract, which is its code; no square is too large.
-- Assumes nothing.
use mathlib.Core.Path.{◌≡◌, ap₂}
use Prim.Native.Nat.{ℕ, ◌+◌, ◌-◌, ◌*◌, ◌/◌, ◌%◌}
use native.Mathlib.Omega.{arith}
use Rattle.test_picture.specs.TestPicture.{apart, test_sample}
use Rattle.test_picture.proofs.row.sample_at.Goals as goal

pub returns : goal.returns
unfolding test_sample
returns c =
    let a = c.args in
    let dx : c.apart-dx.result ≡ apart a.sample 1280 = omega arith in
    let dy : c.apart-dy.result ≡ apart a.line.0 720 = omega arith in
    ap₂ (λ (x y : ℕ). 4079 - (x * x + y * y) / 512 % 4064) dx dy
