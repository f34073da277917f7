-- A loop that keeps the disparity as a bit reads the entries as the definition does.
-- Assumes nothing.
use mathlib.Core.Path.{◌≡◌, refl, sym, ap, ◌∙◌}
use mathlib.Core.Bool.{Bool, true, false, not}
use mathlib.Core.Option.{some}
use Prim.Native.Nat.{ℕ, zero, suc, ◌*◌, ◌/◌, ◌%◌, ◌<◌}
use native.Mathlib.Omega.{arith}
use lib.Bits.{bit_xor, and_high}
use lib.Dec.{eqb}
use borrow.Author.Tests.{eq-eqb, ne_eqb}
use Rattle.symbol.specs.declared.disparity.Disparity.{Disparity}
use Rattle.symbol.specs.declared.disparity.Disparity.TheVariants.{Negative, Positive}
use Rattle.symbol.specs.Code.{char_of, after_of}
use Rattle.symbol.specs.Inside.Code.{flips}
use Rattle.ground.specs.Bit.{bit}
use Rattle.symbol.specs.Inside.Disparity.{flipped_if}
use Rattle.symbol.proofs.Inverse.{decoded_below}
use Rattle.symbol.proofs.Ones.{flips_both}
use Rattle.decoder.specs.Inside.Decoder.{entry_of, legal_bit}
use Rattle.decoder.specs.Inside.Mask.{mask_of, of_mask, legal_by, after_by}
use Rattle.decoder.proofs.Reading.{flip_is}

pub mask_again : (d : Disparity) → of_mask (mask_of d) ≡ d
mask_again Negative = refl
mask_again Positive = refl

-- a bit that is 0 or 1, tested against 0 where it stands k places up, and against 1 where it stands lowest
bit_tests : (k b : ℕ) → 0 < k → b < 2 → not (eqb (b * k) 0) ≡ eqb b 1
bit_tests k zero h l = ap not (eq-eqb (0 * k) 0 (omega arith))
bit_tests k (suc zero) h l = ap not (ne_eqb (1 * k) 0 (omega arith))
bit_tests k (suc (suc b)) h l = absurd (omega arith)

pub legal_mask : (d : Disparity) (e : ℕ) → legal_by (mask_of d) e ≡ legal_bit d e
unfolding legal_by
legal_mask Negative e = ap (λ (x : ℕ). not (eqb x 0)) (and_high e 1 9) ∙ bit_tests 512 (e / 512 % 2) (omega arith) (omega arith)
legal_mask Positive e = ap (λ (x : ℕ). not (eqb x 0)) (and_high e 1 10) ∙ bit_tests 1024 (e / 1024 % 2) (omega arith) (omega arith)

flip_mask_lem : (d : Disparity) (t : Bool) → bit_xor (mask_of d) (3 * bit t * 512) ≡ mask_of (flipped_if t d)
flip_mask_lem Negative true = refl
flip_mask_lem Negative false = refl
flip_mask_lem Positive true = refl
flip_mask_lem Positive false = refl

-- the bit after a symbol that is legal is that of the disparity after its character
pub after_mask : (d : Disparity) (s c : ℕ) → char_of d s ≡ some c → after_by (mask_of d) (entry_of s) ≡ mask_of (after_of d c)
unfolding after_by
after_mask d s c e =
    let q : entry_of s / 4 / 512 % 4 ≡ 3 * bit (flips c) = omega (arith, flip_is d s c e) in
    ap (bit_xor (mask_of d)) (and_high (entry_of s / 4) 2 9 ∙ ap (λ (x : ℕ). x * 512) q)
    ∙ flip_mask_lem d (flips c)
    ∙ ap mask_of (sym (flips_both d c (decoded_below d s c e)))
