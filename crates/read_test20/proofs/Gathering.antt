-- Bits gathered by or, characters that are known, and fill words in a run of symbols.
-- Assumes nothing.
use mathlib.Core.Path.{◌≡◌, refl, sym, ap, ap₂, ◌∙◌}
use mathlib.Core.Bool.{true, not, ◌&&◌}
use mathlib.Core.List.{List}
use mathlib.Core.Option.{some}
use Prim.Native.Nat.{ℕ, ◌+◌, ◌/◌, ◌%◌, ◌≤◌, ◌<◌}
use native.Mathlib.Numerals.{add-one}
use native.Mathlib.Omega.{arith}
use lib.Bits.{bit_and, bit_or, bit_xor, and_le_l, and_le_r, or_add_and, xor_add_and}
use lib.Dec.{ltb}
use borrow.Author.Tests.{ltb-true, ltb-false, ne_eqb}
use Rattle.ground.proofs.Cases.{on_test}
use Rattle.ground.proofs.Ranges.{is_within}
use Rattle.symbol.specs.declared.disparity.Disparity.{Disparity}
use Rattle.symbol.specs.declared.disparity.Disparity.TheVariants.{Negative, Positive}
use Rattle.symbol.specs.Code.{symbol_of, char_of, after_of}
use Rattle.symbol.proofs.Inverse.{decode_encode}
use Rattle.decoder.specs.Inside.Mask.{legal_by, mask_of, of_mask}
use Rattle.decoder.proofs.Masks.{mask_again}
use Rattle.window.specs.Scan.{meant, symbol_at, running_at}
use Rattle.window.proofs.Symbols.{meant_of, running_on}
use Rattle.read_test20.specs.Inside.Fill.{fill_by}
use Rattle.read_test20.specs.Inside.Run.{suits_by, suits, RunInv}
use Rattle.read_test20.proofs.Runs.{further}

-- ---- bits gathered

pub or_left : (a b : ℕ) → bit_or a b ≡ 0 → a ≡ 0
or_left a b z = omega (arith, or_add_and a b, and_le_r a b)

pub or_right : (a b : ℕ) → bit_or a b ≡ 0 → b ≡ 0
or_right a b z = omega (arith, or_add_and a b, and_le_l a b)

pub xor_none : (a b : ℕ) → bit_xor a b ≡ 0 → a ≡ b
xor_none a b z = omega (arith, xor_add_and a b, and_le_l a b, and_le_r a b)

-- bit 8
abbrev special : ℕ → ℕ
special e = e / 256 % 2

-- an entry that has the bit of a disparity and is no special character's suits as a byte
pub suits_byte : (d : Disparity) (e : ℕ) → bit_and e (mask_of d) ≡ mask_of d → special e ≡ 0 → suits_by 0 255 (mask_of d) e ≡ true
unfolding legal_by
suits_byte d e has none = ap₂ ◌&&◌ (ap not (ne_eqb _ 0 (λ z. positive d (sym has ∙ z)))) (is_within 0 255 (e % 512) (omega arith) (omega arith))
  where
    positive : (d : Disparity) → mask_of d ≡ 0 → ⊥
    positive Negative z = absurd (omega arith)
    positive Positive z = absurd (omega arith)

module _ (w : List ℕ) where
  -- one run after another
  pub join : {from mid to m n : ℕ} → RunInv w 0 255 from mid m → RunInv w 0 255 mid to n → RunInv w 0 255 from to n
  join {from} {mid} {to} a b =
      record {
        come = omega (arith, a.come, b.come);
        bit = b.bit;
        suited = λ j h l. on_test (ltb j mid) (λ t. a.suited j h (ltb-true j mid t)) (λ t. b.suited j (ltb-false j mid t) l);
      }

  -- ---- a character that is known

  pub char_step : (low high : ℕ) {from i : ℕ} (d : Disparity) (c : ℕ) → c < 268 → low ≤ c → c ≤ high → RunInv w low high from i (mask_of d)
      → symbol_at w i ≡ symbol_of d c → RunInv w low high from (i + 1) (mask_of (after_of d c))
  unfolding suits
  char_step low high {from} {i} d c small above below g is =
      let same : running_at w i ≡ d = sym (mask_again (running_at w i)) ∙ ap of_mask (sym g.bit) ∙ mask_again d in
      let legal : char_of d (symbol_of d c) ≡ some c = decode_encode d c (omega arith) in
      let means : meant (symbol_of d c) ≡ c = meant_of d c (omega arith) in
      let next : running_at w (i + 1) ≡ after_of d c = ap (running_at w) (add-one i) ∙ running_on w i ∙ rw (same, is, means) refl in
      further w low high g (rw (same, is, legal, means) (is_within low high c above below)) (ap mask_of (sym next))

  -- ---- two fill words

  -- none of the three does
  pub fill_flat : (d : Disparity) → (after_of d 0x00 ≡ d) × (after_of d 0x01 ≡ d) × (after_of d 0x10 ≡ d)
  unfolding after_of
  fill_flat Negative = (refl, refl, refl)
  fill_flat Positive = (refl, refl, refl)

  three : {from i : ℕ} (d : Disparity) → RunInv w 0 255 from i (mask_of d)
      → symbol_at w i ≡ symbol_of d 0x00 → symbol_at w (i + 1) ≡ symbol_of d 0x01 → symbol_at w (i + 1 + 1) ≡ symbol_of d 0x10
      → RunInv w 0 255 from (i + 1 + 1 + 1) (mask_of d)
  three d g x y z =
      let flat = fill_flat d in
      let first = rw flat.0 at (char_step 0 255 d 0x00 (omega arith) (omega arith) (omega arith) g x) in
      let second = rw flat.1 at (char_step 0 255 d 0x01 (omega arith) (omega arith) (omega arith) first y) in
      rw flat.2 at (char_step 0 255 d 0x10 (omega arith) (omega arith) (omega arith) second z)

  pub fill_step : {from i mask : ℕ} → RunInv w 0 255 from i mask
      → symbol_at w i ≡ (fill_by mask).first → symbol_at w (i + 1) ≡ (fill_by mask).second → symbol_at w (i + 2) ≡ (fill_by mask).third
      → RunInv w 0 255 from (i + 3) mask
  fill_step {from} {i} {mask} g x y z =
      let d = of_mask mask in
      let bit : mask ≡ mask_of d = g.bit ∙ ap mask_of (sym (mask_again (running_at w i)) ∙ ap of_mask (sym g.bit)) in
      let third : i + 2 ≡ i + 1 + 1 = omega arith in
      let end : i + 3 ≡ i + 1 + 1 + 1 = omega arith in
      rw (bit, end) (three d (rw bit at g) x y (rw third at z))
