-- Symbols seen without an early exit: where nothing is missing, each is a byte that is legal where it stands.
-- Assumes nothing.
use mathlib.Core.Path.{◌≡◌, refl, sym, ap, ap₂, ◌∙◌}
use mathlib.Core.Bool.{true, ◌&&◌}
use mathlib.Core.List.{List}
use Prim.Native.Nat.{ℕ, zero, suc, ◌+◌, ◌-◌, ◌*◌, ◌/◌, ◌%◌, ◌≤◌, ◌<◌}
use native.Mathlib.Omega.{arith}
use lib.Bits.{bit_and, bit_or, bit_xor, and_shr, and_mod, or_shr, or_mod, xor_shr, xor_mod, xor_lt, and_high, and_le_l, and_le_r, or_zero_r, or_add_and}
use lib.Dec.{eqb}
use lib.ListN.{get_or}
use borrow.Author.Tests.{eqb-true, eqb-false, eq-eqb, not-true}
use Rattle.ground.specs.Range.{within}
use Rattle.ground.proofs.Ranges.{to_high}
use Rattle.ground.proofs.Tests.{both_left, both_right}
use Rattle.symbol.specs.declared.disparity.Disparity.{Disparity}
use Rattle.symbol.specs.declared.disparity.Disparity.TheVariants.{Negative, Positive}
use Rattle.decoder.specs.Inside.Decoder.{decoding_table, entry_of}
use Rattle.decoder.specs.Inside.Mask.{legal_by, mask_of, after_by}
use Rattle.decoder.proofs.Entries.{entry_at}
use Rattle.decoder.proofs.Reading.{entry_in_lem, entry_fits, flag_byte, byte_flag}
use Rattle.read_test20.proofs.Gathering.{suits_byte}
use Rattle.read_test20.proofs.Runs.{suits_is, begin, turn}
use Rattle.packing.specs.declared.bytes.TwoWords.{TwoWords}
use Rattle.packing.specs.Bytes.{unpacked}
use Rattle.window.proofs.Plain.{pair_is}
use Rattle.window.specs.Scan.{byte_of, symbol_at, running_at}
use Rattle.window.specs.Inside.Given.{plain_pair}
use Rattle.window.proofs.Symbols.{byte_is}
use Rattle.read_test20.specs.declared.see.Seen.{Seen}
use Rattle.read_test20.specs.Inside.Run.{suits_by, RunInv}
use Rattle.read_test20.specs.Inside.See.{seen, seen_three, passes_by, mask_by, AreBytes, GatherInv}

-- ---- bits

-- of what is gathered: the two bits of legality, and that of a byte
legal_two : (good x : ℕ) → bit_and good x / 512 % 4 ≡ bit_and (good / 512 % 4) (x / 512 % 4)
legal_two good x = ap (λ (n : ℕ). n % 4) (and_shr good x 9) ∙ and_mod (good / 512) (x / 512) 2

either_two : (e n : ℕ) → bit_or e n / 512 % 4 ≡ bit_or (e / 512 % 4) (n / 512 % 4)
either_two e n = ap (λ (n : ℕ). n % 4) (or_shr e n 9) ∙ or_mod (e / 512) (n / 512) 2

byte_one : (good x : ℕ) → bit_and good x / 8192 % 2 ≡ bit_and (good / 8192 % 2) (x / 8192 % 2)
byte_one good x = ap (λ (n : ℕ). n % 2) (and_shr good x 13) ∙ and_mod (good / 8192) (x / 8192) 1

either_one : (e n : ℕ) → bit_or e n / 8192 % 2 ≡ bit_or (e / 8192 % 2) (n / 8192 % 2)
either_one e n = ap (λ (n : ℕ). n % 2) (or_shr e n 13) ∙ or_mod (e / 8192) (n / 8192) 1

flipped_two : (flips e : ℕ) → bit_xor flips e / 2048 % 4 ≡ bit_xor (flips / 2048 % 4) (e / 2048 % 4)
flipped_two flips e = ap (λ (n : ℕ). n % 4) (xor_shr flips e 11) ∙ xor_mod (flips / 2048) (e / 2048) 2

-- two bits that are both set in what is left were set before, and one of two has each
and_three : (a b : ℕ) → a < 4 → b < 4 → bit_and a b ≡ 3 → (a ≡ 3) × (b ≡ 3)
and_three a b ha hb e = (omega (arith, and_le_l a b), omega (arith, and_le_r a b))

and_one : (a b : ℕ) → a < 2 → b < 2 → bit_and a b ≡ 1 → (a ≡ 1) × (b ≡ 1)
and_one a b ha hb e = (omega (arith, and_le_l a b), omega (arith, and_le_r a b))

-- bits 11 and 12 for a disparity: those of the other
abbrev other : Disparity → ℕ
other Negative = 2
other Positive = 1

-- its own bit of two
abbrev legal_bit_lem : Disparity → ℕ → ℕ
legal_bit_lem Negative v = v % 2
legal_bit_lem Positive v = v / 2 % 2

-- where one of two bits may be missing, the other is there
has_low : (e : ℕ) → e < 4 → bit_or e 2 ≡ 3 → e % 2 ≡ 1
has_low zero h q = absurd (let z : 2 ≡ 3 = q in omega arith)
has_low (suc zero) h q = refl
has_low (suc (suc zero)) h q = absurd (let z : 2 ≡ 3 = q in omega arith)
has_low (suc (suc (suc zero))) h q = refl
has_low (suc (suc (suc (suc e)))) h q = absurd (omega arith)

has_high : (e : ℕ) → e < 4 → bit_or e 1 ≡ 3 → e / 2 % 2 ≡ 1
has_high zero h q = absurd (let z : 1 ≡ 3 = q in omega arith)
has_high (suc zero) h q = absurd (let z : 1 ≡ 3 = q in omega arith)
has_high (suc (suc zero)) h q = refl
has_high (suc (suc (suc zero))) h q = refl
has_high (suc (suc (suc (suc e)))) h q = absurd (omega arith)

-- what is gathered by or is no less than each
pub or_left_most : (a b : ℕ) → a ≤ bit_or a b
or_left_most a b = omega (arith, or_add_and a b, and_le_r a b)

pub or_right_most : (a b : ℕ) → b ≤ bit_or a b
or_right_most a b = omega (arith, or_add_and a b, and_le_l a b)

-- a bit of legality that an entry has, and the other one
both_bits : (d : Disparity) (v : ℕ) → v < 4 → legal_bit_lem d v ≡ 1 → (bit_or v (other d) ≡ 3) × (1 ≤ v)
both_bits Negative zero h q = absurd (let z : ◌≡◌ {A = ℕ} 0 1 = q in omega arith)
both_bits Negative (suc zero) h q = (refl, omega arith)
both_bits Negative (suc (suc zero)) h q = absurd (let z : ◌≡◌ {A = ℕ} 0 1 = q in omega arith)
both_bits Negative (suc (suc (suc zero))) h q = (refl, omega arith)
both_bits Negative (suc (suc (suc (suc v)))) h q = absurd (omega arith)
both_bits Positive zero h q = absurd (let z : ◌≡◌ {A = ℕ} 0 1 = q in omega arith)
both_bits Positive (suc zero) h q = absurd (let z : ◌≡◌ {A = ℕ} 0 1 = q in omega arith)
both_bits Positive (suc (suc zero)) h q = (refl, omega arith)
both_bits Positive (suc (suc (suc zero))) h q = (refl, omega arith)
both_bits Positive (suc (suc (suc (suc v)))) h q = absurd (omega arith)

-- ---- the table

pub entry_is : {t : List ℕ} (s : ℕ) → t ≡ decoding_table → s < 1024 → get_or t s 0 ≡ entry_of s
entry_is s e h = ap (λ (l : List ℕ). get_or l s 0) e ∙ entry_at s h

-- ---- the mask

mask_told : (d : Disparity) (flips : ℕ) → mask_by flips ≡ mask_of d → flips / 2048 % 4 ≡ other d
mask_told Negative flips e = omega arith
mask_told Positive flips e = omega arith

-- an entry that has the bit of the running disparity
has_bit : (d : Disparity) (e : ℕ) → bit_or (e / 512 % 4) (other d) ≡ 3 → bit_and e (mask_of d) ≡ mask_of d
has_bit Negative e q = and_high e 1 9 ∙ omega (arith, has_low (e / 512 % 4) (omega arith) q)
has_bit Positive e q = and_high e 1 10 ∙ omega (arith, has_high (e / 512 % 4) (omega arith) q)

-- and one that is legal at it has both bits with the other's
has_both : (d : Disparity) (e : ℕ) → legal_by (mask_of d) e ≡ true → (bit_or (e / 512 % 4) (other d) ≡ 3) × (1 ≤ e / 512 % 4)
unfolding legal_by
has_both Negative e t =
    let set : e / 512 % 2 * 512 ≡ 0 → ⊥ = λ z. eqb-false (bit_and e 512) 0 (not-true _ t) (and_high e 1 9 ∙ z) in
    both_bits Negative (e / 512 % 4) (omega arith) (omega (arith, set))
has_both Positive e t =
    let set : e / 1024 % 2 * 1024 ≡ 0 → ⊥ = λ z. eqb-false (bit_and e 1024) 0 (not-true _ t) (and_high e 1 10 ∙ z) in
    both_bits Positive (e / 512 % 4) (omega arith) (omega (arith, set))

-- the bit after an entry
mask_flipped : (d : Disparity) (y : ℕ) → y < 4 → bit_xor (mask_of d) (y * 512) ≡ 1536 - bit_xor (other d) y * 512
mask_flipped Negative zero h = refl
mask_flipped Negative (suc zero) h = refl
mask_flipped Negative (suc (suc zero)) h = refl
mask_flipped Negative (suc (suc (suc zero))) h = refl
mask_flipped Negative (suc (suc (suc (suc y)))) h = absurd (omega arith)
mask_flipped Positive zero h = refl
mask_flipped Positive (suc zero) h = refl
mask_flipped Positive (suc (suc zero)) h = refl
mask_flipped Positive (suc (suc (suc zero))) h = refl
mask_flipped Positive (suc (suc (suc (suc y)))) h = absurd (omega arith)

after_seen : (d : Disparity) (flips e : ℕ) → flips / 2048 % 4 ≡ other d → after_by (mask_of d) e ≡ mask_by (bit_xor flips e)
unfolding after_by
after_seen d flips e o =
    let y : e / 4 / 512 % 4 ≡ e / 2048 % 4 = omega arith in
    ap (bit_xor (mask_of d)) (and_high (e / 4) 2 9 ∙ ap (λ (n : ℕ). n * 512) y)
    ∙ mask_flipped d (e / 2048 % 4) (omega arith)
    ∙ ap (λ (n : ℕ). 1536 - n * 512) (sym (flipped_two flips e ∙ ap (λ (n : ℕ). bit_xor n (e / 2048 % 4)) o))

-- ---- one symbol more

module _ (w : List ℕ) where
  pub see_begin : (from flips : ℕ) → flips < 16384 → mask_by flips ≡ mask_of (running_at w from) → GatherInv w from from 65535 flips
  see_begin from flips h e = record { come = omega arith; fits = h; clean = λ _. begin w 0 255 from (mask_by flips) e; kept = λ _. refl }

  pub see_step : {from i good flips e : ℕ} → GatherInv w from i good flips → e ≡ entry_of (symbol_at w i)
      → GatherInv w from (i + 1) (bit_and good (bit_or e (flips / 4))) (bit_xor flips e)
  see_step {from} {i} {good} {flips} {e} g is =
      let small : e < 16384 = rw is (entry_fits (symbol_at w i)) in
      record { come = omega (arith, g.come); fits = xor_lt 14 flips e g.fits small; clean = step; kept = keep }
    where
      keep : AreBytes w from (i + 1) → passes_by (bit_and good (bit_or e (flips / 4))) ≡ true
      keep all =
          let was = g.kept (record { each = λ j h l. all.each j h (omega arith) }) in
          let legal : good / 512 % 4 ≡ 3 = eqb-true _ _ (both_left (eqb (good / 512 % 4) 3) (eqb (good / 8192 % 2) 1) was) in
          let byte : good / 8192 % 2 ≡ 1 = eqb-true _ _ (both_right (eqb (good / 512 % 4) 3) (eqb (good / 8192 % 2) 1) was) in
          let d = running_at w i in
          let o : flips / 2048 % 4 ≡ other d = mask_told d flips (g.clean was).bit in
          let at : flips / 4 / 512 % 4 ≡ other d = omega (arith, o) in
          let suit : suits_by 0 255 (mask_of d) e ≡ true = rw is (suits_is w 0 255 i ∙ all.each i g.come (omega arith)) in
          let has = has_both d e (both_left (legal_by (mask_of d) e) (within 0 255 (e % 512)) suit) in
          let low : e % 512 ≤ 255 = to_high 0 255 (e % 512) (both_right (legal_by (mask_of d) e) (within 0 255 (e % 512)) suit) in
          let flag : e / 8192 % 2 ≡ 1 = rw is (byte_flag (symbol_at w i) (rw is at (let b : e % 512 < 256 = omega arith in b)) (λ z. absurd (omega (arith, has.1, is ∙ z)))) in
          let none_above : flips / 4 / 8192 % 2 ≡ 0 = omega (arith, g.fits) in
          let two : bit_and good (bit_or e (flips / 4)) / 512 % 4 ≡ 3 =
          legal_two good (bit_or e (flips / 4)) ∙ ap₂ bit_and legal (either_two e (flips / 4) ∙ ap (bit_or (e / 512 % 4)) at ∙ has.0) in
          let one : bit_and good (bit_or e (flips / 4)) / 8192 % 2 ≡ 1 =
          byte_one good (bit_or e (flips / 4)) ∙ ap₂ bit_and byte (either_one e (flips / 4) ∙ ap₂ bit_or flag none_above) in
          ap₂ ◌&&◌ (eq-eqb _ _ two) (eq-eqb _ _ one)

      step : passes_by (bit_and good (bit_or e (flips / 4))) ≡ true → RunInv w 0 255 from (i + 1) (mask_by (bit_xor flips e))
      step t =
          let legal : bit_and good (bit_or e (flips / 4)) / 512 % 4 ≡ 3 = eqb-true _ _ (both_left (eqb (bit_and good (bit_or e (flips / 4)) / 512 % 4) 3) (eqb (bit_and good (bit_or e (flips / 4)) / 8192 % 2) 1) t) in
          let byte : bit_and good (bit_or e (flips / 4)) / 8192 % 2 ≡ 1 = eqb-true _ _ (both_right (eqb (bit_and good (bit_or e (flips / 4)) / 512 % 4) 3) (eqb (bit_and good (bit_or e (flips / 4)) / 8192 % 2) 1) t) in
          let two = and_three (good / 512 % 4) (bit_or e (flips / 4) / 512 % 4) (omega arith) (omega arith) (sym (legal_two good (bit_or e (flips / 4))) ∙ legal) in
          let one = and_one (good / 8192 % 2) (bit_or e (flips / 4) / 8192 % 2) (omega arith) (omega arith) (sym (byte_one good (bit_or e (flips / 4))) ∙ byte) in
          let before = g.clean (ap₂ ◌&&◌ (eq-eqb _ _ two.0) (eq-eqb _ _ one.0)) in
          let d = running_at w i in
          let o : flips / 2048 % 4 ≡ other d = mask_told d flips before.bit in
          let at : flips / 4 / 512 % 4 ≡ other d = omega (arith, o) in
          let either : bit_or (e / 512 % 4) (other d) ≡ 3 = ap (bit_or (e / 512 % 4)) (sym at) ∙ sym (either_two e (flips / 4)) ∙ two.1 in
          let none_above : flips / 4 / 8192 % 2 ≡ 0 = omega (arith, g.fits) in
          let flag : e / 8192 % 2 ≡ 1 =
          sym (or_zero_r (e / 8192 % 2)) ∙ ap (bit_or (e / 8192 % 2)) (sym none_above) ∙ sym (either_one e (flips / 4)) ∙ one.1 in
          let low : e / 256 % 2 ≡ 0 = rw is (flag_byte (symbol_at w i) (rw is at flag)) in
          let suit : suits_by 0 255 (mask_of d) e ≡ true = suits_byte d e (has_bit d e either) low in
          rw (← (after_seen d flips e o), ← before.bit)
          (turn w 0 255 before (is ∙ sym (entry_in_lem (symbol_at w i))) (rw before.bit suit))

  -- the same of what is answered for a symbol
  pub seen_step : {from i good flips : ℕ} {x : Seen} → GatherInv w from i good flips → x ≡ seen (symbol_at w i) good flips
      → GatherInv w from (i + 1) x.good x.flips
  seen_step g is = rw is (see_step g refl)

  -- ---- three symbols

  -- their low eight bits are their bytes
  low_byte : (s : ℕ) → entry_of s % 256 ≡ byte_of s
  low_byte s = byte_is s refl (ap (λ (n : ℕ). n % 256) (sym (entry_in_lem s)))

  pub three_is : {x y z : Seen} {u : TwoWords} (o good flips : ℕ) → x ≡ seen (symbol_at w o) good flips
      → y ≡ seen (symbol_at w (o + 1)) x.good x.flips → z ≡ seen (symbol_at w (o + 2)) y.good y.flips
      → u ≡ unpacked (record { first = x.entry % 256; second = y.entry % 256; third = z.entry % 256 })
      → record { good = z.good; flips = z.flips; words = u } ≡ seen_three w o good flips
  unfolding seen_three
  three_is {x} {y} {z} {u} o good flips ex ey ez eu =
      let words : u ≡ plain_pair w o =
      eu
      ∙ pair_is w o
      (ap (λ (l : Seen). l.entry % 256) ex ∙ low_byte (symbol_at w o))
      (ap (λ (l : Seen). l.entry % 256) ey ∙ low_byte (symbol_at w (o + 1)))
      (ap (λ (l : Seen). l.entry % 256) ez ∙ low_byte (symbol_at w (o + 2))) in
      rw (words, ez, ey, ex)

  pub three_step : {from i good flips : ℕ} → GatherInv w from i good flips → GatherInv w from (i + 3) (seen_three w i good flips).good (seen_three w i good flips).flips
  unfolding seen_three
  three_step {from} {i} g =
      let two : i + 1 + 1 ≡ i + 2 = omega arith in
      let three : i + 2 + 1 ≡ i + 3 = omega arith in
      rw (← three) (see_step (rw two at (see_step (see_step g refl) refl)) refl)
