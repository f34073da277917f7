-- Where test 20 holds at every symbol, one pass says so: what stands in each part of a window, and what is asked of it.
-- Assumes nothing.
use mathlib.Core.Path.{◌≡◌, refl, sym, ap, ◌∙◌}
use mathlib.Core.Bool.{Bool, true, false, not}
use mathlib.Core.List.{List}
use mathlib.Core.Logic.{◌⊎◌, inl, inr}
use mathlib.Core.Option.{Option, none, some}
use Prim.Native.Nat.{ℕ, ◌+◌, ◌/◌, ◌%◌, ◌≤◌, ◌<◌}
use native.Mathlib.Numerals.{add-one}
use native.Mathlib.Omega.{arith}
use lib.ListN.{length}
use borrow.Author.Tests.{not-false}
use Rattle.ground.specs.Range.{within}
use Rattle.ground.specs.Search.{first_below, is_some}
use Rattle.ground.proofs.Ranges.{from_low, to_high}
use Rattle.ground.proofs.Searches.{hit, miss}
use Rattle.ground.proofs.Tests.{both_left, both_right}
use Rattle.symbol.specs.declared.disparity.Disparity.{Disparity}
use Rattle.symbol.specs.declared.disparity.Disparity.TheVariants.{Negative, Positive}
use Rattle.symbol.specs.Code.{symbol_of, char_of, after_of}
use Rattle.symbol.proofs.Inverse.{encode_decode, decoded_below}
use Rattle.symbol.proofs.Ones.{symbol_below}
use Rattle.decoder.specs.Inside.Mask.{mask_of}
use Rattle.read_test20.proofs.Window.{same_test, kind_sav, kind_eav, kind_byte}
use Rattle.span.specs.declared.format.Shape.{Shape}
use Rattle.span.specs.Format.{eav_at}
use Rattle.crcc.specs.declared.sums.Sums.{Sums}
use Rattle.window.specs.Inside.Columns.{sums_of}
use Rattle.window.specs.Inside.Fill.{fill_right}
use Rattle.window.specs.Scan.{meant, symbol_at, start_of, running_at, fits, holds20}
use Rattle.window.proofs.Symbols.{some_meant, legal_told, running_on}
use Rattle.read_test20.specs.Inside.Run.{suits, place20}
use Rattle.read_test20.specs.Inside.See.{TenBits, AreBytes, mask_by}
use Rattle.read_test20.specs.Inside.Whole.{Twice, AllHold, valid_of}

-- ---- a special character

module _ (w : List ℕ) where
  -- which one it is, and so its symbol
  its_meaning : (c j : ℕ) → suits w c c j ≡ true → meant (symbol_at w j) ≡ c
  unfolding suits
  its_meaning c j t =
      let here = both_right (is_some (char_of (running_at w j) (symbol_at w j))) (within c c (meant (symbol_at w j))) t in
      omega (arith, from_low c c (meant (symbol_at w j)) here, to_high c c (meant (symbol_at w j)) here)

  pub its_symbol : (c j : ℕ) → suits w c c j ≡ true → symbol_at w j ≡ symbol_of (running_at w j) c
  unfolding suits
  its_symbol c j t =
      let legal = some_meant (running_at w j) (symbol_at w j) (both_left (is_some (char_of (running_at w j) (symbol_at w j))) (within c c (meant (symbol_at w j))) t) in
      sym (encode_decode (running_at w j) (symbol_at w j) c (legal ∙ ap {B = Option ℕ} some (its_meaning c j t)))

  pub its_after : (c j : ℕ) → suits w c c j ≡ true → running_at w (j + 1) ≡ after_of (running_at w j) c
  its_after c j t = ap (running_at w) (add-one j) ∙ running_on w j ∙ ap (after_of (running_at w j)) (its_meaning c j t)

  -- it stands at a place and after it, each at the disparity there
  twice_told : (c at : ℕ) → Twice w c at → (symbol_at w at ≡ symbol_of (running_at w at) c) × (symbol_at w (at + 1) ≡ symbol_of (after_of (running_at w at) c) c)
  twice_told c at t =
      (its_symbol c at t.first, its_symbol c (at + 1) t.second ∙ ap (λ (d : Disparity). symbol_of d c) (its_after c at t.first))

  -- K28.5 twice: in one form, and then in the other
  pub sav_told : Twice w 261 0 → ((symbol_at w 0 ≡ 0x17C) × (symbol_at w 1 ≡ 0x283)) ⊎ ((symbol_at w 0 ≡ 0x283) × (symbol_at w 1 ≡ 0x17C))
  unfolding symbol_of after_of
  sav_told t = go (running_at w 0) (twice_told 261 0 t)
    where
      go : (d : Disparity) → (symbol_at w 0 ≡ symbol_of d 261) × (symbol_at w 1 ≡ symbol_of (after_of d 261) 261)
          → ((symbol_at w 0 ≡ 0x17C) × (symbol_at w 1 ≡ 0x283)) ⊎ ((symbol_at w 0 ≡ 0x283) × (symbol_at w 1 ≡ 0x17C))
      go Negative both = inl both
      go Positive both = inr both

  -- K29.7 twice: in the same form
  module _ (at flips : ℕ) (bit : mask_by flips ≡ mask_of (running_at w at)) (t : Twice w 266 at) where
    pub eav_negative : flips / 2048 % 4 ≡ 2 → (symbol_at w at ≡ 0x05D) × (symbol_at w (at + 1) ≡ 0x05D)
    unfolding symbol_of after_of
    eav_negative e = go (running_at w at) bit (twice_told 266 at t)
      where
        go : (d : Disparity) → mask_by flips ≡ mask_of d → (symbol_at w at ≡ symbol_of d 266) × (symbol_at w (at + 1) ≡ symbol_of (after_of d 266) 266)
            → (symbol_at w at ≡ 0x05D) × (symbol_at w (at + 1) ≡ 0x05D)
        go Negative m both = both
        go Positive m both = absurd (omega arith)

    pub eav_positive : (flips / 2048 % 4 ≡ 2 → ⊥) → (symbol_at w at ≡ 0x3A2) × (symbol_at w (at + 1) ≡ 0x3A2)
    unfolding symbol_of after_of
    eav_positive n = go (running_at w at) bit (twice_told 266 at t)
      where
        go : (d : Disparity) → mask_by flips ≡ mask_of d → (symbol_at w at ≡ symbol_of d 266) × (symbol_at w (at + 1) ≡ symbol_of (after_of d 266) 266)
            → (symbol_at w at ≡ 0x3A2) × (symbol_at w (at + 1) ≡ 0x3A2)
        go Negative m both = absurd (n (omega arith))
        go Positive m both = both

-- ---- the parts of a window

module _ (p : Shape) (w : List ℕ) (all : AllHold p w) where
  pub ten_bits : TenBits w
  ten_bits =
      record {
        below = λ i h.
            let legal = legal_told p w i (all.each i h) in
            rw (← (encode_decode (running_at w i) (symbol_at w i) (meant (symbol_at w i)) legal))
            (symbol_below (running_at w i) (meant (symbol_at w i)) (decoded_below (running_at w i) (symbol_at w i) (meant (symbol_at w i)) legal));
      }

  pub sav_stands : 2 ≤ length w → Twice w 261 0
  sav_stands h =
      record {
        first = sym (same_test p w 261 261 0 2 (λ i _ m c. kind_sav p i c m) 0 (omega arith) (omega arith)) ∙ all.each 0 (omega arith);
        second = sym (same_test p w 261 261 0 2 (λ i _ m c. kind_sav p i c m) 1 (omega arith) (omega arith)) ∙ all.each 1 (omega arith);
      }

  pub eav_stands : (at : ℕ) → 2 ≤ at → at ≡ eav_at p → at + 2 ≤ length w → Twice w 266 at
  eav_stands at l e h =
      let kind : (i : ℕ) → at ≤ i → i < at + 2 → (c : ℕ) → fits p i c ≡ within 266 266 c = λ i n m c. kind_eav p i c (omega arith) (omega (arith, e)) (omega (arith, e)) in
      record {
        first = sym (same_test p w 266 266 at (at + 2) kind at (omega arith) (omega arith)) ∙ all.each at (omega arith);
        second = sym (same_test p w 266 266 at (at + 2) kind (at + 1) (omega arith) (omega arith)) ∙ all.each (at + 1) (omega arith);
      }

  -- bytes, before the EAV and after its special characters
  pub bytes_stand : (from to : ℕ) → 2 ≤ from → to ≤ length w → ((i : ℕ) → from ≤ i → i < to → eav_at p ≤ i → eav_at p + 2 ≤ i) → AreBytes w from to
  bytes_stand from to l h apart =
      record {
        each = λ j n m.
            sym (same_test p w 0 255 from to (λ i a b c. kind_byte p i c (omega arith) (apart i a b)) j n m) ∙ all.each j (omega arith);
      }

-- part of a run of bytes
pub bytes_in : {w : List ℕ} {from to low high : ℕ} → AreBytes w from to → from ≤ low → high ≤ to → AreBytes w low high
bytes_in b h l = record { each = λ j n m. b.each j (omega arith) (omega arith) }

-- ---- the answer

pub all_right : (p : Shape) (w : List ℕ) → place20 p w ≡ length w → AllHold p w
unfolding place20
all_right p w e = go (first_below (length w) (λ i. not (holds20 p w i))) refl
  where
    go : (o : Option ℕ) → first_below (length w) (λ i. not (holds20 p w i)) ≡ o → AllHold p w
    go none q = record { each = λ j h. not-false (holds20 p w j) ((miss (λ i. not (holds20 p w i)) (length w) q).never j (omega arith) h) }
    go (some k) q = let at : k ≡ length w = rw q at e in absurd (omega (arith, (hit (λ i. not (holds20 p w i)) (length w) k q).below))

-- what is known of one that is
pub is_valid : (p : Shape) (w : List ℕ) → place20 p w ≡ length w → {a : Bool} {b c : Disparity} {d : Sums} → a ≡ fill_right p w → b ≡ start_of w
    → c ≡ running_at w (place20 p w) → d ≡ sums_of p w → record { filled = a; before = b; after = c; sums = d } ≡ valid_of p w
is_valid p w all ea eb ec ed = rw (ea, eb, ec, ed, all)

-- two tests, each of which holds where the other does
pub agree : (a b : Bool) → (a ≡ true → b ≡ true) → (b ≡ true → a ≡ true) → a ≡ b
agree true b x y = sym (x refl)
agree false true x y = y refl
agree false false x y = refl
