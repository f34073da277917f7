-- Symbols of fill words: what the code names, that they repeat, that they are bytes where they stand, and that they are fill.
-- Assumes nothing.
use mathlib.Core.Path.{◌≡◌, refl, sym, ap, ap₂, subst, ◌∙◌}
use mathlib.Core.Bool.{true, true≢false}
use mathlib.Core.List.{List}
use Prim.Native.Nat.{ℕ, zero, suc, ◌+◌, ◌-◌, ◌*◌, ◌/◌, ◌%◌, ◌≤◌, ◌<◌, min}
use native.Mathlib.Nat.{eq-or-lt_of_le}
use native.Mathlib.Omega.{arith}
use mathlib.Core.Logic.{◌⊎◌, inl, inr, ⊎_elim}
use lib.Bits.{bit_or, bit_xor, or_zero_l, xor_self}
use lib.Dec.{eqb}
use lib.ListN.{length, get_or, take, drop, length-take, length-drop}
use lib.Seq.{get_or-take, get_or-drop}
use borrow.Author.Tests.{ne_eqb, eqb-true, eqb-false}
use Rattle.ground.specs.Range.{within}
use Rattle.ground.specs.Search.{is_some}
use Rattle.ground.proofs.Cases.{on_test}
use Rattle.ground.proofs.Ranges.{is_within, to_high}
use Rattle.ground.proofs.Tests.{both_left, both_right}
use Rattle.symbol.specs.declared.disparity.Disparity.{Disparity}
use Rattle.symbol.specs.Code.{symbol_of, char_of}
use Rattle.decoder.specs.Inside.Mask.{mask_of, of_mask}
use Rattle.decoder.proofs.Masks.{mask_again}
use Rattle.packing.specs.declared.bytes.ThreeBytes.{ThreeBytes}
use Rattle.packing.specs.Bytes.{bytes_of, unpacked}
use Rattle.packing.proofs.Packing.{unpack_pack, pack_unpack}
use Rattle.window.proofs.Filling.{Both, all_right, first_wrong_lem, second_wrong}
use Rattle.window.proofs.Plain.{pair_is}
use Rattle.read_test20.proofs.Kept.{its_symbol, its_after}
use Rattle.read_test20.proofs.Gathering.{or_left, or_right, xor_none, fill_flat, fill_step}
use Rattle.span.specs.declared.format.Shape.{Shape}
use Rattle.span.specs.Format.{symbols_in}
use Rattle.span.specs.Layout.{ancillary_start}
use Rattle.window.specs.Scan.{byte_of, meant, symbol_at, running_at}
use Rattle.window.specs.Inside.Fill.{fill_right}
use Rattle.window.specs.Inside.Given.{plain_pair}
use Rattle.window.proofs.Symbols.{meant_of}
use Rattle.read_test20.specs.Inside.Fill.{fill_by, Repeats, AreFill}
use Rattle.read_test20.specs.Inside.Run.{suits, RunInv}
use Rattle.read_test20.specs.Inside.See.{mask_by}

-- what the code names are the symbols of the book
at_negative : (m : ℕ) → m ≡ 512 → (0x0B9 ≡ (fill_by m).first) × (0x0AE ≡ (fill_by m).second) × (0x0B6 ≡ (fill_by m).third)
unfolding symbol_of
at_negative m e = rw e (refl, refl, refl)

at_positive : (m : ℕ) → (m ≡ 512 → ⊥) → (0x346 ≡ (fill_by m).first) × (0x351 ≡ (fill_by m).second) × (0x349 ≡ (fill_by m).third)
unfolding symbol_of
at_positive m x = rw (ne_eqb m 512 x) (refl, refl, refl)

module _ (w : List ℕ) (from flips : ℕ) where
  -- ---- the first three
  three_fill : symbol_at w from ≡ (fill_by (mask_by flips)).first → symbol_at w (from + 1) ≡ (fill_by (mask_by flips)).second
      → symbol_at w (from + 2) ≡ (fill_by (mask_by flips)).third → AreFill w from (from + 3) flips
  three_fill x y z =
      record {
        first = λ q h. let at : from ≡ from + 3 * q = omega arith in rw at at x;
        second = λ q h. let at : from + 1 ≡ from + 3 * q + 1 = omega arith in rw at at y;
        third = λ q h. let at : from + 2 ≡ from + 3 * q + 2 = omega arith in rw at at z;
      }

  pub negative_fill : flips / 2048 % 4 ≡ 2 → symbol_at w from ≡ 0x0B9 → symbol_at w (from + 1) ≡ 0x0AE → symbol_at w (from + 2) ≡ 0x0B6
      → AreFill w from (from + 3) flips
  negative_fill e x y z =
      let b = at_negative (mask_by flips) (omega arith) in
      three_fill (x ∙ b.0) (y ∙ b.1) (z ∙ b.2)

  pub positive_fill : (flips / 2048 % 4 ≡ 2 → ⊥) → symbol_at w from ≡ 0x346 → symbol_at w (from + 1) ≡ 0x351 → symbol_at w (from + 2) ≡ 0x349
      → AreFill w from (from + 3) flips
  positive_fill n x y z =
      let b = at_positive (mask_by flips) (λ e. n (omega arith)) in
      three_fill (x ∙ b.0) (y ∙ b.1) (z ∙ b.2)

  pub negative_told : flips / 2048 % 4 ≡ 2 → AreFill w from (from + 3) flips
      → (symbol_at w from ≡ 0x0B9) × (symbol_at w (from + 1) ≡ 0x0AE) × (symbol_at w (from + 2) ≡ 0x0B6)
  negative_told e s =
      let b = at_negative (mask_by flips) (omega arith) in
      let at : from + 3 * 0 ≡ from = omega arith in
      (rw at at (s.first 0 (omega arith)) ∙ sym b.0, rw at at (s.second 0 (omega arith)) ∙ sym b.1, rw at at (s.third 0 (omega arith)) ∙ sym b.2)

  pub positive_told : (flips / 2048 % 4 ≡ 2 → ⊥) → AreFill w from (from + 3) flips
      → (symbol_at w from ≡ 0x346) × (symbol_at w (from + 1) ≡ 0x351) × (symbol_at w (from + 2) ≡ 0x349)
  positive_told n s =
      let b = at_positive (mask_by flips) (λ e. n (omega arith)) in
      let at : from + 3 * 0 ≡ from = omega arith in
      (rw at at (s.first 0 (omega arith)) ∙ sym b.0, rw at at (s.second 0 (omega arith)) ∙ sym b.1, rw at at (s.third 0 (omega arith)) ∙ sym b.2)

  -- ---- and so on
  module _ (to : ℕ) (r : Repeats w from to) where
    again : (k q : ℕ) → from + k + 3 * q < to → symbol_at w (from + k + 3 * q) ≡ symbol_at w (from + k)
    again k zero h = let at : from + k + 3 * 0 ≡ from + k = omega arith in ap (symbol_at w) at
    again k (suc q) h =
        let at : from + k + 3 * suc q ≡ from + k + 3 * q + 3 = omega arith in
        ap (symbol_at w) at ∙ r.again (from + k + 3 * q) (omega arith) (omega arith) ∙ again k q (omega arith)

    pub all_fill : AreFill w from (from + 3) flips → AreFill w from to flips
    all_fill b =
        record {
          first =
              λ q h.
              let at : from + 3 * q ≡ from + 0 + 3 * q = omega arith in
              let begin : from + 0 ≡ from + 3 * 0 = omega arith in
              ap (symbol_at w) at ∙ again 0 q (omega arith) ∙ ap (symbol_at w) begin ∙ b.first 0 (omega arith);
          second =
              λ q h.
              let at : from + 3 * q + 1 ≡ from + 1 + 3 * q = omega arith in
              let begin : from + 1 ≡ from + 3 * 0 + 1 = omega arith in
              ap (symbol_at w) at ∙ again 1 q (omega arith) ∙ ap (symbol_at w) begin ∙ b.second 0 (omega arith);
          third =
              λ q h.
              let at : from + 3 * q + 2 ≡ from + 2 + 3 * q = omega arith in
              let begin : from + 2 ≡ from + 3 * 0 + 2 = omega arith in
              ap (symbol_at w) at ∙ again 2 q (omega arith) ∙ ap (symbol_at w) begin ∙ b.third 0 (omega arith);
        }

  module _ (to : ℕ) (b : AreFill w from to flips) where
    -- each equals the one three before it
    pub fill_repeats : Repeats w from to
    fill_repeats = record { again = λ i h l. go i h l }
      where
        go : (i : ℕ) → from ≤ i → i + 3 < to → symbol_at w (i + 3) ≡ symbol_at w i
        go i h l =
            let q = (i - from) / 3 in
            on_test (eqb ((i - from) % 3) 0)
            (λ t.
            let z = eqb-true ((i - from) % 3) 0 t in
            let here : from + 3 * q ≡ i = omega arith in
            let there : from + 3 * (q + 1) ≡ i + 3 = omega arith in
            rw there at (b.first (q + 1) (omega arith)) ∙ sym (rw here at (b.first q (omega arith))))
            (λ t.
            on_test (eqb ((i - from) % 3) 1)
            (λ u.
            let z = eqb-true ((i - from) % 3) 1 u in
            let here : from + 3 * q + 1 ≡ i = omega arith in
            let there : from + 3 * (q + 1) + 1 ≡ i + 3 = omega arith in
            rw there at (b.second (q + 1) (omega arith)) ∙ sym (rw here at (b.second q (omega arith))))
            (λ u.
            let y = eqb-false ((i - from) % 3) 0 t in
            let z = eqb-false ((i - from) % 3) 1 u in
            let here : from + 3 * q + 2 ≡ i = omega arith in
            let there : from + 3 * (q + 1) + 2 ≡ i + 3 = omega arith in
            rw there at (b.third (q + 1) (omega arith)) ∙ sym (rw here at (b.third q (omega arith)))))

  -- ---- they are bytes where they stand
  module _ (to : ℕ) (b : AreFill w from to flips) (start : ℕ) (g : RunInv w 0 255 start from (mask_by flips)) where
    going_by : (k : ℕ) → from + 3 * k ≤ to → RunInv w 0 255 start (from + 3 * k) (mask_by flips)
    going_by zero h = let at : from + 3 * 0 ≡ from = omega arith in rw at g
    going_by (suc k) h =
        let at : from + 3 * suc k ≡ from + 3 * k + 3 = omega arith in
        rw at
        (fill_step w (going_by k (omega arith)) (b.first k (omega arith)) (b.second k (omega arith)) (b.third k (omega arith)))

    pub fill_going : (k : ℕ) → to ≡ from + 3 * k → RunInv w 0 255 start to (mask_by flips)
    fill_going k e = rw e (going_by k (omega arith))

-- ---- they are fill
module _ (w : List ℕ) (o m : ℕ) where
  -- the bytes 00 01 10 (hex) are two words of 100
  hundreds : unpacked (record { first = 0x00; second = 0x01; third = 0x10 }) ≡ record { a = 0x100; b = 0x100 }
  unfolding bytes_of
  hundreds = unpack_pack 0x100 0x100 (omega arith) (omega arith)

  byte_of_lem : (c : ℕ) → c < 256 → byte_of (symbol_of (of_mask m) c) ≡ c
  byte_of_lem c h = ap (λ (n : ℕ). n % 256) (meant_of (of_mask m) c (omega arith)) ∙ omega arith

  fill_pair : symbol_at w o ≡ (fill_by m).first → symbol_at w (o + 1) ≡ (fill_by m).second → symbol_at w (o + 2) ≡ (fill_by m).third
      → plain_pair w o ≡ record { a = 0x100; b = 0x100 }
  fill_pair x y z =
      sym
      (pair_is w o
      (sym (ap byte_of x ∙ byte_of_lem 0x00 (omega arith)))
      (sym (ap byte_of y ∙ byte_of_lem 0x01 (omega arith)))
      (sym (ap byte_of z ∙ byte_of_lem 0x10 (omega arith))))
      ∙ hundreds

  pub fill_both : symbol_at w o ≡ (fill_by m).first → symbol_at w (o + 1) ≡ (fill_by m).second → symbol_at w (o + 2) ≡ (fill_by m).third
      → Both (plain_pair w o)
  fill_both x y z = rw (fill_pair x y z) (record { first = refl; second = refl })

pub fill_right_lem : (p : Shape) (w : List ℕ) (from flips : ℕ) → 1 ≤ p.stream_pairs → length w ≡ symbols_in p → from ≡ length w - 3 * p.fill_pairs
    → AreFill w from (length w) flips → fill_right p w ≡ true
fill_right_lem p w from flips some long begins b =
    all_right p w some
    (record {
      come = omega arith;
      right =
          λ k h l.
          let q = k - p.stream_pairs * (ancillary_start + p.ancillary) in
          let at : from + 3 * q ≡ 3 * k = omega arith in
          fill_both w (3 * k) (mask_by flips) (rw at at (b.first q (omega arith))) (rw at at (b.second q (omega arith)))
          (rw at at (b.third q (omega arith)));
    })

-- ---- and fill is nothing else
module _ (w : List ℕ) (o : ℕ) (both : Both (plain_pair w o)) where
  abbrev three_bytes : ThreeBytes
  three_bytes = record { first = byte_of (symbol_at w o); second = byte_of (symbol_at w (o + 1)); third = byte_of (symbol_at w (o + 2)) }

  -- its bytes are 00 01 10 (hex)
  pub fill_bytes : three_bytes ≡ record { first = 0x00; second = 0x01; third = 0x10 }
  unfolding plain_pair bytes_of
  fill_bytes =
      sym (pack_unpack three_bytes (record { first_below = omega arith; second_below = omega arith; third_below = omega arith }))
      ∙ ap₂ bytes_of both.first both.second

module _ (w : List ℕ) where
  -- a byte that suits is the one that its symbol stands for
  its_byte : (c j : ℕ) → c < 256 → suits w 0 255 j ≡ true → byte_of (symbol_at w j) ≡ c → suits w c c j ≡ true
  unfolding suits
  its_byte c j h t e =
      let legal = both_left (is_some (char_of (running_at w j) (symbol_at w j))) (within 0 255 (meant (symbol_at w j))) t in
      let most = to_high 0 255 (meant (symbol_at w j)) (both_right (is_some (char_of (running_at w j) (symbol_at w j))) (within 0 255 (meant (symbol_at w j))) t) in
      rw (legal, is_within c c (meant (symbol_at w j)) (omega arith) (omega arith))

  module _ (from to : ℕ) (bytes : (j : ℕ) → from ≤ j → j < to → suits w 0 255 j ≡ true)
      (both : (q : ℕ) → from + 3 * q + 3 ≤ to → Both (plain_pair w (from + 3 * q))) where
    -- the three of a pair, by the running disparity there, which they leave as it is
    module _ (q : ℕ) (h : from + 3 * q + 3 ≤ to) where
      abbrev o : ℕ
      o = from + 3 * q

      third_place : o + 2 ≡ o + 1 + 1
      third_place = omega arith

      suit_first : suits w 0x00 0x00 o ≡ true
      suit_first = its_byte 0x00 o (omega arith) (bytes o (omega arith) (omega arith)) (ap (λ (t : ThreeBytes). t.first) (fill_bytes w o (both q h)))

      suit_second : suits w 0x01 0x01 (o + 1) ≡ true
      suit_second =
          its_byte 0x01 (o + 1) (omega arith) (bytes (o + 1) (omega arith) (omega arith)) (ap (λ (t : ThreeBytes). t.second) (fill_bytes w o (both q h)))

      suit_third : suits w 0x10 0x10 (o + 1 + 1) ≡ true
      suit_third =
          rw (← third_place)
          (its_byte 0x10 (o + 2) (omega arith) (bytes (o + 2) (omega arith) (omega arith)) (ap (λ (t : ThreeBytes). t.third) (fill_bytes w o (both q h))))

      after_first : running_at w (o + 1) ≡ running_at w o
      after_first = its_after w 0x00 o suit_first ∙ (fill_flat w (running_at w o)).0

      after_second : running_at w (o + 1 + 1) ≡ running_at w o
      after_second = its_after w 0x01 (o + 1) suit_second ∙ (fill_flat w (running_at w (o + 1))).1 ∙ after_first

      after_third : running_at w (o + 1 + 1 + 1) ≡ running_at w o
      after_third = its_after w 0x10 (o + 1 + 1) suit_third ∙ (fill_flat w (running_at w (o + 1 + 1))).2 ∙ after_second

      first_is : symbol_at w o ≡ symbol_of (running_at w o) 0x00
      first_is = its_symbol w 0x00 o suit_first

      second_is : symbol_at w (o + 1) ≡ symbol_of (running_at w o) 0x01
      second_is = its_symbol w 0x01 (o + 1) suit_second ∙ ap (λ (d : Disparity). symbol_of d 0x01) after_first

      third_is : symbol_at w (o + 2) ≡ symbol_of (running_at w o) 0x10
      third_is =
          ap (symbol_at w) third_place ∙ its_symbol w 0x10 (o + 1 + 1) suit_third ∙ ap (λ (d : Disparity). symbol_of d 0x10) after_second

    stays : (q : ℕ) → from + 3 * q ≤ to → running_at w (from + 3 * q) ≡ running_at w from
    stays zero h = let at : from + 3 * 0 ≡ from = omega arith in ap (running_at w) at
    stays (suc q) h =
        let at : from + 3 * suc q ≡ from + 3 * q + 1 + 1 + 1 = omega arith in
        ap (running_at w) at ∙ after_third q (omega arith) ∙ stays q (omega arith)

    are_fill : (flips : ℕ) → mask_by flips ≡ mask_of (running_at w from) → (to - from) % 3 ≡ 0 → AreFill w from to flips
    are_fill flips bit even =
        let by : (q : ℕ) → from + 3 * q ≤ to → running_at w (from + 3 * q) ≡ of_mask (mask_by flips) =
        λ q h. stays q h ∙ sym (mask_again (running_at w from)) ∙ ap of_mask (sym bit) in
        record {
          first = λ q h. first_is q (omega arith) ∙ ap (λ (d : Disparity). symbol_of d 0x00) (by q (omega arith));
          second = λ q h. second_is q (omega arith) ∙ ap (λ (d : Disparity). symbol_of d 0x01) (by q (omega arith));
          third = λ q h. third_is q (omega arith) ∙ ap (λ (d : Disparity). symbol_of d 0x10) (by q (omega arith));
        }

pub right_fill : (p : Shape) (w : List ℕ) (from flips : ℕ) → 1 ≤ p.stream_pairs → length w ≡ symbols_in p → from ≡ length w - 3 * p.fill_pairs
    → mask_by flips ≡ mask_of (running_at w from) → ((j : ℕ) → from ≤ j → j < length w → suits w 0 255 j ≡ true) → fill_right p w ≡ true
    → AreFill w from (length w) flips
right_fill p w from flips some long begins bit bytes right =
    are_fill w from (length w) bytes (λ q h. both q h) flips bit (omega arith)
  where
    both : (q : ℕ) → from + 3 * q + 3 ≤ length w → Both (plain_pair w (from + 3 * q))
    both q h =
        let k = p.stream_pairs * (ancillary_start + p.ancillary) + q in
        let at : 3 * k ≡ from + 3 * q = omega arith in
        let x = plain_pair w (3 * k) in
        rw (← at)
        (record {
          first =
              on_test (eqb x.a 0x100) (λ t. eqb-true x.a 0x100 t)
              (λ t. absurd (true≢false (sym right ∙ first_wrong_lem p w some k refl (omega arith) (omega arith) (eqb-false x.a 0x100 t))));
          second =
              on_test (eqb x.b 0x100) (λ t. eqb-true x.b 0x100 t)
              (λ t. absurd (true≢false (sym right ∙ second_wrong p w some k refl (omega arith) (omega arith) (eqb-false x.b 0x100 t))));
        })

-- the symbols from one place to another
pub piece_long : (w : List ℕ) (from n : ℕ) → length (take n (drop from w)) ≡ min n (length w - from)
piece_long w from n = length-take n (drop from w) ∙ ap (min n) (length-drop from w)

pub piece_at : (w : List ℕ) (from n k : ℕ) → k < length (take n (drop from w)) → get_or (take n (drop from w)) k 0 ≡ symbol_at w (from + k)
piece_at w from n k h = get_or-take n (drop from w) k 0 (omega (arith, piece_long w from n)) ∙ get_or-drop from w k 0

-- one symbol more is as the one three before it
pub repeats_step : (w : List ℕ) (other i : ℕ) {k : ℕ} → bit_or other (bit_xor (symbol_at w (i + 3)) (symbol_at w i)) ≡ 0
    → (other ≡ 0 → k < i → symbol_at w (k + 3) ≡ symbol_at w k) → k < i + 1 → symbol_at w (k + 3) ≡ symbol_at w k
repeats_step w other i {k} z before l =
    let last : symbol_at w (i + 3) ≡ symbol_at w i = xor_none _ _ (or_right other _ z) in
    ⊎_elim (λ q. subst (λ (n : ℕ). symbol_at w (n + 3) ≡ symbol_at w n) (sym q) last) (λ q. before (or_left other _ z) q) (sooner l)
  where
    sooner : k < i + 1 → (k ≡ i) ⊎ (k < i)
    sooner h = ⊎_elim (λ q. inl q) (λ q. inr q) (eq-or-lt_of_le (let b : k ≤ i = omega arith in b))

-- and adds nothing where it is
pub repeats_kept : (w : List ℕ) (other i : ℕ) → other ≡ 0 → symbol_at w (i + 3) ≡ symbol_at w i
    → bit_or other (bit_xor (symbol_at w (i + 3)) (symbol_at w i)) ≡ 0
repeats_kept w other i z e = rw (z, e) (or_zero_l (bit_xor (symbol_at w i) (symbol_at w i)) ∙ xor_self (symbol_at w i))
