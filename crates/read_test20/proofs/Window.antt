-- A window symbol by symbol: K28.5 twice, bytes, K29.7 twice, bytes; and the place at which test 20 fails.
-- Assumes nothing.
use mathlib.Core.Path.{◌≡◌, sym, ap, ap₂, ◌∙◌}
use mathlib.Core.Bool.{Bool, true, false, not, ◌&&◌}
use mathlib.Core.List.{List}
use mathlib.Core.Logic.{⊎_elim}
use Prim.Native.Nat.{ℕ, ◌+◌, ◌≤◌, ◌<◌}
use native.Mathlib.Nat.{eq-or-lt_of_le}
use native.Mathlib.Numerals.{add-one}
use native.Mathlib.Omega.{arith}
use lib.Dec.{eqb, ltb}
use lib.ListN.{length}
use borrow.Author.Tests.{ltb-true, ltb-false, eqb-true, eqb-false}
use Rattle.ground.specs.Range.{within}
use Rattle.ground.specs.Search.{is_some}
use Rattle.ground.proofs.Cases.{on_test}
use Rattle.ground.proofs.Ranges.{is_within, not_within}
use Rattle.ground.proofs.Searches.{is_hit, is_miss}
use Rattle.symbol.specs.Code.{char_of}
use Rattle.decoder.specs.Inside.Decoder.{decoding_table, entry_of, entry_in}
use Rattle.decoder.specs.Inside.Mask.{mask_of, of_mask, after_by}
use Rattle.decoder.proofs.Masks.{mask_again, legal_mask, after_mask}
use Rattle.decoder.proofs.Reading.{legal_is, entry_in_lem}
use Rattle.span.specs.declared.format.Shape.{Shape}
use Rattle.span.specs.Format.{eav_at}
use Rattle.window.specs.Scan.{meant, symbol_at, start_of, running_at, fits, holds20}
use Rattle.window.proofs.Symbols.{fits_sav, fits_eav, fits_byte, meant_entry, legal_told, running_on, running_start}
use Rattle.read_test20.specs.Inside.Run.{suits, RunInv, place20, walked_of, ScanInv, holds_by}

-- ---- the kinds of characters as ranges of numbers

within_one : (k c : ℕ) → eqb c k ≡ within k k c
within_one k c =
    on_test (eqb c k)
    (λ t. let e : c ≡ k = eqb-true c k t in t ∙ sym (is_within k k c (omega arith) (omega arith)))
    (λ t. t ∙ sym (not_within k k c (λ p q. eqb-false c k t (omega arith))))

within_byte : (c : ℕ) → ltb c 256 ≡ within 0 255 c
within_byte c =
    on_test (ltb c 256)
    (λ t. let h : c < 256 = ltb-true c 256 t in t ∙ sym (is_within 0 255 c (omega arith) (omega arith)))
    (λ t. let h : 256 ≤ c = ltb-false c 256 t in t ∙ sym (not_within 0 255 c (λ p q. omega arith)))

module _ (p : Shape) (i c : ℕ) where
  pub kind_sav : i < 2 → fits p i c ≡ within 261 261 c
  kind_sav h = fits_sav p i c h ∙ within_one 261 c

  pub kind_eav : 2 ≤ i → eav_at p ≤ i → i < eav_at p + 2 → fits p i c ≡ within 266 266 c
  kind_eav h l m = fits_eav p i c h l (omega arith) ∙ within_one 266 c

  pub kind_byte : 2 ≤ i → (eav_at p ≤ i → eav_at p + 2 ≤ i) → fits p i c ≡ within 0 255 c
  kind_byte h l = fits_byte p i c h l ∙ within_byte c

-- ---- test 20 symbol by symbol

module _ (p : Shape) (w : List ℕ) where
  module _ (low high from to : ℕ) (kind : (i : ℕ) → from ≤ i → i < to → (c : ℕ) → fits p i c ≡ within low high c) where
    pub same_test : (i : ℕ) → from ≤ i → i < to → holds20 p w i ≡ suits w low high i
    unfolding holds20 suits
    same_test i h l = ap (λ (t : Bool). is_some (char_of (running_at w i) (symbol_at w i)) && t) (kind i h l (meant (symbol_at w i)))

  -- nothing has been asked
  pub not_yet : {mask : ℕ} → mask ≡ mask_of (start_of w) → ScanInv p w 0 mask
  not_yet e = record { within = omega arith; bit = e ∙ ap mask_of (sym (running_start w)); held = λ j h. absurd (omega arith) }

  module _ {i mask e : ℕ} (r : ScanInv p w i mask) (is : e ≡ entry_in decoding_table (symbol_at w i)) where
    -- what the table says of a symbol is so
    asked : holds_by p i mask e ≡ holds20 p w i
    unfolding holds20
    asked =
        rw (is, entry_in_lem (symbol_at w i), r.bit)
        (ap₂ ◌&&◌ (legal_mask (running_at w i) (entry_of (symbol_at w i)) ∙ legal_is (running_at w i) (symbol_at w i))
        (ap (fits p i) (sym (meant_entry (symbol_at w i)))))

    -- one symbol more
    pub on : i < length w → holds_by p i mask e ≡ true → ScanInv p w (i + 1) (after_by mask e)
    on h t =
        let here : holds20 p w i ≡ true = sym asked ∙ t in
        record {
          within = omega arith;
          bit =
              rw (is, entry_in_lem (symbol_at w i), r.bit)
              (after_mask (running_at w i) (symbol_at w i) (meant (symbol_at w i)) (legal_told p w i here)
              ∙ ap mask_of (sym (running_on w i)) ∙ ap (λ (k : ℕ). mask_of (running_at w k)) (sym (add-one i)));
          held = λ j l. ⊎_elim (λ q. rw q here) (λ q. r.held j q) (eq-or-lt_of_le (let b : j ≤ i = omega arith in b));
        }

    -- the first at which it does not hold
    pub stops : i < length w → holds_by p i mask e ≡ false → i ≡ place20 p w
    unfolding place20
    stops h t =
        rw (is_hit (λ k. not (holds20 p w k)) (length w) i
        (record { from = omega arith; below = h; holds = ap not (sym asked ∙ t); least = λ j _ l. ap not (r.held j l) }))

  -- or the end
  pub ends : {i mask : ℕ} → ScanInv p w i mask → length w ≤ i → i ≡ place20 p w
  unfolding place20
  ends {i} r h =
      let all : i ≡ length w = omega (arith, r.within) in
      rw (is_miss (λ k. not (holds20 p w k)) (length w) (record { never = λ j _ l. ap not (r.held j (omega arith)) })) all

  -- a window that has been asked to its end
  scanned_is : {mask : ℕ} → ScanInv p w (length w) mask → record { place = length w; before = start_of w; after = of_mask mask } ≡ walked_of p w
  scanned_is r = rw (← (ends r (omega arith)), r.bit, mask_again (running_at w (length w)))

  -- ---- the parts of a window one after the other, each run of symbols of one kind
  module _ {m1 m2 : ℕ} (sav : RunInv w 261 261 0 2 m1) where
    -- SAV and picture, as far as they have come
    pub reached : {i : ℕ} → RunInv w 0 255 2 i m2 → i ≤ eav_at p → i ≤ length w → ScanInv p w i m2
    reached {i} b l h =
        record {
          within = h;
          bit = b.bit;
          held =
              λ j q.
              on_test (ltb j 2) (λ t. in_sav j (ltb-true j 2 t))
              (λ t.
              let past : 2 ≤ j = ltb-false j 2 t in
              same_test 0 255 2 i (λ k n m c. kind_byte p k c n (λ z. absurd (omega arith))) j past q ∙ b.suited j past q);
        }
      where
        in_sav : (j : ℕ) → j < 2 → holds20 p w j ≡ true
        in_sav j q = same_test 261 261 0 2 (λ k n m c. kind_sav p k c m) j (omega arith) q ∙ sav.suited j (omega arith) q

    -- all of it
    pub all_suit : {m3 m4 : ℕ} → RunInv w 0 255 2 (eav_at p) m2 → RunInv w 266 266 (eav_at p) (eav_at p + 2) m3
        → RunInv w 0 255 (eav_at p + 2) (length w) m4 → record { place = length w; before = start_of w; after = of_mask m4 } ≡ walked_of p w
    all_suit b d e =
        let before = reached b (omega arith) (omega (arith, d.come, e.come)) in
        scanned_is
        (record {
          within = omega arith;
          bit = e.bit;
          held =
              λ j l.
              on_test (ltb j (eav_at p)) (λ t. before.held j (ltb-true j (eav_at p) t))
              (λ t.
              let past : eav_at p ≤ j = ltb-false j (eav_at p) t in
              on_test (ltb j (eav_at p + 2)) (λ u. eav j past (ltb-true j (eav_at p + 2) u)) (λ u. rest j (ltb-false j (eav_at p + 2) u) l));
        })
      where
        eav : (j : ℕ) → eav_at p ≤ j → j < eav_at p + 2 → holds20 p w j ≡ true
        eav j h l =
            same_test 266 266 (eav_at p) (eav_at p + 2) (λ i n m c. kind_eav p i c (omega (arith, b.come)) n m) j h l ∙ d.suited j h l

        rest : (j : ℕ) → eav_at p + 2 ≤ j → j < length w → holds20 p w j ≡ true
        rest j h l =
            same_test 0 255 (eav_at p + 2) (length w) (λ i n m c. kind_byte p i c (omega (arith, b.come)) (λ _. n)) j h l ∙ e.suited j h l
