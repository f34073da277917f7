-- Where the special characters stand in a window whose tests hold: K28.5 at its first two symbols, K29.7 at the first two of its EAV, and
-- neither anywhere else.
-- Assumes nothing.
use mathlib.Core.Path.{◌≡◌, sym, ap, ap₂, ◌∙◌}
use mathlib.Core.Bool.{true, true≢false}
use mathlib.Core.List.{List}
use Prim.Native.Nat.{ℕ, ◌+◌, ◌≤◌, ◌<◌}
use native.Mathlib.Omega.{arith}
use lib.Dec.{ltb}
use borrow.Author.Tests.{eqb-true, ltb-true}
use Rattle.ground.specs.Range.{within}
use Rattle.ground.proofs.Cases.{on_test}
use Rattle.ground.proofs.Ranges.{from_low, to_high}
use Rattle.symbol.specs.declared.disparity.Disparity.{Disparity}
use Rattle.symbol.specs.declared.special.Special.TheVariants.{K28_5, K29_7}
use Rattle.symbol.specs.Character.{characters, number_of}
use Rattle.symbol.specs.Code.{symbol_of}
use Rattle.symbol.proofs.Inverse.{encode_decode}
use Rattle.span.specs.declared.format.Format.{Format}
use Rattle.span.specs.declared.format.Shape.{Shape}
use Rattle.span.specs.Format.{is_known, shape_of, symbols_in, eav_at}
use Rattle.span.proofs.Lengths.{known_has_streams}
use Rattle.window.specs.Scan.{meant, symbol_at, start_of, running_at, fits}
use Rattle.window.proofs.Accepting.{Accepted}
use Rattle.window.proofs.Symbols.{meant_of, fits_sav, fits_eav, fits_byte, legal_told, fits_told, running_start}

-- ---- which places ask for a special character

module _ (p : Shape) (i : ℕ) where
  k28_5_place : fits p i (number_of K28_5) ≡ true → i < 2
  unfolding fits
  k28_5_place t =
      on_test (ltb i 2) (λ l. ltb-true i 2 l)
      (λ l.
      on_test (within (eav_at p) (eav_at p + 1) i)
      (λ m. absurd (true≢false (sym (rw (l, m) at t))))
      (λ m. absurd (true≢false (sym (rw (l, m) at t)))))

  k29_7_place : fits p i (number_of K29_7) ≡ true → (eav_at p ≤ i) × (i ≤ eav_at p + 1)
  unfolding fits
  k29_7_place t =
      on_test (ltb i 2) (λ l. absurd (true≢false (sym (rw l at t))))
      (λ l.
      on_test (within (eav_at p) (eav_at p + 1) i)
      (λ m. (from_low (eav_at p) (eav_at p + 1) i m, to_high (eav_at p) (eav_at p + 1) i m))
      (λ m. absurd (true≢false (sym (rw (l, m) at t)))))

-- ---- a window whose tests hold

module _ (f : Format) (w : List ℕ) (acc : Accepted f w) (i : ℕ) (h : i < symbols_in (shape_of f)) where
  -- each symbol is that of the character that it stands for, at the running disparity
  pub symbol_read : symbol_at w i ≡ symbol_of (running_at w i) (meant (symbol_at w i))
  symbol_read =
      sym
      (encode_decode (running_at w i) (symbol_at w i) (meant (symbol_at w i)) (legal_told (shape_of f) w i (acc.scan i h)))

  -- and that character is of the kind that stands there
  pub kind_read : fits (shape_of f) i (meant (symbol_at w i)) ≡ true
  kind_read = fits_told (shape_of f) w i (acc.scan i h)

  -- so a form of a character stands only where the character does
  form_fits : (c : ℕ) (e : Disparity) → c < characters → symbol_at w i ≡ symbol_of e c → fits (shape_of f) i c ≡ true
  form_fits c e b q =
      let m : meant (symbol_at w i) ≡ c = ap meant q ∙ meant_of e c b in
      rw m at kind_read

module _ (f : Format) (w : List ℕ) (known : is_known f ≡ true) (acc : Accepted f w) where
  abbrev p : Shape
  p = shape_of f

  some : 1 ≤ p.stream_pairs
  some = known_has_streams f known

  -- the first two symbols stand for K28.5, the first two of the EAV for K29.7, and every other for a byte
  pub k28_5_read : (i : ℕ) → i < 2 → meant (symbol_at w i) ≡ number_of K28_5
  k28_5_read i h =
      eqb-true (meant (symbol_at w i)) (number_of K28_5)
      (sym (fits_sav p i (meant (symbol_at w i)) h) ∙ kind_read f w acc i (omega (arith, some)))

  pub k29_7_read : (i : ℕ) → eav_at p ≤ i → i ≤ eav_at p + 1 → meant (symbol_at w i) ≡ number_of K29_7
  k29_7_read i l m =
      eqb-true (meant (symbol_at w i)) (number_of K29_7)
      (sym (fits_eav p i (meant (symbol_at w i)) (omega (arith, some)) l m) ∙ kind_read f w acc i (omega (arith, some)))

  pub byte_read : (i : ℕ) → i < symbols_in p → 2 ≤ i → (eav_at p ≤ i → eav_at p + 2 ≤ i) → meant (symbol_at w i) < 256
  byte_read i h past q =
      ltb-true (meant (symbol_at w i)) 256 (sym (fits_byte p i (meant (symbol_at w i)) past q) ∙ kind_read f w acc i h)

  -- the window begins with K28.5, in the form of the disparity before it, and K28.5 again
  pub k28_5_at :
      (symbol_at w 0 ≡ symbol_of (start_of w) (number_of K28_5)) × (symbol_at w 1 ≡ symbol_of (running_at w 1) (number_of K28_5))
  k28_5_at = (
    symbol_read f w acc 0 (omega (arith, some)) ∙ ap₂ symbol_of (running_start w) (k28_5_read 0 (omega arith)),
    symbol_read f w acc 1 (omega (arith, some)) ∙ ap (symbol_of (running_at w 1)) (k28_5_read 1 (omega arith)),
  )

  -- no other symbol is a form of it
  pub only_k28_5 : (i : ℕ) → i < symbols_in p → (e : Disparity) → symbol_at w i ≡ symbol_of e (number_of K28_5) → i < 2
  only_k28_5 i h e q = k28_5_place p i (form_fits f w acc i h (number_of K28_5) e (omega arith) q)

  -- its EAV begins with K29.7, twice
  eav_form : (i : ℕ) → eav_at p ≤ i → i ≤ eav_at p + 1 → symbol_at w i ≡ symbol_of (running_at w i) (number_of K29_7)
  eav_form i l m = symbol_read f w acc i (omega (arith, some)) ∙ ap (symbol_of (running_at w i)) (k29_7_read i l m)

  pub k29_7_at :
      (symbol_at w (eav_at p) ≡ symbol_of (running_at w (eav_at p)) (number_of K29_7))
      × (symbol_at w (eav_at p + 1) ≡ symbol_of (running_at w (eav_at p + 1)) (number_of K29_7))
  k29_7_at = (eav_form (eav_at p) (omega arith) (omega arith), eav_form (eav_at p + 1) (omega arith) (omega arith))

  -- no other symbol is a form of it
  pub only_k29_7 :
      (i : ℕ)
      → i < symbols_in p
      → (e : Disparity)
      → symbol_at w i ≡ symbol_of e (number_of K29_7)
      → (eav_at p ≤ i) × (i ≤ eav_at p + 1)
  only_k29_7 i h e q = k29_7_place p i (form_fits f w acc i h (number_of K29_7) e (omega arith) q)
