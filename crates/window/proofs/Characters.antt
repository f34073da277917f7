-- The characters of words and content bytes: how many there are, which stands at each symbol of a span, and that each is of the kind that
-- stands there.
-- Assumes nothing.
use mathlib.Core.Path.{◌≡◌, refl, sym, ap, ◌∙◌}
use mathlib.Core.Bool.{true}
use mathlib.Core.List.{List, [], ◌∷◌, ◌++◌}
use Prim.Native.Nat.{ℕ, ◌+◌, ◌*◌, ◌≤◌, ◌<◌}
use native.Mathlib.Omega.{arith}
use lib.ListN.{length, get_or, take, drop, length-drop, take-append-drop}
use lib.Seq.{length-take-le}
use borrow.Author.Tests.{eq-eqb, lt-ltb}
use Rattle.symbol.specs.declared.special.Special.{Special}
use Rattle.symbol.specs.declared.special.Special.TheVariants.{K28_5, K29_7}
use Rattle.symbol.specs.Character.{characters, number_of}
use Rattle.span.specs.declared.content.ContentBytes.{ContentBytes}
use Rattle.span.specs.declared.format.Shape.{Shape}
use Rattle.span.specs.Format.{streams, pairs_in, symbols_in, eav_at}
use Rattle.span.specs.Span.{bytes}
use Rattle.span.specs.Layout.{eav_start}
use Rattle.span.proofs.Packing.{bytes_append, length_bytes}
use Rattle.span.proofs.Synchronised.{length_both, in_second, kept_byte}
use Rattle.window.specs.Encoded.{chars_of, AreContent}
use Rattle.window.specs.Scan.{fits}
use Rattle.window.proofs.Bytes.{bytes_below}
use Rattle.window.proofs.Placing.{four, each_place}
use Rattle.window.proofs.Symbols.{fits_sav, fits_eav, fits_byte}

-- what stands in place of the first four bytes of an interleaved timing code
abbrev pub replacing : Special → ℕ → ℕ → List ℕ
replacing k content1 content2 = number_of k ∷ number_of k ∷ content1 ∷ content2 ∷ []

module _ (p : Shape) (some : 1 ≤ p.stream_pairs) (c : ContentBytes) (words : List ℕ) (long : length words ≡ 2 * pairs_in p) where
  -- the words before the EAV, and those from it on
  abbrev before : List ℕ
  before = take (eav_start * streams p) words

  abbrev behind : List ℕ
  behind = drop (eav_start * streams p) words

  length_before : length before ≡ 2 * (p.stream_pairs * eav_start)
  length_before = length-take-le (eav_start * streams p) words (omega (arith, long)) ∙ omega arith

  -- their bytes
  bytes_before : length (bytes before) ≡ eav_at p
  bytes_before = length_bytes (p.stream_pairs * eav_start) before length_before ∙ omega arith

  bytes_behind : length (bytes behind) ≡ 3 * (p.stream_pairs * (8 + p.ancillary) + p.fill_pairs)
  bytes_behind =
      length_bytes (p.stream_pairs * (8 + p.ancillary) + p.fill_pairs) behind (length-drop (eav_start * streams p) words ∙ omega (arith, long))

  bytes_parts : bytes words ≡ bytes before ++ bytes behind
  bytes_parts =
      ap bytes (sym (take-append-drop (eav_start * streams p) words)) ∙ bytes_append (p.stream_pairs * eav_start) before behind length_before

  -- as many characters as there are symbols in a span
  pub length_chars : length (chars_of p c words) ≡ symbols_in p
  unfolding chars_of
  length_chars =
      length_both c (bytes before) (bytes behind) (eav_at p) bytes_before (omega arith) (omega (arith, bytes_behind))
      ∙ omega (arith, bytes_behind)

  abbrev char_at : ℕ → ℕ
  char_at i = get_or (chars_of p c words) i 0

  -- the first four of the SAV
  pub char_sav : (i : ℕ) → i < 4 → char_at i ≡ get_or (replacing K28_5 c.sav1 c.sav2) i 0
  unfolding chars_of
  char_sav = four (λ i. char_at i ≡ get_or (replacing K28_5 c.sav1 c.sav2) i 0) refl refl refl refl

  -- the first four of the EAV
  pub char_eav : (i : ℕ) → i < 4 → char_at (eav_at p + i) ≡ get_or (replacing K29_7 c.eav1 c.eav2) i 0
  unfolding chars_of
  char_eav =
      let there = in_second c (bytes before) (bytes behind) (eav_at p) bytes_before (omega arith) in
      four (λ i. char_at (eav_at p + i) ≡ get_or (replacing K29_7 c.eav1 c.eav2) i 0) (there 0) (there 1) (there 2) (there 3)

  -- every other is a byte of the words
  pub char_byte : (i : ℕ) → 4 ≤ i → (eav_at p ≤ i → eav_at p + 4 ≤ i) → char_at i ≡ get_or (bytes words) i 0
  unfolding chars_of
  char_byte i past q =
      kept_byte c (bytes before) (bytes behind) (eav_at p) bytes_before (omega arith) i past q
      ∙ ap (λ (l : List ℕ). get_or l i 0) (sym bytes_parts)

  -- all are characters, each of the kind that stands at its place
  module _ (good : AreContent c) where
    pub chars_below : (i : ℕ) → char_at i < characters
    chars_below =
        each_place (eav_at p)
        (λ i h.
        rw (char_sav i h)
        (four (λ j. get_or (replacing K28_5 c.sav1 c.sav2) j 0 < characters)
        (omega arith) (omega arith) (omega (arith, good.sav1)) (omega (arith, good.sav2)) i h))
        (λ i h.
        rw (char_eav i h)
        (four (λ j. get_or (replacing K29_7 c.eav1 c.eav2) j 0 < characters)
        (omega arith) (omega arith) (omega (arith, good.eav1)) (omega (arith, good.eav2)) i h))
        (λ i past q. rw (char_byte i past q) (omega (arith, bytes_below words i)))

    -- K28.5 twice, K29.7 twice, and else bytes
    sav_fits : (i : ℕ) → i < 2 → char_at i ≡ number_of K28_5 → fits p i (char_at i) ≡ true
    sav_fits i h e = fits_sav p i (char_at i) h ∙ eq-eqb (char_at i) (number_of K28_5) e

    eav_fits : (i : ℕ) → i < 2 → char_at (eav_at p + i) ≡ number_of K29_7 → fits p (eav_at p + i) (char_at (eav_at p + i)) ≡ true
    eav_fits i h e =
        fits_eav p (eav_at p + i) (char_at (eav_at p + i)) (omega arith) (omega arith) (omega arith)
        ∙ eq-eqb (char_at (eav_at p + i)) (number_of K29_7) e

    byte_fits : (i b : ℕ) → 2 ≤ i → (eav_at p ≤ i → eav_at p + 2 ≤ i) → char_at i ≡ b → b < 256 → fits p i (char_at i) ≡ true
    byte_fits i b past q e h = fits_byte p i (char_at i) past q ∙ rw e (lt-ltb b 256 h)

    pub chars_fit : (i : ℕ) → fits p i (char_at i) ≡ true
    chars_fit =
        each_place (eav_at p)
        (four (λ i. fits p i (char_at i) ≡ true)
        (sav_fits 0 (omega arith) (char_sav 0 (omega arith)))
        (sav_fits 1 (omega arith) (char_sav 1 (omega arith)))
        (byte_fits 2 c.sav1 (omega arith) (λ l. omega arith) (char_sav 2 (omega arith)) good.sav1)
        (byte_fits 3 c.sav2 (omega arith) (λ l. omega arith) (char_sav 3 (omega arith)) good.sav2))
        (four (λ i. fits p (eav_at p + i) (char_at (eav_at p + i)) ≡ true)
        (eav_fits 0 (omega arith) (char_eav 0 (omega arith)))
        (eav_fits 1 (omega arith) (char_eav 1 (omega arith)))
        (byte_fits (eav_at p + 2) c.eav1 (omega arith) (λ l. omega arith) (char_eav 2 (omega arith)) good.eav1)
        (byte_fits (eav_at p + 3) c.eav2 (omega arith) (λ l. omega arith) (char_eav 3 (omega arith)) good.eav2))
        (λ i past q.
        byte_fits i (get_or (bytes words) i 0) (omega arith) (λ l. omega (arith, q l)) (char_byte i past q) (bytes_below words i))
