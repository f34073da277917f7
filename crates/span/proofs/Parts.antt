-- A span part by part: K28.5 K28.5, two content bytes, the SAV's other bytes, the picture; K29.7 K29.7, two content bytes, the EAV's other
-- bytes, line number, CRCC, ancillary area, fill.
-- Assumes nothing.
use mathlib.Core.Path.{◌≡◌, refl, ap, ◌∙◌}
use mathlib.Core.List.{List, ◌∷◌, ◌++◌, append_assoc}
use Prim.Native.Nat.{ℕ, ◌+◌, ◌*◌, ◌≤◌}
use native.Mathlib.Omega.{arith}
use lib.ListN.{length, get_or, replicate, get_or-replicate}
use Rattle.ground.specs.Written.{upto}
use Rattle.ground.proofs.Writing.{upto_same, upto_again}
use Rattle.packing.specs.Bytes.{bytes_of}
use lib.Seq.{drop-append-le}
use Rattle.symbol.specs.declared.special.Special.{Special}
use Rattle.symbol.specs.Character.{number_of}
use Rattle.symbol.specs.declared.special.Special.TheVariants.{K28_5, K29_7}
use Rattle.span.specs.declared.content.ContentBytes.{ContentBytes}
use Rattle.span.specs.declared.format.Format.{Format}
use Rattle.span.specs.Content.{content_of}
use Rattle.span.specs.Format.{shape_of, streams}
use Rattle.span.specs.Sample.{blank_word}
use Rattle.span.specs.Span.{interleaved, fill_word, words_from_sav, words_from_eav, bytes_listed, bytes, synchronised, chars_from_sav, chars_from_eav}
use Rattle.span.specs.Stream.{Request, sav, picture, eav, line_number, crcc, ancillary, from_eav}
use Rattle.span.proofs.Interleaving.{length_interleaved, interleaved_append}
use Rattle.span.proofs.Packing.{bytes_append, length_bytes, bytes_interleaved}

module _ (half : ℕ) where
  -- the words of a part that is first, and then those of what follows
  first_part : (m n : ℕ) (xs ys : ℕ → List ℕ) → ((t : ℕ) → length (xs t) ≡ m)
      → bytes (interleaved (2 * half) (m + n) (λ t. xs t ++ ys t)) ≡ bytes (interleaved (2 * half) m xs) ++ bytes (interleaved (2 * half) n ys)
  first_part m n xs ys sized =
      ap bytes (interleaved_append (2 * half) m n xs ys sized)
      ∙ bytes_append (half * m) (interleaved (2 * half) m xs) (interleaved (2 * half) n ys) (length_interleaved (2 * half) m xs ∙ omega arith)

  -- four bytes of a timing code are replaced, and what follows it stays
  synchronised_first : 1 ≤ half → (k : Special) (c1 c2 : ℕ) (code : List ℕ) (rest : List ℕ)
      → synchronised k c1 c2 (bytes (interleaved (2 * half) 4 (λ _. code)) ++ rest)
      ≡ synchronised k c1 c2 (bytes (interleaved (2 * half) 4 (λ _. code))) ++ rest
  synchronised_first some k c1 c2 code rest =
      let words : List ℕ = interleaved (2 * half) 4 (λ _. code) in
      let long : length (bytes words) ≡ 3 * (half * 4) = length_bytes (half * 4) words (length_interleaved (2 * half) 4 (λ _. code) ∙ omega arith) in
      ap (λ (l : List ℕ). number_of k ∷ number_of k ∷ c1 ∷ c2 ∷ l) (drop-append-le 4 (bytes words) rest (omega (arith, long)))

module _ (f : Format) (a : Request) (some : 1 ≤ (shape_of f).stream_pairs) where
  abbrev s : ℕ
  s = streams (shape_of f)

  abbrev half : ℕ
  half = (shape_of f).stream_pairs

  abbrev content : ContentBytes
  content = content_of f a.content

  pub parts_from_sav : chars_from_sav f a
      ≡ synchronised K28_5 content.sav1 content.sav2 (bytes (interleaved s 4 (λ _. sav a))) ++ bytes (interleaved s 1920 (picture f a))
  unfolding chars_from_sav words_from_sav
  parts_from_sav =
      ap (synchronised K28_5 content.sav1 content.sav2) (first_part half 4 1920 (λ _. sav a) (picture f a) (λ t. refl))
      ∙ synchronised_first half some K28_5 content.sav1 content.sav2 (sav a) (bytes (interleaved s 1920 (picture f a)))

  -- what stands after the EAV
  abbrev behind_eav : List ℕ
  behind_eav =
      bytes (interleaved s 2 (λ _. line_number a))
      ++ (bytes (interleaved s 2 (crcc f a))
      ++ (bytes (interleaved s (shape_of f).ancillary (ancillary f a.line)) ++ bytes (replicate (2 * (shape_of f).fill_pairs) fill_word)))

  bytes_from_eav : bytes (words_from_eav f a) ≡ bytes (interleaved s 4 (λ _. eav a)) ++ behind_eav
  unfolding words_from_eav
  bytes_from_eav =
      let n = (shape_of f).ancillary in
      let count : 8 + n ≡ 4 + (2 + (2 + n)) = omega arith in
      let whole = interleaved s (8 + n) (from_eav f a) in
      let code = bytes (interleaved s 4 (λ _. eav a)) in
      let number = bytes (interleaved s 2 (λ _. line_number a)) in
      let sum = bytes (interleaved s 2 (crcc f a)) in
      let area = bytes (interleaved s n (ancillary f a.line)) in
      let fill = replicate (2 * (shape_of f).fill_pairs) fill_word in
      bytes_append (half * (8 + n)) whole fill (length_interleaved s (8 + n) (from_eav f a) ∙ omega arith)
      ∙ ap (λ (l : List ℕ). l ++ bytes fill)
      (ap (λ (k : ℕ). bytes (interleaved s k (from_eav f a))) count
      ∙ first_part half 4 (2 + (2 + n)) (λ _. eav a) (λ t. line_number a ++ (crcc f a t ++ ancillary f a.line t)) (λ t. refl)
      ∙ ap (λ (l : List ℕ). code ++ l)
      (first_part half 2 (2 + n) (λ _. line_number a) (λ t. crcc f a t ++ ancillary f a.line t) (λ t. refl)
      ∙ ap (λ (l : List ℕ). number ++ l) (first_part half 2 n (crcc f a) (ancillary f a.line) (λ t. refl))))
      ∙ append_assoc code (number ++ (sum ++ area)) (bytes fill)
      ∙ ap (λ (l : List ℕ). code ++ l)
      (append_assoc number (sum ++ area) (bytes fill) ∙ ap (λ (l : List ℕ). number ++ l) (append_assoc sum area (bytes fill)))

  pub parts_from_eav : chars_from_eav f a
      ≡ synchronised K29_7 content.eav1 content.eav2 (bytes (interleaved s 4 (λ _. eav a))) ++ behind_eav
  unfolding chars_from_eav
  parts_from_eav =
      ap (synchronised K29_7 content.eav1 content.eav2) bytes_from_eav
      ∙ synchronised_first half some K29_7 content.eav1 content.eav2 (eav a) behind_eav

-- the ancillary area is blanking throughout
pub blank_area : (f : Format) (n : ℕ)
    → bytes (interleaved (streams (shape_of f)) (shape_of f).ancillary (ancillary f n))
    ≡ upto ((shape_of f).stream_pairs * (shape_of f).ancillary) (λ _. bytes_listed (bytes_of (blank_word f) (blank_word f)))
unfolding ancillary
blank_area f n =
    let half : ℕ = (shape_of f).stream_pairs in
    let many : ℕ = (shape_of f).ancillary in
    bytes_interleaved half many (ancillary f n)
    ∙ upto_same many
    (λ j. upto half (λ u. bytes_listed (bytes_of (get_or (ancillary f n (2 * u)) j 0) (get_or (ancillary f n (2 * u + 1)) j 0))))
    (λ _. upto half (λ _. bytes_listed (bytes_of (blank_word f) (blank_word f))))
    (λ j h.
    ap (λ (w : ℕ). upto half (λ _. bytes_listed (bytes_of w w))) (get_or-replicate many j (blank_word f) 0 h))
    ∙ upto_again half many (bytes_listed (bytes_of (blank_word f) (blank_word f)))
