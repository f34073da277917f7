-- The bytes and words of a window: what is a byte and what a word, and that the bytes of its words are its bytes again.
-- Assumes nothing.
use mathlib.Core.Path.{◌≡◌, refl, sym, ap, ap₂, ◌∙◌}
use mathlib.Core.Bool.{Bool, true, false, cond}
use mathlib.Core.List.{List, [], ◌∷◌}
use Prim.Native.Nat.{ℕ, zero, suc, ◌+◌, ◌-◌, ◌*◌, ◌/◌, ◌%◌, ◌≤◌, ◌<◌}
use native.Mathlib.Omega.{arith}
use lib.Dec.{eqb, ltb}
use lib.ListN.{get_or}
use borrow.Author.Tests.{eq-eqb, ne_eqb, lt-ltb, le-ltb}
use Rattle.ground.specs.Range.{within}
use Rattle.ground.specs.Written.{table}
use Rattle.ground.proofs.Ranges.{is_within, not_within}
use Rattle.ground.proofs.Writing.{length_table, get_d_table}
use Rattle.span.specs.declared.format.Shape.{Shape}
use Rattle.span.specs.Format.{streams, pairs_in, symbols_in, eav_at}
use Rattle.span.specs.Span.{bytes_listed, bytes}
use Rattle.span.proofs.Packing.{byte_at_lem}
use Rattle.packing.specs.declared.bytes.ThreeBytes.{ThreeBytes}
use Rattle.packing.specs.Bytes.{bytes_of, unpacked}
use Rattle.packing.proofs.Packing.{AreBytes, words_are, pack_unpack, are_bytes}
use Rattle.window.specs.Scan.{byte_of, symbol_at}
use Rattle.window.specs.Words.{fixed_byte, byte_at, pair_at, word_at}

-- what words give is bytes
pub bytes_below : (words : List ℕ) (i : ℕ) → get_or (bytes words) i 0 < 256
unfolding bytes
bytes_below [] i = omega arith
bytes_below (a ∷ []) i = omega arith
bytes_below (a ∷ b ∷ words) zero = (are_bytes a b).first_below
bytes_below (a ∷ b ∷ words) (suc zero) = (are_bytes a b).second_below
bytes_below (a ∷ b ∷ words) (suc (suc zero)) = (are_bytes a b).third_below
bytes_below (a ∷ b ∷ words) (suc (suc (suc i))) = bytes_below words i

fixed_below : (s i : ℕ) → fixed_byte s i < 256
unfolding fixed_byte
fixed_below s i = bytes_below _ i

either_below : (t : Bool) (n x y : ℕ) → x < n → y < n → cond t x y < n
either_below true n x y p q = p
either_below false n x y p q = q

-- what three bytes give is words of twelve bits
words_below : (t : ThreeBytes) → AreBytes t → ((unpacked t).a < 4096) × ((unpacked t).b < 4096)
words_below t h = rw (words_are t h) (omega (arith, h.first_below), omega (arith, h.second_below, h.third_below))

module _ (p : Shape) (w : List ℕ) where
  -- the first four bytes of SAV and EAV are fixed, and every other is that of its symbol
  pub byte_sav : (i : ℕ) → i < 4 → byte_at p w i ≡ fixed_byte (streams p) i
  unfolding byte_at
  byte_sav i h = rw (lt-ltb i 4 h)

  pub byte_eav : 1 ≤ p.stream_pairs → (i : ℕ) → i < 4 → byte_at p w (eav_at p + i) ≡ fixed_byte (streams p) i
  unfolding byte_at
  byte_eav some i h =
      let far : 4 ≤ eav_at p + i = omega arith in
      let back : eav_at p + i - eav_at p ≡ i = omega arith in
      rw (le-ltb (eav_at p + i) 4 far, is_within (eav_at p) (eav_at p + 3) (eav_at p + i) (omega arith) (omega arith), back)

  pub byte_else : (i : ℕ) → 4 ≤ i → (eav_at p ≤ i → eav_at p + 4 ≤ i) → byte_at p w i ≡ byte_of (symbol_at w i)
  unfolding byte_at
  byte_else i h q = rw (le-ltb i 4 h, not_within (eav_at p) (eav_at p + 3) i (λ l m. omega (arith, q l)))

  -- each byte of a window is one
  pub byte_below : (i : ℕ) → byte_at p w i < 256
  unfolding byte_at
  byte_below i =
      either_below (ltb i 4) 256 (fixed_byte (streams p) i) _ (fixed_below (streams p) i)
      (either_below (within (eav_at p) (eav_at p + 3) i) 256 (fixed_byte (streams p) (i - eav_at p)) (byte_of (symbol_at w i))
      (fixed_below (streams p) (i - eav_at p)) (omega arith))

  abbrev three : ℕ → ThreeBytes
  three q = record { first = byte_at p w (3 * q); second = byte_at p w (3 * q + 1); third = byte_at p w (3 * q + 2) }

  three_bytes : (q : ℕ) → AreBytes (three q)
  three_bytes q =
      record {
        first_below = byte_below (3 * q);
        second_below = byte_below (3 * q + 1);
        third_below = byte_below (3 * q + 2);
      }

  -- each word is below 4096
  pub word_below : (k : ℕ) → word_at p w k < 4096
  unfolding word_at pair_at
  word_below k =
      let h = words_below (three (k / 2)) (three_bytes (k / 2)) in
      either_below (eqb (k % 2) 0) 4096 (pair_at p w (k / 2)).a (pair_at p w (k / 2)).b h.0 h.1

  -- the two words of pair q
  first_word : (q : ℕ) → word_at p w (2 * q) ≡ (pair_at p w q).a
  unfolding word_at
  first_word q =
      let e : 2 * q % 2 ≡ 0 = omega arith in
      let h : 2 * q / 2 ≡ q = omega arith in
      rw (h, eq-eqb (2 * q % 2) 0 e)

  second_word_lem : (q : ℕ) → word_at p w (2 * q + 1) ≡ (pair_at p w q).b
  unfolding word_at
  second_word_lem q =
      let e : (2 * q + 1) % 2 ≡ 0 → ⊥ = λ z. omega arith in
      let h : (2 * q + 1) / 2 ≡ q = omega arith in
      rw (h, ne_eqb ((2 * q + 1) % 2) 0 e)

  -- their bytes are those of the window
  pair_bytes : (q : ℕ) → bytes_of (word_at p w (2 * q)) (word_at p w (2 * q + 1)) ≡ three q
  unfolding pair_at
  pair_bytes q = rw (first_word q, second_word_lem q) (pack_unpack (three q) (three_bytes q))

  -- the second word has the third byte above four bits
  pub high_byte : (q : ℕ) → word_at p w (2 * q + 1) / 16 % 256 ≡ byte_at p w (3 * q + 2)
  unfolding bytes_of
  high_byte q = ap (λ (b : ThreeBytes). b.third) (pair_bytes q)

  listed_at : (q i : ℕ) → i < 3 → get_or (bytes_listed (three q)) i 0 ≡ byte_at p w (3 * q + i)
  listed_at q zero h = let e : 3 * q ≡ 3 * q + 0 = omega arith in ap (byte_at p w) e
  listed_at q (suc zero) h = refl
  listed_at q (suc (suc zero)) h = refl
  listed_at q (suc (suc (suc i))) h = absurd (omega arith)

  -- the bytes of all words, one by one
  pub byte_again : (i : ℕ) → i < symbols_in p → get_or (bytes (table (2 * pairs_in p) (word_at p w))) i 0 ≡ byte_at p w i
  byte_again i h =
      let words = table (2 * pairs_in p) (word_at p w) in
      let q = i / 3 in
      let r = i % 3 in
      let e : i ≡ 3 * q + r = omega arith in
      let a : get_or words (2 * q) 0 ≡ word_at p w (2 * q) = get_d_table (2 * pairs_in p) (word_at p w) (2 * q) 0 (omega arith) in
      let b : get_or words (2 * q + 1) 0 ≡ word_at p w (2 * q + 1) = get_d_table (2 * pairs_in p) (word_at p w) (2 * q + 1) 0 (omega arith) in
      ap (λ (k : ℕ). get_or (bytes words) k 0) e
      ∙ byte_at_lem (pairs_in p) words (length_table (2 * pairs_in p) (word_at p w)) q (omega arith) r (omega arith)
      ∙ ap₂ (λ (x y : ℕ). get_or (bytes_listed (bytes_of x y)) r 0) a b
      ∙ ap (λ (t : ThreeBytes). get_or (bytes_listed t) r 0) (pair_bytes q)
      ∙ listed_at q r (omega arith)
      ∙ ap (byte_at p w) (sym e)
