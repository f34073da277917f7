-- Two words and three bytes: each way undoes the other, and no other words have the same bytes.
-- Assumes nothing.
use mathlib.Core.Path.{◌≡◌, refl, ◌∙◌}
use mathlib.Core.Bool.{Bool, true, ◌&&◌}
use mathlib.Core.Logic.{◌⊎◌}
use mathlib.Core.Option.{some}
use Prim.Native.Nat.{ℕ, ◌+◌, ◌*◌, ◌/◌, ◌%◌, ◌≤◌, ◌<◌}
use native.Mathlib.Omega.{arith}
use lib.Dec.{eqb}
use borrow.Author.Tests.{eqb-true, eq-eqb}
use Rattle.ground.specs.Answer.{refused, given}
use Rattle.ground.specs.Search.{first_below}
use Rattle.ground.proofs.Searches.{is_only}
use Rattle.ground.proofs.Tests.{both_left, both_right}
use Rattle.packing.specs.declared.bytes.ThreeBytes.{ThreeBytes}
use Rattle.packing.specs.Bytes.{bytes_of, same_bytes, unpacked, packed_of}
use Rattle.word.proofs.Words.{both_words, not_both_words}

-- a byte and four bits above it
high_bits : (x k : ℕ) → x < 256 → k < 16 → (x + k * 256) / 256 % 16 ≡ k
high_bits x k h l = omega arith

high_byte : (k x : ℕ) → k < 16 → x < 256 → (k + x * 16) / 16 % 256 ≡ x
high_byte k x h l = omega arith

join_byte : (a : ℕ) → a < 4096 → a % 256 + a / 256 % 16 * 256 ≡ a
join_byte a h = omega arith

-- four bits and a byte above them
join_bits : (b : ℕ) → b < 4096 → b % 16 + b / 16 % 256 * 16 ≡ b
join_bits b h = omega arith

-- each of the three is a byte
pub record AreBytes (t : ThreeBytes) : Type 0 where
  pub first_below : t.first < 256
  pub second_below : t.second < 256
  pub third_below : t.third < 256

module _ (t : ThreeBytes) (h : AreBytes t) where
  abbrev word_a : ℕ
  word_a = t.first + t.second % 16 * 256

  abbrev word_b : ℕ
  word_b = t.second / 16 + t.third * 16

  abbrev at : ℕ
  at = word_b * 4096 + word_a

  abbrev test : ℕ → Bool
  test n = same_bytes (bytes_of (n % 4096) (n / 4096)) t

  first_word : at % 4096 ≡ word_a
  first_word = omega (arith, h.first_below)

  second_word_lem : at / 4096 ≡ word_b
  second_word_lem = omega (arith, h.first_below)

  whole : bytes_of word_a word_b ≡ t
  unfolding bytes_of
  whole =
      let a : (bytes_of word_a word_b).first ≡ t.first = omega (arith, h.first_below) in
      let low : word_b % 16 ≡ t.second / 16 = omega (arith, h.second_below) in
      let high : word_a / 256 % 16 ≡ t.second % 16 = high_bits t.first (t.second % 16) h.first_below (omega arith) in
      let b : (bytes_of word_a word_b).second ≡ t.second = omega (arith, low, high) in
      let c : (bytes_of word_a word_b).third ≡ t.third = high_byte (t.second / 16) t.third (omega (arith, h.second_below)) h.third_below in
      rw (a, b, c)

  found : test at ≡ true
  found =
      rw (first_word, second_word_lem, whole)
      (simp (eq-eqb t.first t.first refl, eq-eqb t.second t.second refl, eq-eqb t.third t.third refl))

  only : (n : ℕ) → n < 16777216 → test n ≡ true → n ≡ at
  unfolding bytes_of
  only n l e =
      let s = bytes_of (n % 4096) (n / 4096) in
      let r = both_right (eqb s.first t.first) (eqb s.second t.second && eqb s.third t.third) e in
      let a : n % 4096 % 256 ≡ t.first = eqb-true s.first t.first (both_left (eqb s.first t.first) (eqb s.second t.second && eqb s.third t.third) e) in
      let b : n / 4096 % 16 * 16 + n % 4096 / 256 % 16 ≡ t.second = eqb-true s.second t.second (both_left (eqb s.second t.second) (eqb s.third t.third) r) in
      let c : n / 4096 / 16 % 256 ≡ t.third = eqb-true s.third t.third (both_right (eqb s.second t.second) (eqb s.third t.third) r) in
      omega arith

  -- the words of three bytes, worked out
  pub words_are : unpacked t ≡ record { a = word_a; b = word_b }
  unfolding unpacked
  words_are =
      let e : first_below 16777216 test ≡ some at =
      is_only test 16777216 at (omega (arith, h.first_below, h.second_below, h.third_below)) found only in
      simp (e, first_word, second_word_lem)

  -- and out of all of them as one number
  pub words_together : {n : ℕ} → n ≡ t.first + t.second * 256 + t.third * 65536 → unpacked t ≡ record { a = n % 4096; b = n / 4096 }
  words_together {n} e =
      let a : word_a ≡ n % 4096 = omega (arith, h.first_below, h.second_below, h.third_below) in
      let b : word_b ≡ n / 4096 = omega (arith, h.first_below, h.second_below, h.third_below) in
      rw (words_are, a, b)

  pub pack_unpack : bytes_of (unpacked t).a (unpacked t).b ≡ t
  pack_unpack = rw words_are whole

pub are_bytes : (a b : ℕ) → AreBytes (bytes_of a b)
unfolding bytes_of
are_bytes a b = record { first_below = omega arith; second_below = omega arith; third_below = omega arith }

module _ (a b : ℕ) (p : a < 4096) (q : b < 4096) where
  pub unpack_pack : unpacked (bytes_of a b) ≡ record { a = a; b = b }
  unfolding bytes_of
  unpack_pack =
      let high : (b % 16 * 16 + a / 256 % 16) % 16 ≡ a / 256 % 16 = omega arith in
      let low : (b % 16 * 16 + a / 256 % 16) / 16 ≡ b % 16 = omega arith in
      let x : a % 256 + (b % 16 * 16 + a / 256 % 16) % 16 * 256 ≡ a = omega (arith, high, join_byte a p) in
      let y : (b % 16 * 16 + a / 256 % 16) / 16 + b / 16 % 256 * 16 ≡ b = omega (arith, low, join_bits b q) in
      words_are (bytes_of a b) (are_bytes a b) ∙ rw (x, y)

-- two words are packed, and nothing else is
pub packs : (a b : ℕ) → a ≤ 4095 → b ≤ 4095 → packed_of a b ≡ given (bytes_of a b)
packs a b p q = simp (both_words a b p q)

pub pack_meets_7 : (a b : ℕ) → (4095 < a) ⊎ (4095 < b) → packed_of a b ≡ refused 7 0
pack_meets_7 a b h = simp (not_both_words a b h)
