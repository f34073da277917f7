-- How long the lines are, and one line after the other.
-- Assumes nothing.
use mathlib.Core.Path.{◌≡◌, refl, sym, ap₂}
use mathlib.Core.List.{List, [], ◌∷◌, ◌++◌}
use Prim.Native.Nat.{ℕ, zero, suc, ◌+◌, ◌*◌, ◌≤◌, ◌<◌}
use native.Mathlib.Omega.{arith}
use lib.ListN.{length, length-append}
use lib.Seq.{sets}
use Rattle.std.specs.Prelude.{Option, Some, None}
use Rattle.ground.specs.Answer.{Answer, refused, given}
use Rattle.ground.specs.Written.{upto}
use Rattle.ground.proofs.Putting.{Put, then, put_as}
use Rattle.ground.proofs.Writing.{upto_more}
use Rattle.text.specs.Number.{decimal, hexadecimal}
use Rattle.text.specs.Words.{word_in_bytes}
use Rattle.text.proofs.Numbers.{length_digits, places_below, places_most_16}
use Rattle.word.specs.declared.repair.Repaired.{Repaired}
use Rattle.word.specs.Repair.{repair_of}
use Rattle.word.proofs.WrongWords.{near_answered, bit_answered}
use Rattle.list_repairs.specs.Text.{bit_text, outcome, repair_line, repair_lines}

pub index_most : (n : ℕ) → n < 65536 → length (decimal n) ≤ 5
index_most n h = rw length_digits (places_most_16 n h)

one_digit : (n : ℕ) → n ≤ 1 → length (decimal n) ≤ 1
one_digit n h = rw length_digits (places_below n 1 (omega arith) (omega arith))

-- a bit below 12 has two digits at most
bit_most : (b : Option ℕ) → ((k : ℕ) → b ≡ Some k → k < 12) → length (bit_text b) ≤ 2
bit_most None h = omega arith
bit_most (Some k) h = rw length_digits (places_below k 2 (omega arith) (omega (arith, h k refl)))

-- what is printed of a word that was repaired: one digit for the distance, and at most two for the bit
pub record Short (r : Repaired) : Type 0 where
  pub distance : length (decimal r.distance) ≤ 1
  pub bit : length (bit_text r.bit) ≤ 2

pub is_short_lem : (w : ℕ) (r : Repaired) → repair_of w ≡ given r → Short r
is_short_lem w r e =
    record {
      distance = one_digit r.distance (near_answered w r e);
      bit = bit_most r.bit (λ k q. (bit_answered w r e k q).0);
    }

outcome_most : (a : Answer Repaired) → ((r : Repaired) → a ≡ given r → Short r) → length (outcome a) ≤ 10
outcome_most (given r) h = let s = h r refl in simp length-append (omega (arith, s.distance, s.bit))
outcome_most (refused number place) h = omega arith

-- what stands before it in its line
abbrev pub line_start : ℕ → ℕ → List ℕ
line_start index w = decimal index ++ (32 ∷ []) ++ hexadecimal w ++ (32 ∷ [])

pub start_most : (index w : ℕ) → index < 65536 → length (line_start index w) ≤ 11
start_most index w h = simp length-append (omega (arith, index_most index h))

pub line_most : (index w : ℕ) → index < 65536 → length (repair_line index w) ≤ 21
line_most index w h =
    rw (length-append (line_start index w) (outcome (repair_of w)))
    (omega (arith, start_most index w h, outcome_most (repair_of w) (is_short_lem w)))

-- ---- one line after the other

module _ (input : List ℕ) where
  pub none_listed : (out : List ℕ) → Put out out 0 0 (repair_lines input 0)
  unfolding upto
  none_listed out = record { written = refl; ends = refl }

  -- a line more, of the word that comes next
  pub one_more : {out₀ out out₁ : List ℕ} {at end index w : ℕ} (i : ℕ) → Put out₀ out 0 at (repair_lines input i)
      → end ≡ at + length (repair_line index w) → out₁ ≡ sets out at (repair_line index w) → index ≡ i → w ≡ word_in_bytes input i
      → Put out₀ out₁ 0 end (repair_lines input (i + 1))
  one_more {out₀} {out} {out₁} {at} {end} {index} {w} i f ends written p q =
      let g : Put out out₁ at end (repair_line index w) = record { written = written; ends = ends } in
      put_as (sym (upto_more i (λ k. repair_line k (word_in_bytes input k)))) (then f (put_as (ap₂ repair_line p q) g))

  pub listed_most : (i : ℕ) → i ≤ 32768 → length (repair_lines input i) ≤ 21 * i
  unfolding upto
  listed_most zero h = omega arith
  listed_most (suc i) h =
      rw (length-append (repair_lines input i)) (omega (arith, listed_most i (omega arith), line_most i (word_in_bytes input i) (omega arith)))
