-- How many words are listed, in the paper's numbers.
-- Assumes nothing.
use mathlib.Core.Path.{◌≡◌, ap, ap₂, ◌∙◌}
use mathlib.Core.List.{List}
use Prim.Native.Nat.{ℕ, ◌+◌, ◌*◌, ◌≤◌}
use native.Mathlib.Omega.{arith}
use lib.ListN.{length, take, length-take}
use lib.Seq.{get_or-take}
use Rattle.ground.proofs.Writing.{upto_same}
use Rattle.text.specs.Words.{word_in_bytes}
use Rattle.list_repairs.specs.Text.{repair_line, word_count, repair_lines, repair_listing}
use Rattle.list_repairs.proofs.Lines.{listed_most}

module _ (input : List ℕ) where
  pub every_word : (n : ℕ) → n ≤ 32768 → length input ≡ 2 * n → repair_listing input ≡ repair_lines input n
  every_word n h e = let all : word_count (length input) ≡ n = omega arith in ap (repair_lines input) all

  pub odd_byte : (n : ℕ) → n ≤ 32768 → length input ≡ 2 * n + 1 → repair_listing input ≡ repair_lines input n
  odd_byte n h e = let all : word_count (length input) ≡ n = omega arith in ap (repair_lines input) all

  pub no_more : 65536 ≤ length input → repair_listing input ≡ repair_lines input 32768
  no_more h = let all : word_count (length input) ≡ 32768 = omega arith in ap (repair_lines input) all

  pub ignored : repair_listing (take 65536 input) ≡ repair_listing input
  ignored =
      let same : word_count (length (take 65536 input)) ≡ word_count (length input) = omega (arith, length-take 65536 input) in
      ap (repair_lines (take 65536 input)) same
      ∙ upto_same (word_count (length input)) _ (λ k. repair_line k (word_in_bytes input k))
      (λ k h.
      ap₂ (λ (low high : ℕ). repair_line k (low + high * 256)) (get_or-take 65536 input (2 * k) 0 (omega arith))
      (get_or-take 65536 input (2 * k + 1) 0 (omega arith)))

  pub fits : length (repair_listing input) ≤ 688128
  fits = omega (arith, listed_most input (word_count (length input)) (omega arith))
