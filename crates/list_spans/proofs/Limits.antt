-- How many symbols are read of an input, in the paper's numbers.
-- Assumes nothing.
use mathlib.Core.Path.{◌≡◌, refl, sym, ap, ap₂, ◌∙◌}
use mathlib.Core.Bool.{Bool, true, cond}
use mathlib.Core.List.{List}
use Prim.Native.Nat.{ℕ, ◌+◌, ◌*◌, ◌≤◌, ◌<◌}
use native.Mathlib.Omega.{arith}
use lib.Dec.{ltb}
use lib.ListN.{length, get_or, take, drop, length-take, length-drop}
use lib.Seq.{get_or-take, get_or-drop}
use borrow.Author.Tests.{lt-ltb, le-ltb, ltb-true, ltb-false}
use Rattle.ground.proofs.Cases.{on_test}
use Rattle.ground.proofs.Writing.{table_same}
use Rattle.span.specs.declared.format.Format.{Format}
use Rattle.span.specs.Format.{plain_format, is_known}
use Rattle.recording.specs.Recording.{delivery_from}
use Rattle.text.specs.Words.{count_of, word_in_bytes, words_in_bytes}
use Rattle.list_spans.specs.Listing.{lines_of, refused_format, format_in, most_symbols, recorded_in, span_listing}
use Rattle.list_spans.proofs.Listings.{known}

module _ (input : List ℕ) where
  -- so many symbols are read
  reads : (n : ℕ) → 2 ≤ length input → count_of most_symbols (length (drop 2 input)) ≡ n → is_known (format_in input) ≡ true
      → span_listing input ≡ lines_of (delivery_from (format_in input) (words_in_bytes n (drop 2 input)) 0)
  reads n enough e t =
      known input enough refl t
      ∙ ap (λ (k : ℕ). lines_of (delivery_from (format_in input) (words_in_bytes k (drop 2 input)) 0)) e

  module _ (n : ℕ) (h : n ≤ 32767) where
    pub every_symbol : length input ≡ 2 + 2 * n → is_known (format_in input) ≡ true
        → span_listing input ≡ lines_of (delivery_from (format_in input) (words_in_bytes n (drop 2 input)) 0)
    every_symbol e t = reads n (omega arith) (omega (arith, length-drop 2 input)) t

    pub odd_byte : length input ≡ 2 + 2 * n + 1 → is_known (format_in input) ≡ true
        → span_listing input ≡ lines_of (delivery_from (format_in input) (words_in_bytes n (drop 2 input)) 0)
    odd_byte e t = reads n (omega arith) (omega (arith, length-drop 2 input)) t

  pub no_more : 65536 ≤ length input → is_known (format_in input) ≡ true
      → span_listing input ≡ lines_of (delivery_from (format_in input) (words_in_bytes 32767 (drop 2 input)) 0)
  no_more h t = reads 32767 (omega arith) (omega (arith, length-drop 2 input)) t

  -- ---- what follows 65,536 bytes

  abbrev most : List ℕ
  most = take 65536 input

  same_short : ltb (length most) 2 ≡ ltb (length input) 2
  same_short =
      on_test (ltb (length input) 2)
      (λ t. lt-ltb (length most) 2 (omega (arith, length-take 65536 input, ltb-true (length input) 2 t)) ∙ sym t)
      (λ t. le-ltb (length most) 2 (omega (arith, length-take 65536 input, ltb-false (length input) 2 t)) ∙ sym t)

  same_format : format_in most ≡ format_in input
  same_format = ap₂ plain_format (get_or-take 65536 input 0 0 (omega arith)) (get_or-take 65536 input 1 0 (omega arith))

  same_byte : (i : ℕ) → i < 65534 → get_or (drop 2 most) i 0 ≡ get_or (drop 2 input) i 0
  same_byte i h = get_or-drop 2 most i 0 ∙ get_or-take 65536 input (2 + i) 0 (omega arith) ∙ sym (get_or-drop 2 input i 0)

  same_symbols : recorded_in (drop 2 most) ≡ recorded_in (drop 2 input)
  same_symbols =
      let count : count_of most_symbols (length (drop 2 most)) ≡ count_of most_symbols (length (drop 2 input)) =
      omega (arith, length-drop 2 most, length-take 65536 input, length-drop 2 input) in
      ap (λ (k : ℕ). words_in_bytes k (drop 2 most)) count
      ∙ table_same (count_of most_symbols (length (drop 2 input))) (word_in_bytes (drop 2 most)) (word_in_bytes (drop 2 input))
      (λ k h. ap₂ (λ (low high : ℕ). low + high * 256) (same_byte (2 * k) (omega arith)) (same_byte (2 * k + 1) (omega arith)))

  pub ignored : span_listing most ≡ span_listing input
  ignored =
      ap (λ (b : Bool). cond b refused_format (cond (is_known (format_in most)) (lines_of (delivery_from (format_in most) (recorded_in (drop 2 most)) 0)) refused_format)) same_short
      ∙ ap₂ (λ (f : Format) (l : List ℕ). cond (ltb (length input) 2) refused_format (cond (is_known f) (lines_of (delivery_from f l 0)) refused_format)) same_format same_symbols
