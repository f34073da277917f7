-- What holds of the program that lists repairs, in document 01's own numbers ("Values to hold against it"); `proofs/Laws` proves each.
-- Assumes nothing.
use Rattle.std.specs.Prelude.{ℕ, ◌+◌, ◌*◌, ◌≤◌, ◌≡◌, List, [], ◌∷◌, length, take}
use Rattle.list_repairs.specs.Text.{repair_lines, repair_listing}

pub record ListRepairsLaws : Type 0 where
  -- bytes 01 08 03 08 print, whole, "0 0801 0800 1 0" and "1 0803 refused"
  pub example :
      repair_listing (0x01 ∷ 0x08 ∷ 0x03 ∷ 0x08 ∷ [])
      ≡ 48 ∷ 32 ∷ 48 ∷ 56 ∷ 48 ∷ 49 ∷ 32 ∷ 48 ∷ 56 ∷ 48 ∷ 48 ∷ 32 ∷ 49 ∷ 32 ∷ 48 ∷ 10
      ∷ 49 ∷ 32 ∷ 48 ∷ 56 ∷ 48 ∷ 51 ∷ 32 ∷ 114 ∷ 101 ∷ 102 ∷ 117 ∷ 115 ∷ 101 ∷ 100 ∷ 10 ∷ []
  -- bytes 00 08 00 00 print, whole, "0 0800 0800 0 -" and "1 0000 0800 1 11"
  pub example_of_bits :
      repair_listing (0x00 ∷ 0x08 ∷ 0x00 ∷ 0x00 ∷ [])
      ≡ 48 ∷ 32 ∷ 48 ∷ 56 ∷ 48 ∷ 48 ∷ 32 ∷ 48 ∷ 56 ∷ 48 ∷ 48 ∷ 32 ∷ 48 ∷ 32 ∷ 45 ∷ 10
      ∷ 49 ∷ 32 ∷ 48 ∷ 48 ∷ 48 ∷ 48 ∷ 32 ∷ 48 ∷ 56 ∷ 48 ∷ 48 ∷ 32 ∷ 49 ∷ 32 ∷ 49 ∷ 49 ∷ 10 ∷ []
  -- n words, up to 32,768, are listed to the last, and an odd last byte is ignored
  pub every_word : (input : List ℕ) (n : ℕ) → n ≤ 32768 → length input ≡ 2 * n → repair_listing input ≡ repair_lines input n
  pub odd_byte : (input : List ℕ) (n : ℕ) → n ≤ 32768 → length input ≡ 2 * n + 1 → repair_listing input ≡ repair_lines input n
  -- 64 KiB are 65,536 bytes, 32,768 words; all input past them is ignored
  pub no_more : (input : List ℕ) → 65536 ≤ length input → repair_listing input ≡ repair_lines input 32768
  pub ignored : (input : List ℕ) → repair_listing (take 65536 input) ≡ repair_listing input
  -- the buffer of 688,128 bytes has room for all that is printed
  pub fits : (input : List ℕ) → length (repair_listing input) ≤ 688128
