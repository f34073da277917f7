-- What holds of the program that lists spans, in document 01's own numbers ("Values to hold against it"); `proofs/Laws` proves each.
-- Assumes nothing.
use Rattle.std.specs.Prelude.{ℕ, ◌+◌, ◌*◌, ◌≤◌, ◌<◌, ◌≡◌, true, false, List, length, take, drop}
use Rattle.span.specs.Format.{is_known}
use Rattle.recording.specs.Recording.{delivery_from}
use Rattle.text.specs.Words.{words_in_bytes}
use Rattle.list_spans.specs.Listing.{lines_of, refused_format, format_in, span_listing}

-- the lines of the spans in the first n symbols after the bytes of format and depth
abbrev listed : List ℕ → ℕ → List ℕ
listed input n = lines_of (delivery_from (format_in input) (words_in_bytes n (drop 2 input)) 0)

pub record ListSpansLaws : Type 0 where
  -- fewer than two bytes, or an unknown format or depth, print only "refused 1"
  pub short : (input : List ℕ) → length input < 2 → span_listing input ≡ refused_format
  pub unknown : (input : List ℕ) → 2 ≤ length input → is_known (format_in input) ≡ false → span_listing input ≡ refused_format
  -- n symbols, up to 32,767, are read to the last, and an odd last byte is ignored
  pub every_symbol :
      (input : List ℕ) (n : ℕ) → n ≤ 32767 → length input ≡ 2 + 2 * n → is_known (format_in input) ≡ true → span_listing input ≡ listed input n
  pub odd_byte :
      (input : List ℕ) (n : ℕ) → n ≤ 32767 → length input ≡ 2 + 2 * n + 1 → is_known (format_in input) ≡ true → span_listing input ≡ listed input n
  -- 2 + 2 * 32,767 bytes are 65,536; what follows them is ignored
  pub no_more : (input : List ℕ) → 65536 ≤ length input → is_known (format_in input) ≡ true → span_listing input ≡ listed input 32767
  pub ignored : (input : List ℕ) → span_listing (take 65536 input) ≡ span_listing input
