-- Lines in the papers' own numerals (004, 6.1, 6.2 and table 5; document 01, "Dividing a picture" and "A span"); `proofs/Paper` proves each.
-- Assumes nothing.
use Rattle.std.specs.Prelude.{ℕ, ◌+◌, ◌-◌, ◌≤◌, ◌≡◌, true, false}
use Rattle.std.proofs.Math.Option.{none, some}
use Rattle.line.specs.Picture.{stream_line_of, basic_line_of}
use Rattle.line.specs.Stream.{is_line, v_of, line_after, line_before}

pub record LinePaper : Type 0 where
  -- V is 0 on stream lines 42 to 1121 and 1 on those before and after (004, table 5)
  pub active : (n : ℕ) → 42 ≤ n → n ≤ 1121 → v_of n ≡ false
  pub blanking_before : (n : ℕ) → n ≤ 41 → v_of n ≡ true
  pub blanking_after : (n : ℕ) → 1122 ≤ n → v_of n ≡ true
  -- line 1 comes after 1125, and 1125 before 1 (document 01, "A span")
  pub after_last : line_after 1125 ≡ 1
  pub before_first : line_before 1 ≡ 1125
  -- lines 1 to 1080 of a basic image travel on stream lines 42 to 1121 (004, 6.1), and no other number travels or carries a line
  pub travels : (l : ℕ) → 1 ≤ l → l ≤ 1080 → stream_line_of l ≡ some (l + 41)
  pub travels_nowhere : (l : ℕ) → (1 ≤ l → l ≤ 1080 → ⊥) → stream_line_of l ≡ none
  pub carries : (l : ℕ) → 1 ≤ l → l ≤ 1080 → basic_line_of (l + 41) ≡ some l
  pub carries_nothing : (n : ℕ) → (42 ≤ n → n ≤ 1121 → ⊥) → basic_line_of n ≡ none
  -- 1 to 1125 are lines, and no other number is; below 1125 the line after is one further, and from 2 on the line before one back
  pub line_if : (n : ℕ) → 1 ≤ n → n ≤ 1125 → is_line n ≡ true
  pub line_only_if : (n : ℕ) → is_line n ≡ true → (1 ≤ n) × (n ≤ 1125)
  pub after_is : (n : ℕ) → n ≤ 1124 → line_after n ≡ n + 1
  pub before_is : (n : ℕ) → 2 ≤ n → n ≤ 1125 → line_before n ≡ n - 1
