-- Document 01's own numbers: which formats there are, and how long a span of each is. Laws that say which calls are good are
-- stated with these, not with what is computed from the table of formats.
-- Assumes nothing.
use Rattle.std.specs.Prelude.{ℕ, ◌≤◌, ◌≡◌, ◌⊎◌}
use Rattle.span.specs.declared.format.Format.{Format}

-- a known format: 1 to 3, which are 120, 100 and 50 Hz; 10 or 12 bits; 1 to 6, which are G', B', R', Y', C'B and C'R; 4:4:4; 4K
pub record IsFormat (f : Format) : Type 0 where
  pub from : 1 ≤ f.number
  pub to : f.number ≤ 3
  pub bits : (f.depth ≡ 10) ⊎ (f.depth ≡ 12)
  pub component : (1 ≤ f.component) × (f.component ≤ 6)
  pub structure : f.structure ≡ 1
  pub size : f.size ≡ 1

-- x is a, b or c for format 1, 2 or 3
abbrev pub Of : ℕ → ℕ → ℕ → ℕ → ℕ → Type 0
Of a b c number x = ((number ≡ 1) × (x ≡ a)) ⊎ (((number ≡ 2) × (x ≡ b)) ⊎ ((number ≡ 3) × (x ≡ c)))

-- the symbols of a span, and its samples
abbrev pub Symbols : Format → ℕ → Type 0
Symbols f = Of 7920 9504 19008 f.number

abbrev pub Samples : Format → ℕ → Type 0
Samples f = Of 3840 3840 7680 f.number

-- x is the blanking word of the link (004, 6.8): 100 for G', B', R' and Y', 800 for C'B and C'R
pub record Blank (f : Format) (x : ℕ) : Type 0 where
  pub is100 : f.component ≤ 4 → x ≡ 0x100
  pub is800 : 5 ≤ f.component → x ≡ 0x800

-- the ancillary words of a stream
abbrev pub Ancillary : Format → ℕ → Type 0
Ancillary f = Of 268 708 708 f.number
