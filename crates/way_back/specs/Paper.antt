-- The way back in document 01's own numerals ("Dividing a picture"); `proofs/Paper` proves each.
-- Assumes nothing.
use Rattle.std.specs.Prelude.{ℕ, ◌+◌, ◌-◌, ◌*◌, ◌≤◌, ◌≡◌, ◌⊎◌}
use Rattle.ground.specs.Answer.{Answer, refused, given}
use Rattle.span.specs.declared.format.Format.{Format}
use Rattle.span.specs.Numbers.{IsFormat}
use Rattle.way_back.specs.declared.back.ImageLine.{ImageLine}
use Rattle.way_back.specs.Back.{back_of}

-- a link and stream that there are: links 1 and 2 with streams 1 and 2, or link 1 with streams 1 to 4
abbrev pub IsStream : Format → ℕ → ℕ → Type 0
IsStream f link stream =
    ((f.number ≤ 2) × (1 ≤ link) × (link ≤ 2) × (1 ≤ stream) × (stream ≤ 2))
    ⊎ ((f.number ≡ 3) × (link ≡ 1) × (1 ≤ stream) × (stream ≤ 4))

-- a good call: and lines 42 to 1121 carry the picture
abbrev pub Carried : Format → ℕ → ℕ → ℕ → Type 0
Carried f link stream n = IsStream f link stream × (42 ≤ n) × (n ≤ 1121)

-- image u, with this line of the picture
abbrev pub line : ℕ → ℕ → Answer ImageLine
line u n = given (record { image = u; line = record { 0 = n } })

pub record WayBackPaper : Type 0 where
  -- at 120 and 100 Hz: images 1 and 2, with line 2l - 1 on stream line l + 41, or 3 and 4, with line 2l
  pub two :
      (f : Format) (l : ℕ)
      → IsFormat f
      → f.number ≤ 2
      → 1 ≤ l
      → l ≤ 1080
      → (back_of f 1 1 (l + 41) ≡ line 1 (2 * l - 1))
      × (back_of f 1 2 (l + 41) ≡ line 2 (2 * l - 1))
      × (back_of f 2 1 (l + 41) ≡ line 3 (2 * l))
      × (back_of f 2 2 (l + 41) ≡ line 4 (2 * l))
  -- at 50 Hz: images 1 to 4 in that order
  pub four :
      (f : Format) (l : ℕ)
      → IsFormat f
      → f.number ≡ 3
      → 1 ≤ l
      → l ≤ 1080
      → (back_of f 1 1 (l + 41) ≡ line 1 (2 * l - 1))
      × (back_of f 1 2 (l + 41) ≡ line 2 (2 * l - 1))
      × (back_of f 1 3 (l + 41) ≡ line 3 (2 * l))
      × (back_of f 1 4 (l + 41) ≡ line 4 (2 * l))
  -- the refusals, in the order tried
  pub back_meets1 : (f : Format) (link stream n : ℕ) → (IsFormat f → ⊥) → back_of f link stream n ≡ refused 1 0
  pub back_meets2 : (f : Format) (link stream n : ℕ) → IsFormat f → (Carried f link stream n → ⊥) → back_of f link stream n ≡ refused 2 0
  pub good_is_given : (f : Format) (link stream n : ℕ) → IsFormat f → Carried f link stream n → (x : ImageLine) × (back_of f link stream n ≡ given x)
