-- The wrong bits of the timing words of a window, stream by stream.
-- Assumes nothing.
use Rattle.std.specs.Prelude.{ℕ, ◌+◌, ◌*◌, ◌≤◌, ◌<◌, List, get_or}
use Rattle.ground.specs.Bit.{bit_in}
use Rattle.ground.specs.Xor.{◌⊕◌}
use Rattle.span.specs.declared.format.Shape.{Shape}
use Rattle.span.specs.Format.{streams}
use Rattle.span.specs.Layout.{sav_xyz, eav_xyz}
use Rattle.word.specs.Received.{repaired}
use Rattle.window.specs.Read.{each_bit}
use Rattle.window.specs.Words.{word_at}
use Rattle.read_test21_26.specs.declared.repairs.Xyz.{Xyz}

-- XYZ of SAV and EAV of stream t
abbrev pub xyz_of : Shape → List ℕ → ℕ → Xyz
xyz_of p w t = record { sav = word_at p w (streams p * sav_xyz + t); eav = word_at p w (streams p * eav_xyz + t) }

-- the wrong bits of one, each in its place
abbrev pub wrong_mask : ℕ → ℕ
wrong_mask x = x ⊕ repaired x

-- what g makes of them together
abbrev pub brought : (ℕ → ℕ) → Shape → List ℕ → ℕ → ℕ
brought g p w t = g (xyz_of p w t).sav + g (xyz_of p w t).eav

-- counts to which two more may be added
pub record Room (c : List ℕ) : Type 0 where
  pub each : (b : ℕ) → b < 12 → get_or c b 0 ≤ 253

-- the counts with the bits of two masks
abbrev pub with_bits : List ℕ → ℕ → ℕ → List ℕ
with_bits c x y = each_bit (λ b. get_or c b 0 + (bit_in b x + bit_in b y))
