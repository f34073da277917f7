-- Packing in document 01's own numerals ("A span": low eight bits of A; low four of B above high four of A; high eight of B);
-- `proofs/Paper` proves it.
-- Assumes nothing.
use Rattle.std.specs.Prelude.{ℕ, ◌*◌, ◌≤◌, ◌≡◌}
use Rattle.ground.specs.Answer.{given}
use Rattle.packing.specs.declared.bytes.ThreeBytes.{ThreeBytes}
use Rattle.packing.specs.Bytes.{unpacked, packed_of}
use Rattle.packing.specs.Sample.{word_at_depth}

-- words ABC and DEF, and their bytes
abbrev pub bcfade : ThreeBytes
bcfade = record { first = 0xBC; second = 0xFA; third = 0xDE }

pub record PackingPaper : Type 0 where
  pub abcdef : packed_of 0xABC 0xDEF ≡ given bcfade
  pub back : unpacked bcfade ≡ record { a = 0xABC; b = 0xDEF }
  -- a ten-bit sample is shifted left by two, a twelve-bit one is the word (document 01, "Words of a stream"; 004, 6.1)
  pub ten : (x : ℕ) → x ≤ 1023 → word_at_depth 10 x ≡ 4 * x
  pub twelve : (x : ℕ) → x ≤ 4095 → word_at_depth 12 x ≡ x
