-- What all words of a stream have in common (004, 6.1 to 6.4).
-- Assumes nothing.
use Rattle.std.specs.Prelude.{ℕ, ◌+◌, ◌-◌, ◌*◌, ◌/◌, ◌%◌, ◌^◌, Bool, ltb}

-- a word has twelve bits, b11 to b0 (a larger number is refused with 7)
abbrev pub is_word : ℕ → Bool
is_word w = ltb w 4096

-- tables 8 and 9: bits b10 to b0 are given, b11 is the opposite of b10
unfoldable pub guarded : ℕ → ℕ
guarded w = (1 - w / 2 ^ 10 % 2) * 2 ^ 11 + w % 2 ^ 11
