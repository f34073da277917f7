-- The timing reference code (004, 6.2, tables 6 and 7).
-- Assumes nothing.
use Rattle.std.specs.Prelude.{ℕ, ◌+◌, ◌*◌, ◌^◌, Bool, true, false, List, [], ◌∷◌}
use Rattle.ground.specs.Bit.{bit}

-- table 7: P3 P2 P1 P0 for V and H
abbrev pub protection : Bool → Bool → ℕ
protection false false = 0b0000
protection false true = 0b1101
protection true false = 0b1011
protection true true = 0b0110

-- table 6, word 4, b11 down to b0: 1, F, V, H, P3, P2, P1, P0, 0, 0, 0, 0; F is 0
unfoldable pub timing : Bool → Bool → ℕ
timing v h = 1 * 2 ^ 11 + 0 * 2 ^ 10 + bit v * 2 ^ 9 + bit h * 2 ^ 8 + protection v h * 2 ^ 4

-- table 6: the four words, with H 0 in the SAV and 1 in the EAV
abbrev pub timing_code : Bool → Bool → List ℕ
timing_code v h = 0xFFF ∷ 0x000 ∷ 0x000 ∷ timing v h ∷ []
