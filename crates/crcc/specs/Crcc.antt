-- The error detection code of a line (004, 6.4 and table 9).
-- Assumes nothing.
use Rattle.std.specs.Prelude.{ℕ, zero, suc, ◌+◌, ◌-◌, ◌*◌, ◌/◌, ◌%◌, ◌^◌, Bool, true, ◌&&◌, List, [], ◌∷◌, Result, Ok, Err}
use Rattle.ground.specs.Answer.{Answer, refused, given, unless, checked}
use Rattle.ground.specs.Xor.{◌⊕◌}
use Rattle.crcc.specs.declared.crcc.Above4095.{Above4095}
use Rattle.crcc.specs.declared.crcc.CrccWords.{CrccWords}
use Rattle.word.specs.Word.{is_word, guarded}

-- 6.4 b: X^18 + X^5 + X^4 + 1. CRCC0 is the coefficient of X^17, so X^k is bit 17 - k of the register.
unfoldable pub taps : ℕ
taps = 2 ^ (17 - 5) + 2 ^ (17 - 4) + 2 ^ (17 - 0)

-- one bit of the message: the bit shifted out at X^18, exclusive-ored with it, is fed back as X^5 + X^4 + 1
unfoldable pub bit_step : ℕ → ℕ → ℕ
unfolding taps
bit_step c b = c / 2 ⊕ (c % 2 ⊕ b) * taps

-- n bits of a word, the lowest first (6.4 d: from the LSB of the first word to the MSB of the last)
unfoldable pub bit_steps : ℕ → ℕ → ℕ → ℕ
unfolding bit_step
bit_steps zero c w = c
bit_steps (suc n) c w = bit_steps n (bit_step c (w % 2)) (w / 2)

abbrev pub crc_word : ℕ → ℕ → ℕ
crc_word c w = bit_steps 12 c w

-- a run of words
unfoldable pub crc : ℕ → List ℕ → ℕ
unfolding bit_steps
crc c [] = c
crc c (w ∷ ws) = crc (crc_word c w) ws

-- table 9: word CRCC0 has CRCC8 to CRCC0 at b10 to b2, word CRCC1 has CRCC17 to CRCC9; b11 is the opposite of b10; reserved bits are 0
abbrev pub crcc_words : ℕ → CrccWords
crcc_words c = record { crcc0 = guarded (c % 2 ^ 9 * 2 ^ 2); crcc1 = guarded (c / 2 ^ 9 % 2 ^ 9 * 2 ^ 2) }

abbrev pub all_words : List ℕ → Bool
all_words [] = true
all_words (w ∷ ws) = is_word w && all_words ws

-- the paper's number and values for each answer
abbrev pub paper_crcc : Result ℕ Above4095 → Answer ℕ
paper_crcc (Ok c) = given c
paper_crcc (Err e) = refused 7 0

-- the register after a run of words, given the register before it; 7 if a word is above 4095
abbrev pub crcc_from : ℕ → List ℕ → Answer ℕ
crcc_from c ws = checked (unless 7 (all_words ws) ∷ []) (crc c ws)

-- 6.4 b: the start value is 0
abbrev pub crcc_of : List ℕ → Answer ℕ
crcc_of = crcc_from 0
