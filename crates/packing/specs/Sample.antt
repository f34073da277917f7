-- Samples and the words that carry them (004, 6.1; document 01, "Words of a stream" and refusal 25).
-- Assumes nothing.
use Rattle.std.specs.Prelude.{ℕ, ◌*◌, ◌%◌, Bool, true, cond, ◌&&◌, eqb}
use Rattle.ground.specs.Range.{within}

-- the samples that may be sent at a depth, in bits. Every call refuses a depth that is neither 10 nor 12 before it asks; here, and in the two
-- definitions below, such a depth is as twelve bits.
abbrev pub allowed_at_depth : ℕ → ℕ → Bool
allowed_at_depth depth x = cond (eqb depth 10) (within 4 1019 x) (within 16 4079 x)

-- 004, 6.1: at ten bits a sample is shifted left by two, the low bits zero; at twelve it is the word itself. A word has twelve bits, so
-- only the low twelve count of a larger number, which may not be sent anyway
abbrev pub word_at_depth : ℕ → ℕ → ℕ
word_at_depth depth x = cond (eqb depth 10) (x * 4) x % 4096

-- the words that may be received: 16 to 4079, and at ten bits the low two bits zero
abbrev pub allowed_word : ℕ → ℕ → Bool
allowed_word depth w = within 16 4079 w && cond (eqb depth 10) (eqb (w % 4) 0) true
