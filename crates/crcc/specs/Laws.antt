-- Laws of the error detection code, for a reader of the papers; `proofs/Laws` proves each.
-- Assumes nothing.
use Rattle.std.specs.Prelude.{ℕ, ◌+◌, ◌*◌, ◌/◌, ◌%◌, ◌^◌, ◌≤◌, ◌<◌, ◌≡◌, List, ◌++◌, length, get_or}
use Rattle.ground.specs.Answer.{refused, given}
use Rattle.ground.specs.Inside.Answer.{Injective}
use Rattle.crcc.specs.Crcc.{crc, crcc_words, paper_crcc, crcc_of}

pub record CrccLaws : Type 0 where
  -- the register after a run, continued over a second one, is the register after both as one run
  pub continues : (c : ℕ) (xs ys : List ℕ) → crc (crc c xs) ys ≡ crc c (xs ++ ys)
  -- the register stays within its eighteen bits (6.4 b)
  pub eighteen_bits : (c : ℕ) (ws : List ℕ) → c < 2 ^ 18 → crc c ws < 2 ^ 18
  -- the two words determine the register (table 9), so different registers give different words
  pub register_again : (c : ℕ) → c < 2 ^ 18 → (crcc_words c).crcc0 / 4 % 512 + (crcc_words c).crcc1 / 4 % 512 * 512 ≡ c
  -- a run of twelve-bit words has a CRCC, and a run with a number above 4095 is refused with 7
  pub crcc_good : (ws : List ℕ) → ((i : ℕ) → i < length ws → get_or ws i 0 ≤ 4095) → crcc_of ws ≡ given (crc 0 ws)
  pub crcc_meets7 : (ws : List ℕ) (i : ℕ) → i < length ws → 4095 < get_or ws i 0 → crcc_of ws ≡ refused 7 0
  -- the paper's number and value tell any two answers apart, so that a contract about them fixes the answer
  pub crcc_told : Injective paper_crcc
