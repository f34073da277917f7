-- The words of a stream in the papers' own numerals; `proofs/Paper` proves each.
-- Assumes nothing.
use Rattle.std.specs.Prelude.{ℕ, ◌-◌, ◌*◌, ◌/◌, ◌%◌, ◌≤◌, ◌<◌, ◌≡◌, Bool, cond, map, eqb}
use Rattle.ground.specs.Answer.{refused, given}
use Rattle.ground.specs.Bit.{inverted}
use Rattle.std.specs.Prelude.{None, Some}
use Rattle.word.specs.declared.repair.Repaired.{Repaired}
use Rattle.word.specs.LineNumber.{ln0, ln1, named_of}
use Rattle.word.specs.Repair.{distance, differs_at, repair_of}
use Rattle.word.specs.Received.{bit_wrong}
use Rattle.word.specs.Timing.{timing}
use Rattle.word.specs.Values.{Value, values}

pub record WordPaper : Type 0 where
  -- what the definitions give is what the paper says (document 01, "Values to hold against it")
  pub agree : map (λ (v : Value). v.gives) values ≡ map (λ (v : Value). v.says) values
  -- 004, table 8: L6 to L0 at b10 to b4 of LN0, L10 to L7 at b7 to b4 of LN1, the other low bits 0, b11 the opposite of b10
  pub ln0_bits : (n : ℕ) → n ≤ 1125 → (ln0 n % 2048 ≡ n % 128 * 16) × (ln0 n / 2048 ≡ 1 - ln0 n / 1024 % 2)
  pub ln1_bits : (n : ℕ) → n ≤ 1125 → (ln1 n % 2048 ≡ n / 128 * 16) × (ln1 n / 2048 ≡ 1 - ln1 n / 1024 % 2)
  -- the lost recital: LN0 of line 128 is 800, LN1 of line 127 is 800, and 800 800 names no line
  pub recital : (ln0 128 ≡ 0x800) × (ln1 127 ≡ 0x800) × (named_of 0x800 0x800 ≡ refused 22 0)
  -- the distance is the number of bits in which two words differ: none, one inverted, two inverted
  pub distance_none : (w : ℕ) → distance w w ≡ 0
  pub distance_one : (k w : ℕ) → k < 12 → distance (inverted k w) w ≡ 1
  pub distance_two : (j k w : ℕ) → j < k → k < 12 → distance (inverted j (inverted k w)) w ≡ 2
  -- a word differs from itself in no bit, and with one inverted in that bit alone
  pub differs_none : (k w : ℕ) → differs_at k w w ≡ 0
  pub differs_one : (j k w : ℕ) → j < 12 → k < 12 → differs_at j (inverted k w) w ≡ cond (eqb j k) 1 0
  -- of a legal word with one bit inverted that bit is wrong, and no other
  pub wrong_one : (v h : Bool) (j k : ℕ) → j < 12 → k < 12 → bit_wrong j (inverted k (timing v h)) ≡ cond (eqb j k) 1 0
  -- where a bit is answered, inverting it in the given word gives the answered word; where none is, the given word is the answered one
  pub bit_answered : (w : ℕ) (r : Repaired) (k : ℕ) → repair_of w ≡ given r → r.bit ≡ Some k → (k < 12) × (inverted k w ≡ r.word)
  pub nothing_answered : (w : ℕ) (r : Repaired) → repair_of w ≡ given r → r.bit ≡ None → w ≡ r.word
