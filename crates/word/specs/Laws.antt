-- Laws of the words of a stream, for a reader of the papers; `proofs/Laws` proves each.
-- Assumes nothing.
use Rattle.std.specs.Prelude.{ℕ, ◌-◌, ◌/◌, ◌%◌, ◌^◌, ◌≤◌, ◌<◌, ◌≡◌, Bool, cond, ◌⊎◌, eqb}
use Rattle.ground.specs.Answer.{refused, given}
use Rattle.ground.specs.Inside.Answer.{Injective}
use Rattle.std.specs.Prelude.{None}
use Rattle.word.specs.LineNumber.{ln0, ln1, line_words, paper_numbered, numbered_of, paper_named, named_of}
use Rattle.word.specs.Repair.{distance, legal_word, paper_repair, repair_of}
use Rattle.word.specs.Timing.{timing}
use Rattle.ground.specs.Bit.{bit}
use Rattle.word.specs.Word.{guarded}

pub record WordLaws : Type 0 where
  -- b11 is the opposite of b10, and the other bits are as given (004, tables 8 and 9)
  pub guard_opposite : (w : ℕ) → guarded w / 2048 ≡ 1 - guarded w / 1024 % 2
  pub guard_kept : (w : ℕ) → guarded w % 2048 ≡ w % 2048
  -- V is b9 of a timing word and H is b8 (table 6), so different V or H give different words
  pub v_told : (v h : Bool) → timing v h / 2 ^ 9 % 2 ≡ bit v
  pub h_told : (v h : Bool) → timing v h / 2 ^ 8 % 2 ≡ bit h
  -- any two of the four legal timing words differ in four bits (6.2)
  pub legal_apart : (i j : ℕ) → i < 4 → j < 4 → distance (legal_word i) (legal_word j) ≡ cond (eqb i j) 0 4
  -- a timing word as sent is repaired to itself, at distance 0, with no wrong bit
  pub sent_whole : (v h : Bool) → repair_of (timing v h) ≡ given (record { word = timing v h; distance = 0; bit = None })
  -- repair refuses a number above 4095 with 7, and a word that is two bits or more from every legal word with 8
  pub repair_meets7 : (w : ℕ) → 4095 < w → repair_of w ≡ refused 7 0
  pub repair_meets8 : (w : ℕ) → w ≤ 4095 → ((v h : Bool) → 1 < distance w (timing v h)) → repair_of w ≡ refused 8 0
  -- lines 1 to 1125 have words, and no other number does (6.3; refusal 2)
  pub line_good : (n : ℕ) → 1 ≤ n → n ≤ 1125 → numbered_of n ≡ given (line_words n)
  pub no_line0 : numbered_of 0 ≡ refused 2 0
  pub no_line : (n : ℕ) → 1125 < n → numbered_of n ≡ refused 2 0
  -- different lines have different words
  pub different : (m n : ℕ) → m < 2048 → n < 2048 → ln0 m ≡ ln0 n → ln1 m ≡ ln1 n → m ≡ n
  -- reading the words of a line gives that line
  pub read_sent : (n : ℕ) → 1 ≤ n → n ≤ 1125 → named_of (ln0 n) (ln1 n) ≡ given (record { 0 = n })
  -- a number above 4095 is refused with 7, and two words that are not both those of one line with 22
  pub read_meets7 : (a b : ℕ) → (4095 < a) ⊎ (4095 < b) → named_of a b ≡ refused 7 0
  pub read_meets22 :
      (a b : ℕ)
      → a ≤ 4095
      → b ≤ 4095
      → ((n : ℕ) → 1 ≤ n → n ≤ 1125 → ln0 n ≡ a → ln1 n ≡ b → ⊥)
      → named_of a b ≡ refused 22 0
  -- the paper's number and values tell any two answers of a call apart, so that a contract about them fixes the answer
  pub repair_told : Injective paper_repair
  pub numbered_told : Injective paper_numbered
  pub named_told : Injective paper_named
