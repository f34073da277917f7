-- What holds of the receiving end: what is received, and which flags are summed up; `proofs/Laws` proves each.
-- Assumes nothing.
use Rattle.std.specs.Prelude.{ℕ, ◌+◌, ◌-◌, ◌*◌, ◌≤◌, ◌<◌, ◌≡◌, true, false, List, length}
use Rattle.ground.specs.Answer.{refused, given}
use Rattle.ground.specs.Inside.Answer.{Injective}
use Rattle.reception.specs.Receiving.{receivable}
use Rattle.reception.specs.Summary.{blanking_text, lines_text, carried_text, summary, paper_summarised, summarised_of}

pub record ReceptionLaws : Type 0 where
  -- five lines from 1121 on are the last; five spans have 95,040 symbols, ten rows 38,400 words. Nothing else is received.
  pub receives :
      (first symbols heard picture : ℕ)
      → first ≤ 1121
      → symbols ≤ 95040
      → heard ≡ 5
      → picture ≡ 38400
      → receivable first symbols heard picture ≡ true
  pub nothing_else :
      (first symbols heard picture : ℕ)
      → (first ≤ 1121 → symbols ≤ 95040 → heard ≡ 5 → picture ≡ 38400 → ⊥)
      → receivable first symbols heard picture ≡ false
  -- of stream line l + 41 it is said that it carries picture lines 2l - 1 and 2l, of any other that it is one of frame blanking
  pub says_lines : (l : ℕ) → 1 ≤ l → l ≤ 1080 → carried_text (l + 41) ≡ lines_text (2 * l - 1) (2 * l)
  pub says_blanking : (n : ℕ) → (42 ≤ n → n ≤ 1121 → ⊥) → carried_text n ≡ blanking_text
  -- the flags of 1,125 lines are summed up in a buffer of 256 bytes or more; other flags meet 3, a smaller buffer 4
  pub sums : (heard : List ℕ) (out : ℕ) → length heard ≡ 1125 → 256 ≤ out → summarised_of heard out ≡ given (length (summary heard))
  pub summary_meets3 : (heard : List ℕ) (out : ℕ) → (length heard ≡ 1125 → ⊥) → summarised_of heard out ≡ refused 3 0
  pub summary_meets4 : (heard : List ℕ) (out : ℕ) → length heard ≡ 1125 → out < 256 → summarised_of heard out ≡ refused 4 0
  -- the numbers tell any two answers apart, so that a promise about them fixes the answer
  pub summarised_told : Injective paper_summarised
