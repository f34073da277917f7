-- Repair of a timing word (document 01, "Words of a stream"; 004, 6.2: one wrong bit is corrected, two are detected).
-- Assumes nothing.
use Rattle.std.specs.Prelude.{ℕ, ◌/◌, ◌%◌, Bool, [], ◌∷◌, eqb, leb, Option as Answered, Some, None, Result, Ok, Err}
use Rattle.std.proofs.Math.Option.{Option, none, some, get_or}
use Rattle.std.specs.Int.Count.{ones_in}
use Rattle.ground.specs.Answer.{Answer, refused, given, unless, checked}
use Rattle.ground.specs.Bit.{bit_in}
use Rattle.ground.specs.Search.{first_below, is_some}
use Rattle.ground.specs.Xor.{◌⊕◌}
use Rattle.word.specs.declared.repair.Repaired.{Repaired}
use Rattle.word.specs.declared.repair.RepairError.{RepairError}
use Rattle.word.specs.declared.repair.RepairError.TheVariants.{Above4095, BeyondRepair}
use Rattle.word.specs.Timing.{timing}
use Rattle.word.specs.Word.{is_word}

-- in how many of the twelve bits two words differ
unfoldable pub distance : ℕ → ℕ → ℕ
unfolding ones_in
distance a b = ones_in 12 (a ⊕ b)

-- whether they differ in bit k, b0 being the lowest (table 6): 1 or 0
unfoldable pub differs_at : ℕ → ℕ → ℕ → ℕ
differs_at k a b = bit_in k (a ⊕ b)

-- the bit in which they differ, the lowest if there are more, or that there is none
abbrev pub bit_found : Option ℕ → Answered ℕ
bit_found none = None
bit_found (some k) = Some k

unfoldable pub bit_of : ℕ → ℕ → Answered ℕ
bit_of a b = bit_found (first_below 12 (λ k. eqb (differs_at k a b) 1))

-- the four legal words, VH = 00, 01, 10, 11
abbrev pub legal_word : ℕ → ℕ
legal_word vh = timing (eqb (vh / 2) 1) (eqb (vh % 2) 1)

-- the distance is 0 or 1
abbrev pub near : ℕ → ℕ → Bool
near w vh = leb (distance w (legal_word vh)) 1

-- VH of the near legal word, if there is one
unfoldable pub nearest : ℕ → Option ℕ
nearest w = first_below 4 (near w)

-- the paper's number and values for each answer
abbrev pub paper_repair : Result Repaired RepairError → Answer Repaired
paper_repair (Ok r) = given r
paper_repair (Err Above4095) = refused 7 0
paper_repair (Err BeyondRepair) = refused 8 0

-- a word repaired to a legal one: that word, the distance, and the bit
abbrev pub repaired_to : ℕ → ℕ → Repaired
repaired_to w legal = record { word = legal; distance = distance w legal; bit = bit_of w legal }

-- the word repaired to the legal one that is near; 7 above 4095, then 8 if none is near
abbrev pub repair_of : ℕ → Answer Repaired
repair_of w =
    checked (unless 7 (is_word w) ∷ unless 8 (is_some (nearest w)) ∷ [])
    (repaired_to w (legal_word (get_or (nearest w) 0)))
