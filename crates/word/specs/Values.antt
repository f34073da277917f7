-- The values of document 01, "Values to hold against it", that are to be proved (P): what the definitions give, beside what the paper
-- says. The law `agree` (proofs/Agree) says that the two columns are the same. Numbers are hexadecimal where the paper's are.
-- Assumes nothing.
use Rattle.std.specs.Prelude.{ℕ, Bool, true, false, List, [], ◌∷◌}
use Rattle.ground.specs.Answer.{Answer, refused, given}
use Rattle.symbol.specs.declared.disparity.Disparity.TheVariants.{Negative, Positive}
use Rattle.symbol.specs.declared.special.Special.TheVariants.{K28_5, K29_7}
use Rattle.symbol.specs.Character.{number_of}
use Rattle.symbol.specs.Code.{symbol_of}
use Rattle.std.specs.Prelude.{Option as Answered}
use Rattle.std.specs.Prelude.{None, Some}
use Rattle.word.specs.declared.repair.Repaired.{Repaired}
use Rattle.word.specs.declared.line_number.LineWords.{LineWords}
use Rattle.word.specs.LineNumber.{numbered_of}
use Rattle.word.specs.Repair.{repair_of}
use Rattle.word.specs.Timing.{timing}

pub record Value : Type 0 where
  pub gives : Answer (List ℕ)
  pub says : Answer (List ℕ)

abbrev paper : List ℕ → Answer (List ℕ)
paper = given

-- the timing word for V and H
abbrev xyz : Bool → Bool → Answer (List ℕ)
xyz v h = given (timing v h ∷ [])

-- the repaired word, its distance, and the bit, if one was wrong
abbrev bits : Answered ℕ → List ℕ
bits None = []
bits (Some k) = k ∷ []

abbrev repair : Answer Repaired → Answer (List ℕ)
repair (refused n p) = refused n p
repair (given r) = given (r.word ∷ r.distance ∷ bits r.bit)

-- the two words of a line
abbrev line : Answer LineWords → Answer (List ℕ)
line (refused n p) = refused n p
line (given w) = given (w.ln0 ∷ w.ln1 ∷ [])

-- a character's symbols at negative and at positive disparity
abbrev symbols : ℕ → Answer (List ℕ)
symbols c = given (symbol_of Negative c ∷ symbol_of Positive c ∷ [])

infixl 20 ◌beside◌
abbrev ◌beside◌ : Answer (List ℕ) → Answer (List ℕ) → Value
a beside b = record { gives = a; says = b }

abbrev pub values : List Value
values =
    (xyz false false beside paper (0x800 ∷ []))
    ∷ (xyz false true beside paper (0x9D0 ∷ []))
    ∷ (xyz true false beside paper (0xAB0 ∷ []))
    ∷ (xyz true true beside paper (0xB60 ∷ []))
    ∷ (repair (repair_of 0x801) beside paper (0x800 ∷ 1 ∷ 0 ∷ []))
    ∷ (repair (repair_of 0x8D0) beside paper (0x9D0 ∷ 1 ∷ 8 ∷ []))
    ∷ (repair (repair_of 0x000) beside paper (0x800 ∷ 1 ∷ 11 ∷ []))
    ∷ (repair (repair_of 0x800) beside paper (0x800 ∷ 0 ∷ []))
    ∷ (repair (repair_of 0x803) beside refused 8 0)
    ∷ (line (numbered_of 1) beside paper (0x810 ∷ 0x800 ∷ []))
    ∷ (line (numbered_of 42) beside paper (0xAA0 ∷ 0x800 ∷ []))
    ∷ (line (numbered_of 127) beside paper (0x7F0 ∷ 0x800 ∷ []))
    ∷ (line (numbered_of 128) beside paper (0x800 ∷ 0x810 ∷ []))
    ∷ (line (numbered_of 1125) beside paper (0x650 ∷ 0x880 ∷ []))
    ∷ (symbols (number_of K28_5) beside paper (0x17C ∷ 0x283 ∷ []))
    ∷ (symbols (number_of K29_7) beside paper (0x05D ∷ 0x3A2 ∷ []))
    ∷ (symbols 0x00 beside paper (0x0B9 ∷ 0x346 ∷ []))
    ∷ (symbols 0xB5 beside paper (0x155 ∷ 0x155 ∷ []))
    ∷ []
