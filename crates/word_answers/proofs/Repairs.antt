-- What the repair of a timing word answers to C, in numerals.
-- Assumes nothing.
use mathlib.Core.Path.{◌≡◌, refl, ap}
use mathlib.Core.Bool.{Bool, true, false}
use Prim.Native.Nat.{ℕ, ◌<◌}
use native.Mathlib.Omega.{arith}
use Rattle.ground.specs.Answer.{refused}
use Rattle.ground.specs.Bit.{inverted}
use Rattle.word.specs.Repair.{repair_of}
use Rattle.word.specs.Timing.{timing}
use Rattle.word.proofs.WrongWords.{sent_whole, one_wrong}
use Rattle.word_answers.specs.Words.{repair_answer_of}

pub right_answered : (v h : Bool) → repair_answer_of (repair_of (timing v h)) ≡ record { number = 0; word = timing v h; distance = 0; bit = 12 }
right_answered v h = ap repair_answer_of (sent_whole v h)

pub wrong_answered : (v h : Bool) (k : ℕ) → k < 12
    → repair_answer_of (repair_of (inverted k (timing v h))) ≡ record { number = 0; word = timing v h; distance = 1; bit = k }
wrong_answered false false k l = ap repair_answer_of (one_wrong 0 (omega arith) k l)
wrong_answered false true k l = ap repair_answer_of (one_wrong 1 (omega arith) k l)
wrong_answered true false k l = ap repair_answer_of (one_wrong 2 (omega arith) k l)
wrong_answered true true k l = ap repair_answer_of (one_wrong 3 (omega arith) k l)

pub refused_answered : (number place : ℕ) → repair_answer_of (refused number place) ≡ record { number = number; word = 0; distance = 0; bit = 12 }
refused_answered number place = refl
