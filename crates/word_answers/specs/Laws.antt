-- What holds of the answers to C of the calls on words: no two answers of the library cross as the same, so the number and the fields
-- determine what was answered. `proofs/Laws` proves each.
-- Assumes nothing.
use Rattle.std.specs.Prelude.{ℕ, ◌<◌, ◌≡◌, Bool, Result}
use Rattle.ground.specs.Answer.{refused}
use Rattle.ground.specs.Bit.{inverted}
use Rattle.ground.specs.Inside.Answer.{Injective}
use Rattle.line.specs.declared.stream.StreamLine.{StreamLine}
use Rattle.word.specs.declared.line_number.LineWords.{LineWords}
use Rattle.word.specs.declared.line_number.NoLine.{NoLine}
use Rattle.word.specs.declared.line_number.NameError.{NameError}
use Rattle.word.specs.LineNumber.{paper_numbered, paper_named}
use Rattle.word.specs.Repair.{repair_of}
use Rattle.word.specs.Timing.{timing}
use Rattle.crcc.specs.declared.crcc.Above4095.{Above4095}
use Rattle.crcc.specs.Crcc.{paper_crcc}
use Rattle.word_answers.specs.Words.{line_words_answer_of, read_line_words_answer_of, repair_answer_of, crcc_answer_of}

pub record WordAnswersLaws : Type 0 where
  -- the words of a line
  pub line_words_told : Injective (λ (r : Result LineWords NoLine). line_words_answer_of (paper_numbered r))
  -- the line of two words
  pub read_line_words_told : Injective (λ (r : Result StreamLine NameError). read_line_words_answer_of (paper_named r))
  -- the repair of a timing word, of the answers that the call can give: a bit that it answers is below 12, and so is not told as none
  pub repair_told : (v w : ℕ) → repair_answer_of (repair_of v) ≡ repair_answer_of (repair_of w) → repair_of v ≡ repair_of w
  -- in numerals: a timing word as sent, one with bit k wrong, and one that is refused
  pub right_answered : (v h : Bool) → repair_answer_of (repair_of (timing v h)) ≡ record { number = 0; word = timing v h; distance = 0; bit = 12 }
  pub wrong_answered :
      (v h : Bool) (k : ℕ)
      → k < 12
      → repair_answer_of (repair_of (inverted k (timing v h))) ≡ record { number = 0; word = timing v h; distance = 1; bit = k }
  pub refused_answered : (number place : ℕ) → repair_answer_of (refused number place) ≡ record { number = number; word = 0; distance = 0; bit = 12 }
  -- the CRCC of a run of words
  pub crcc_told : Injective (λ (r : Result ℕ Above4095). crcc_answer_of (paper_crcc r))
