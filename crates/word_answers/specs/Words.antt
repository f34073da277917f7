-- What the calls on words answer to C (document 01, "Words of a stream"; refusals 2, 7, 8 and 22). In a refusal fields are 0, and `bit` is 12.
-- Assumes nothing.
use Rattle.std.specs.Prelude.{ℕ, Option as Answered, None, Some}
use Rattle.ground.specs.Answer.{Answer, refused, given}
use Rattle.line.specs.declared.stream.StreamLine.{StreamLine}
use Rattle.word.specs.declared.line_number.LineWords.{LineWords}
use Rattle.word.specs.declared.repair.Repaired.{Repaired}
use Rattle.crcc.specs.Crcc.{crcc_words}
use Rattle.boundary.specs.Numbers.{stream_line_number}
use Rattle.word_answers.specs.declared.words.LineWordsAnswer.{LineWordsAnswer}
use Rattle.word_answers.specs.declared.words.ReadLineWordsAnswer.{ReadLineWordsAnswer}
use Rattle.word_answers.specs.declared.words.RepairAnswer.{RepairAnswer}
use Rattle.word_answers.specs.declared.words.CrccAnswer.{CrccAnswer}

abbrev pub line_words_answer_of : Answer LineWords → LineWordsAnswer
line_words_answer_of (refused number place) = record { number = number; ln0 = 0; ln1 = 0 }
line_words_answer_of (given w) = record { number = 0; ln0 = w.ln0; ln1 = w.ln1 }

abbrev pub read_line_words_answer_of : Answer StreamLine → ReadLineWordsAnswer
read_line_words_answer_of (refused number place) = record { number = number; line = record { number = 0 } }
read_line_words_answer_of (given l) = record { number = 0; line = stream_line_number l }

-- no bit, where a word was right and in a refusal: a word has bits 0 to 11, and 0 is one of them
abbrev pub no_bit : ℕ
no_bit = 12

-- the bit that was wrong, if one was
abbrev pub bit_number : Answered ℕ → ℕ
bit_number None = no_bit
bit_number (Some k) = k

abbrev pub repair_answer_of : Answer Repaired → RepairAnswer
repair_answer_of (refused number place) = record { number = number; word = 0; distance = 0; bit = no_bit }
repair_answer_of (given r) = record { number = 0; word = r.word; distance = r.distance; bit = bit_number r.bit }

-- the register, and the two words that carry it (004, table 9)
abbrev pub crcc_answer_of : Answer ℕ → CrccAnswer
crcc_answer_of (refused number place) = record { number = number; crc = 0; crcc0 = 0; crcc1 = 0 }
crcc_answer_of (given c) = record { number = 0; crc = c; crcc0 = (crcc_words c).crcc0; crcc1 = (crcc_words c).crcc1 }
