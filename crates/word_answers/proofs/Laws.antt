-- What holds of the answers of the calls on words to C, proved: each field cites the law that says it.
-- Assumes nothing.
use Rattle.word_answers.specs.Laws.{WordAnswersLaws}
use Rattle.word_answers.proofs.Repairs.{right_answered, wrong_answered, refused_answered}
use Rattle.word_answers.proofs.Told.{line_words_told, read_line_words_told, repair_told, crcc_told}

pub word_answers_laws : WordAnswersLaws
word_answers_laws = record {
  line_words_told = line_words_told;
  read_line_words_told = read_line_words_told;
  repair_told = repair_told;
  right_answered = right_answered;
  wrong_answered = wrong_answered;
  refused_answered = refused_answered;
  crcc_told = crcc_told;
}
