-- What holds of characters answered to C, proved: the field cites the law that says it.
-- Assumes nothing.
use Rattle.character_answers.specs.Laws.{CharacterAnswersLaws}
use Rattle.character_answers.proofs.Told.{character_told}

pub character_answers_laws : CharacterAnswersLaws
character_answers_laws = record { character_told = character_told }
