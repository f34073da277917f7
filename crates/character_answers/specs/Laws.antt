-- What holds of characters answered to C; `proofs/Laws` proves it.
-- Assumes nothing.
use Rattle.std.specs.Prelude.{ℕ, ◌<◌, ◌≡◌}
use Rattle.symbol.specs.Character.{character_of}
use Rattle.character_answers.specs.Characters.{character_number}

pub record CharacterAnswersLaws : Type 0 where
  -- a character crosses as its number: each of the 268 comes back as its own, so no two cross as the same
  pub character_told : (c : ℕ) → c < 268 → character_number (character_of c) ≡ c
