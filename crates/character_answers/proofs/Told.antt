-- An answer to C tells what the library answered: no two answers cross as the same.
-- Assumes nothing.
use mathlib.Core.Path.{◌≡◌}
use Prim.Native.Nat.{ℕ, ◌<◌}
use lib.Dec.{ltb}
use borrow.Author.Tests.{ltb-false}
use Rattle.ground.proofs.Cases.{on_test}
use Rattle.symbol.specs.Character.{characters, character_of}
use Rattle.character_answers.specs.Characters.{character_number}
use Rattle.character_answers.proofs.Encoding.{special_is}

pub character_told : (c : ℕ) → c < characters → character_number (character_of c) ≡ c
character_told c h = on_test (ltb c 256) (λ t. simp t) (λ t. rw t (special_is c (ltb-false c 256 t) h))
