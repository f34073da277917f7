-- The paper's values tell the answers apart.
-- Assumes nothing.
use mathlib.Core.Path.{◌≡◌, refl}
use Rattle.ground.specs.Answer.{Answer, refused, given}
use Rattle.ground.specs.Inside.Answer.{Injective}
use Rattle.ground.proofs.Answers.{told_again}
use Rattle.picture.specs.declared.place.Place.{Place}
use Rattle.std.specs.Prelude.{Result, Ok, Err}
use Rattle.picture.specs.declared.place.Outside.{Outside}
use Rattle.picture.specs.Place.{paper_placed}

abbrev placed_again : Answer Place → Result Place Outside
placed_again (refused n place) = Err (record {})
placed_again (given p) = Ok p

pub placed_one_to_one : Injective paper_placed
placed_one_to_one = told_again placed_again again
  where
    again : (r : Result Place Outside) → placed_again (paper_placed r) ≡ r
    again (Ok p) = refl
    again (Err e) = refl
