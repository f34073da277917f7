-- An answer to C tells what the library answered: no two answers cross as the same.
-- Assumes nothing.
use mathlib.Core.Path.{◌≡◌, refl}
use Prim.Native.Nat.{ℕ}
use Rattle.std.specs.Prelude.{Result, Ok, Err}
use Rattle.ground.specs.Answer.{Answer}
use Rattle.ground.specs.Inside.Answer.{Injective}
use Rattle.picture.specs.declared.place.Place.{Place}
use Rattle.picture.specs.declared.place.Outside.{Outside}
use Rattle.picture.specs.Place.{paper_placed}
use Rattle.picture.proofs.OneToOne.{placed_one_to_one}
use Rattle.dividing.specs.declared.row.CopyError.{CopyError}
use Rattle.dividing.specs.declared.row.CopyError.TheVariants as Copy
use Rattle.dividing.specs.Row.{paper_copied}
use Rattle.dividing.proofs.OneToOne.{copied_one_to_one}
use Rattle.span.specs.declared.blanking.FillError.{FillError}
use Rattle.span.specs.declared.blanking.FillError.TheVariants as Fill
use Rattle.span.specs.Blanking.{paper_filled}
use Rattle.span.proofs.FilledOneToOne.{filled_one_to_one}
use Rattle.way_back.specs.declared.back.BackError.{BackError}
use Rattle.way_back.specs.declared.back.BackError.TheVariants as Back
use Rattle.way_back.specs.declared.back.ImageLine.{ImageLine}
use Rattle.way_back.specs.Back.{paper_back}
use Rattle.way_back.proofs.Laws.{back_one_to_one}
use Rattle.picture_answers.specs.declared.pictures.PlaceAnswer.{PlaceAnswer}
use Rattle.picture_answers.specs.declared.pictures.WayBackAnswer.{WayBackAnswer}
use Rattle.boundary.specs.Numbers.{number_in}
use Rattle.picture_answers.specs.Pictures.{place_answer_of, way_back_answer_of}
use Rattle.boundary.proofs.Told.{through, answer_by}

place_back : PlaceAnswer → Answer Place
place_back p =
    answer_by p.number 0
    (record {
      image = p.image;
      line = record { 0 = p.image_line };
      stream = record { 0 = p.stream_line.number };
      sample = p.sample;
    })

pub place_told : Injective (λ (r : Result Place Outside). place_answer_of (paper_placed r))
unfolding place_back
place_told = through place_answer_of place_back back placed_one_to_one
  where
    back : (r : Result Place Outside) → place_back (place_answer_of (paper_placed r)) ≡ paper_placed r
    back (Ok p) = refl
    back (Err e) = refl

way_back_back : WayBackAnswer → Answer ImageLine
way_back_back a = answer_by a.number 0 (record { image = a.image; line = record { 0 = a.line.number } })

pub way_back_told : Injective (λ (r : Result ImageLine BackError). way_back_answer_of (paper_back r))
unfolding way_back_back
way_back_told = through way_back_answer_of way_back_back back back_one_to_one
  where
    back : (r : Result ImageLine BackError) → way_back_back (way_back_answer_of (paper_back r)) ≡ paper_back r
    back (Ok x) = refl
    back (Err Back.UnknownFormat) = refl
    back (Err Back.NoLine) = refl

-- a number alone, of a call that answers nothing else
number_back : ℕ → Answer (Unit {0})
number_back n = answer_by n 0 tt

pub copied_told : Injective (λ (r : Result (Unit {0}) CopyError). number_in (paper_copied r))
unfolding number_back
copied_told = through number_in number_back back copied_one_to_one
  where
    back : (r : Result (Unit {0}) CopyError) → number_back (number_in (paper_copied r)) ≡ paper_copied r
    back (Ok done) = refl
    back (Err Copy.WrongInput) = refl
    back (Err Copy.WrongOutput) = refl

pub filled_told : Injective (λ (r : Result (Unit {0}) FillError). number_in (paper_filled r))
unfolding number_back
filled_told = through number_in number_back back filled_one_to_one
  where
    back : (r : Result (Unit {0}) FillError) → number_back (number_in (paper_filled r)) ≡ paper_filled r
    back (Ok done) = refl
    back (Err Fill.UnknownFormat) = refl
    back (Err Fill.WrongOutput) = refl
