-- What the calls on the place of a sample and on the way back answer to C (document 01, "Dividing a picture": image, line and sample; 2 outside
-- the picture).
-- Assumes nothing.
use Rattle.ground.specs.Answer.{Answer, refused, given}
use Rattle.picture.specs.declared.place.Place.{Place}
use Rattle.boundary.specs.Numbers.{picture_line_number, stream_line_number}
use Rattle.way_back.specs.declared.back.ImageLine.{ImageLine}
use Rattle.picture_answers.specs.declared.pictures.PlaceAnswer.{PlaceAnswer}
use Rattle.picture_answers.specs.declared.pictures.WayBackAnswer.{WayBackAnswer}

abbrev pub place_answer_of : Answer Place → PlaceAnswer
place_answer_of (refused number place) =
    record { number = number; image = 0; image_line = 0; stream_line = record { number = 0 }; sample = 0 }
place_answer_of (given p) =
    record {
      number = 0;
      image = p.image;
      image_line = p.line.0;
      stream_line = stream_line_number p.stream;
      sample = p.sample;
    }

-- the way back: image and picture line
abbrev pub way_back_answer_of : Answer ImageLine → WayBackAnswer
way_back_answer_of (refused number place) = record { number = number; image = 0; line = record { number = 0 } }
way_back_answer_of (given x) = record { number = 0; image = x.image; line = picture_line_number x.line }
