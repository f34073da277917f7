-- What holds of dividing a picture into places, proved: each field cites the law that says it.
-- Assumes nothing.
use Rattle.picture.specs.Laws.{PictureLaws}
use Rattle.picture.proofs.OneToOne.{placed_one_to_one}
use Rattle.picture.proofs.Places.{placed, meets_2, basic_line, basic_sample, place_travels, line_of_place}
use Rattle.picture.proofs.Steps.{one_of_four, line_back_lem, sample_back, step_again}

pub picture_laws : PictureLaws
picture_laws = record {
  line_back = line_back_lem;
  sample_back = sample_back;
  image_back = step_again;
  images = one_of_four;
  lines = basic_line;
  samples = basic_sample;
  placed = placed;
  place_meets2 = meets_2;
  place_travels = place_travels;
  line_of_place = line_of_place;
  placed_told = placed_one_to_one;
}
