-- Dividing a picture in the papers' own numerals, proved: each field cites the law that says it.
-- Assumes nothing.
use Rattle.picture.proofs.Choices.{picture_on, blanking_on}
use Rattle.picture.proofs.Places.{place_of_1_1, place_of_2160_3839, no_line_on, line_on_active}
use Rattle.picture.proofs.Steps.{odd_line_even_sample, odd_line_odd_sample, even_line_even_sample, even_line_odd_sample, h_listed, w_listed}
use Rattle.picture.specs.Paper.{PicturePaper}

pub picture_paper : PicturePaper
picture_paper = record {
  odd_line_even_sample = odd_line_even_sample;
  odd_line_odd_sample = odd_line_odd_sample;
  even_line_even_sample = even_line_even_sample;
  even_line_odd_sample = even_line_odd_sample;
  h_listed = h_listed;
  w_listed = w_listed;
  place_of_first = place_of_1_1;
  place_of_last = place_of_2160_3839;
  line_on = line_on_active;
  no_line_on = no_line_on;
  picture_on = picture_on;
  blanking_on = blanking_on;
}
