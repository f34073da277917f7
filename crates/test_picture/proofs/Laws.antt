-- What holds of the test picture, proved: each field cites the law that says it.
-- Assumes nothing.
use Rattle.test_picture.specs.Laws.{TestPictureLaws}
use Rattle.test_picture.proofs.Codes.{values, mirrored, exchanged, code_low, code_high}
use Rattle.test_picture.proofs.Images.{on_two, on_four, sample_is}
use Rattle.test_picture.proofs.OneToOne.{put_one_to_one}
use Rattle.test_picture.proofs.Puttings.{puts_row, row_meets_2, row_meets_4}
use Rattle.test_picture.proofs.Rows.{row_ten, row_twelve}
use Rattle.test_picture.proofs.Sendings.{are_blanking, samples_long, is_sent}

pub test_picture_laws : TestPictureLaws
test_picture_laws = record {
  values = values;
  mirrored = mirrored;
  exchanged = exchanged;
  codes = λ line sample. (code_low line sample, code_high line sample);
  row_ten = row_ten;
  row_twelve = row_twelve;
  puts_row = puts_row;
  row_meets2 = row_meets_2;
  row_meets4 = row_meets_4;
  on_two = on_two;
  on_four = on_four;
  sample_is = sample_is;
  are_blanking = are_blanking;
  samples_long = samples_long;
  is_sent = is_sent;
  put_told = put_one_to_one;
}
