-- `test_picture::samples::put_images` meets its contract: the library's call divides the row, and its two parts are copied one after the other.
-- Assumes nothing.
use mathlib.Core.Path.{refl}
use lib.ListN.{replicate}
use Rattle.test_picture.specs.TestPicture.{row_in_steps}
use Rattle.test_picture.proofs.Images.{both_put}
use Rattle.test_picture.proofs.Rows.{length_row}
use Rattle.test_picture.proofs.samples.put_images.Goals as goal

pub returns : goal.returns
returns c =
    let a = c.args in
    both_put (row_in_steps a.step a.line.0) (replicate 1920 0) (replicate 1920 0) c.put_codes.ensures (length_row a.step a.line.0)
    refl refl c.split.ensures.first c.split.ensures.second a.samples.now a.at c.copy_to.ensures c.copy_to-2.ensures
