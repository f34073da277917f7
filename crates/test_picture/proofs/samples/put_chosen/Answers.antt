-- `test_picture::samples::put_chosen` meets its contract: the row that is chosen is the one that is copied.
-- Assumes nothing.
use mathlib.Core.Path.{sym, ap, ◌∙◌}
use lib.Seq.{sets}
use Rattle.ground.proofs.Answers.{when_given}
use Rattle.ground.proofs.Writing.{sets_whole}
use Rattle.span.specs.Blanking.{blank_row}
use Rattle.span.proofs.Blank.{fills}
use Rattle.test_picture.specs.TestPicture.{test_samples}
use Rattle.test_picture.proofs.Sendings.{samples_long, is_chosen}
use Rattle.test_picture.proofs.samples.put_chosen.Goals as goal

pub returns : goal.returns
returns c =
    let f = c.args.f in
    let n = c.args.l.0 in
    let blank = c.fill_blanking.ensures.row ∙ sym (when_given c.args.blanking.now (blank_row f) (fills f c.args.blanking.now c.requires.f_value c.requires.blanking_len)) in
    let is = is_chosen f n (λ x. x.now) _ _ c.args.shown.now c.row_on-chosen.ensures c.put_picture.ensures blank in
    let o = c.args.samples.now in
    c.copy_to.ensures
    ∙ ap (sets o 0) is
    ∙ sets_whole o (test_samples f n) (samples_long f n ∙ sym c.requires.samples_len)
