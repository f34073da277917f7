-- `read::read::read_words` meets its contract.
-- Assumes nothing.
use mathlib.Core.Path.{sym, ap, ◌∙◌}
use Rattle.ground.specs.Answer.{given}
use Rattle.read_test20.specs.declared.whole.Valid.{Valid}
use Rattle.read_test21_26.specs.Inside.Call.{service_of}
use Rattle.read_test21_26.specs.Inside.Verdict.{first_row}
use Rattle.span.specs.Format.{shape_of}
use Rattle.read.specs.Call.{paper_read}
use Rattle.read.specs.Inside.Picture.{line_tests}
use Rattle.read.proofs.Verdicts.{serves_told, handed}
use Rattle.read.proofs.Windows.{judged_is, judged_refused, first_hold, read_by, delivery_is}
use Rattle.read.proofs.read.read_words.Goals as goal

pub returns-in_err-service : goal.returns-in_err-service
returns-in_err-service c =
    let a = c.args in
    let w = a.symbols.now in
    let judged = judged_is a.f w c.requires.window (ap (λ (x : Valid). x.sums) c.requires.v_value) c.service_of.ensures in
    ap paper_read (handed _ c.from_residual.ensures.1)
    ∙ judged_refused a.f w c.requires.window _ c.requires.symbols_value (sym c.in_err-service.was ∙ judged)

pub returns-in_err-judge_picture : goal.returns-in_err-judge_picture
returns-in_err-judge_picture c =
    let a = c.args in
    let w = a.symbols.now in
    let is = c.requires.window in
    let judged = judged_is a.f w is (ap (λ (x : Valid). x.sums) c.requires.v_value) c.service_of.ensures in
    let told = serves_told (service_of (shape_of a.f) w) (first_row (line_tests a.f w)) (sym c.in_ok-service.was ∙ judged) in
    let fails = first_hold a.f w is told.0 ∙ sym c.judge_picture.ensures ∙ c.in_err-judge_picture.was in
    ap paper_read (handed _ c.from_residual-in_err-judge_picture.ensures.1) ∙ sym (read_by a.f w is c.requires.symbols_value fails)

pub returns : goal.returns
returns c =
    let a = c.args in
    let w = a.symbols.now in
    let is = c.requires.window in
    let judged = judged_is a.f w is (ap (λ (x : Valid). x.sums) c.requires.v_value) c.service_of.ensures in
    let told = serves_told (service_of (shape_of a.f) w) (first_row (line_tests a.f w)) (sym c.in_ok-service.was ∙ judged) in
    let hold = first_hold a.f w is told.0 ∙ sym c.judge_picture.ensures ∙ c.in_ok-judge_picture.was in
    ap given (c.delivery.ensures ∙ delivery_is a.f w is c.requires.v_value told.1) ∙ sym (read_by a.f w is c.requires.symbols_value hold)
