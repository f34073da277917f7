-- `read_test21_26::service::judge_words` meets its contract: the first test that does not hold.
-- Assumes nothing.
use mathlib.Core.Path.{sym, ap, ◌∙◌}
use Rattle.read_test21_26.specs.Inside.Verdict.{is_failed}
use Rattle.read_test21_26.proofs.InTurn.{refused_as, sav_wrong, eav_wrong, line_wrong, v_wrong, next_v_wrong, crcc_last}
use Rattle.read_test21_26.proofs.service.judge_words.Goals as goal

pub returns-in_err-judge_one : goal.returns-in_err-judge_one
returns-in_err-judge_one c =
    let a = c.args in
    let was = c.in_err-judge_one.was in
    refused_as _ c.from_residual.ensures.1 ∙ sym was
    ∙ sav_wrong a.x.format a.x.window.shape a.x.window.symbols.now a.x.sums c.args.x.window.given.half c.judge_one.ensures (ap is_failed was)

pub returns-in_err-judge_one-2 : goal.returns-in_err-judge_one-2
returns-in_err-judge_one-2 c =
    let a = c.args in
    let was = c.in_err-judge_one-2.was in
    refused_as _ c.from_residual-in_err-judge_one-2.ensures.1 ∙ sym was
    ∙ eav_wrong a.x.format a.x.window.shape a.x.window.symbols.now a.x.sums c.args.x.window.given.half c.judge_one.ensures (ap is_failed c.in_ok-judge_one.was) c.judge_one-2.ensures (ap is_failed was)

pub returns-in_err-judge_one-3 : goal.returns-in_err-judge_one-3
returns-in_err-judge_one-3 c =
    let a = c.args in
    let was = c.in_err-judge_one-3.was in
    refused_as _ c.from_residual-in_err-judge_one-3.ensures.1 ∙ sym was
    ∙ line_wrong a.x.format a.x.window.shape a.x.window.symbols.now a.x.sums c.args.x.window.given.half c.judge_one.ensures (ap is_failed c.in_ok-judge_one.was) c.judge_one-2.ensures (ap is_failed c.in_ok-judge_one-2.was) c.judge_one-3.ensures (ap is_failed was)

pub returns-in_err-judge_one-4 : goal.returns-in_err-judge_one-4
returns-in_err-judge_one-4 c =
    let a = c.args in
    let was = c.in_err-judge_one-4.was in
    refused_as _ c.from_residual-in_err-judge_one-4.ensures.1 ∙ sym was
    ∙ v_wrong a.x.format a.x.window.shape a.x.window.symbols.now a.x.sums c.args.x.window.given.half c.judge_one.ensures (ap is_failed c.in_ok-judge_one.was) c.judge_one-2.ensures (ap is_failed c.in_ok-judge_one-2.was) c.judge_one-3.ensures (ap is_failed c.in_ok-judge_one-3.was) c.judge_one-4.ensures (ap is_failed was)

pub returns-in_err-judge_one-5 : goal.returns-in_err-judge_one-5
returns-in_err-judge_one-5 c =
    let a = c.args in
    let was = c.in_err-judge_one-5.was in
    refused_as _ c.from_residual-in_err-judge_one-5.ensures.1 ∙ sym was
    ∙ next_v_wrong a.x.format a.x.window.shape a.x.window.symbols.now a.x.sums c.args.x.window.given.half c.judge_one.ensures (ap is_failed c.in_ok-judge_one.was) c.judge_one-2.ensures (ap is_failed c.in_ok-judge_one-2.was) c.judge_one-3.ensures (ap is_failed c.in_ok-judge_one-3.was) c.judge_one-4.ensures (ap is_failed c.in_ok-judge_one-4.was) c.judge_one-5.ensures (ap is_failed was)

pub returns : goal.returns
returns c =
    let a = c.args in
    crcc_last a.x.format a.x.window.shape a.x.window.symbols.now a.x.sums c.args.x.window.given.half c.judge_one.ensures (ap is_failed c.in_ok-judge_one.was) c.judge_one-2.ensures (ap is_failed c.in_ok-judge_one-2.was) c.judge_one-3.ensures (ap is_failed c.in_ok-judge_one-3.was) c.judge_one-4.ensures (ap is_failed c.in_ok-judge_one-4.was) c.judge_one-5.ensures (ap is_failed c.in_ok-judge_one-5.was) c.judge_one-6.ensures
