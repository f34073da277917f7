-- `read::accept::accept_words` meets its contract.
-- Assumes nothing.
use Rattle.std.specs.Result.{result_ok}
use mathlib.Core.Path.{sym, ap, ap₂, ◌∙◌}
use mathlib.Core.List.{List}
use mathlib.Core.Option.{some}
use Prim.Native.Nat.{ℕ}
use Rattle.read_test20.specs.declared.whole.Valid.{Valid}
use Rattle.read_test21_26.specs.declared.call.Service.{Service}
use Rattle.read_test21_26.specs.Inside.Call.{service_of}
use Rattle.read_test21_26.specs.Inside.Verdict.{first_row}
use Rattle.span.specs.Format.{shape_of}
use Rattle.read.specs.Inside.Accept.{accepted_in, delivered_in}
use Rattle.read.specs.Inside.Picture.{line_tests, right_picture}
use Rattle.read.proofs.Accepted.{not_accepted, not_served}
use Rattle.read.proofs.Picturing.{both_hold, picture_refused}
use Rattle.read.proofs.Verdicts.{ok_told, none_served, serves_told}
use Rattle.read.proofs.Windows.{judged_is, first_hold, read_by, delivery_is}
use Rattle.read.proofs.accept.accept_words.Goals as goal

pub returns-then-picture_is_right : goal.returns-then-picture_is_right
returns-then-picture_is_right c =
    let a = c.args in
    let w = a.symbols.now in
    let is = c.requires.window in
    let judged = judged_is a.f w is (ap (λ (x : Valid). x.sums) c.requires.v_value) c.service_of.ensures in
    let told = serves_told (service_of (shape_of a.f) w) (first_row (line_tests a.f w)) (sym (ok_told _ (sym c.ok.ensures.value ∙ c.in_ok-service.was)) ∙ judged) in
    let right =
    sym (ap₂ (λ (n : ℕ) (l : List ℕ). right_picture a.f n l) (ap (λ (x : Service). x.line.0) told.1) c.requires.rows_value)
    ∙ sym c.picture_is_right.ensures ∙ c.if-picture_is_right.true in
    let read = read_by a.f w is c.requires.symbols_value (first_hold a.f w is told.0 ∙ sym (both_hold a.f w is right c.requires.symbols_value_2)) in
    ap some (c.delivery.ensures ∙ delivery_is a.f w is c.requires.v_value told.1) ∙ sym (ap delivered_in read)

pub returns : goal.returns
returns c =
    let a = c.args in
    let w = a.symbols.now in
    let is = c.requires.window in
    let judged = judged_is a.f w is (ap (λ (x : Valid). x.sums) c.requires.v_value) c.service_of.ensures in
    let told = serves_told (service_of (shape_of a.f) w) (first_row (line_tests a.f w)) (sym (ok_told _ (sym c.ok.ensures.value ∙ c.in_ok-service.was)) ∙ judged) in
    let right =
    sym (ap₂ (λ (n : ℕ) (l : List ℕ). right_picture a.f n l) (ap (λ (x : Service). x.line.0) told.1) c.requires.rows_value)
    ∙ sym c.picture_is_right.ensures ∙ c.if-picture_is_right.false in
    not_accepted a.f w is c.requires.symbols_value told.0 (picture_refused a.f w is right)

pub returns-in_err-service : goal.returns-in_err-service
returns-in_err-service c =
    let a = c.args in
    let w = a.symbols.now in
    let is = c.requires.window in
    let judged = judged_is a.f w is (ap (λ (x : Valid). x.sums) c.requires.v_value) c.service_of.ensures in
    let none = sym (ap result_ok judged) ∙ sym c.ok.ensures.value ∙ c.in_err-service.was in
    ap accepted_in c.from_residual.ensures ∙ not_served a.f w is c.requires.symbols_value (none_served (service_of (shape_of a.f) w) _ none)
