-- `dividing::split::split` meets its contract: the lengths say which answer it is, and `deal` what is written.
-- Assumes nothing.
use mathlib.Core.Path.{sym, ◌∙◌}
use native.Mathlib.Omega.{arith}
use Rattle.ground.proofs.Answers.{when_refused, when_given}
use Rattle.dividing.proofs.Lengths.{splits, split_meets_3, split_meets_4}
use Rattle.dividing.proofs.split.split.Goals as goal

pub returns-then-row-ne3840 : goal.returns-then-row-ne3840
returns-then-row-ne3840 c =
    let a = c.args in
    let bad = split_meets_3 a.row.now a.first.now a.second.now (λ e. omega arith) in
    record { answer = sym bad; first = when_refused _ _ bad; second = when_refused _ _ bad }

pub returns-then-first-ne1920 : goal.returns-then-first-ne1920
returns-then-first-ne1920 c =
    let a = c.args in
    let bad = split_meets_4 a.row.now a.first.now a.second.now (omega arith) (λ p q. omega arith) in
    record { answer = sym bad; first = when_refused _ _ bad; second = when_refused _ _ bad }

pub returns-then-second-ne1920 : goal.returns-then-second-ne1920
returns-then-second-ne1920 c =
    let a = c.args in
    let bad = split_meets_4 a.row.now a.first.now a.second.now (omega arith) (λ p q. omega arith) in
    record { answer = sym bad; first = when_refused _ _ bad; second = when_refused _ _ bad }

pub deal-requires : goal.deal-requires
deal-requires c = record { row_len = omega arith; first_len = omega arith; second_len = omega arith }

pub returns : goal.returns
returns c =
    let a = c.args in
    let good = splits a.row.now a.first.now a.second.now (omega arith) (omega arith) (omega arith) in
    record { answer = sym good; first = c.deal.ensures.first ∙ when_given _ _ good; second = c.deal.ensures.second ∙ when_given _ _ good }
