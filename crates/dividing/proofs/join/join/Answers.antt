-- `dividing::join::join` meets its contract: the lengths say which answer it is, and `merge` what is written.
-- Assumes nothing.
use mathlib.Core.Path.{sym, ◌∙◌}
use native.Mathlib.Omega.{arith}
use Rattle.ground.proofs.Answers.{when_refused, when_given}
use Rattle.dividing.proofs.Lengths.{joins, join_meets_3, join_meets_4}
use Rattle.dividing.proofs.join.join.Goals as goal

pub returns-then-first-ne1920 : goal.returns-then-first-ne1920
returns-then-first-ne1920 c =
    let a = c.args in
    let bad = join_meets_3 a.row.now a.first.now a.second.now (λ p q. omega arith) in
    record { answer = sym bad; row = when_refused _ _ bad }

pub returns-then-second-ne1920 : goal.returns-then-second-ne1920
returns-then-second-ne1920 c =
    let a = c.args in
    let bad = join_meets_3 a.row.now a.first.now a.second.now (λ p q. omega arith) in
    record { answer = sym bad; row = when_refused _ _ bad }

pub returns-then-row-ne3840 : goal.returns-then-row-ne3840
returns-then-row-ne3840 c =
    let a = c.args in
    let bad = join_meets_4 a.row.now a.first.now a.second.now (omega arith) (omega arith) (λ e. omega arith) in
    record { answer = sym bad; row = when_refused _ _ bad }

pub merge-requires : goal.merge-requires
merge-requires c = record { first_len = omega arith; second_len = omega arith; row_len = omega arith }

pub returns : goal.returns
returns c =
    let a = c.args in
    let good = joins a.row.now a.first.now a.second.now (omega arith) (omega arith) (omega arith) in
    let merged = c.merge.ensures in record { answer = sym good; row = merged ∙ when_given _ _ good }
