-- `send::check::outside` meets its contract: the wrapped difference is above the room exactly for a sample outside the bounds.
-- Assumes nothing.
use Rattle.std.proofs.Common.{◌≡◌, ◌≢◌, eqb, sym, ◌∙◌, arith}
use borrow.Author.Tests.{eqb-true, eqb-false}
use Rattle.ground.proofs.Cases.{on_test}
use Rattle.ground.proofs.Ranges.{is_within, not_within}
use Rattle.send.proofs.check.outside.Goals as goal

pub returns : goal.returns
returns c =
    let a = c.args in
    let r = c.saturating_sub.result in
    on_test (eqb r 0)
    (λ t. let none : r ≡ 0 = eqb-true r 0 t in t ∙ sym (is_within a.low a.high a.x (omega arith) (omega arith)))
    (λ t. let some : r ≢ 0 = eqb-false r 0 t in t ∙ sym (not_within a.low a.high a.x (λ p q. omega arith)))
