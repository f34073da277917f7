-- `reception::receive::put_span` meets its contract.
-- Assumes nothing.
use mathlib.Core.Path.{sym, ◌∙◌}
use native.Mathlib.Omega.{arith}
use Rattle.ground.proofs.Ranges.{from_low, to_high}
use Rattle.recording.specs.Recording.{Reading}
use Rattle.reception.proofs.Bringing.{heard_put, brought}
use Rattle.reception.proofs.receive.put_span.Goals as goal

pub overflow_sub-k : goal.overflow_sub-k
overflow_sub-k c =
    omega (arith, from_low _ _ _ (sym c.within.ensures ∙ c.if-within.true))

pub bounds-heard-k : goal.bounds-heard-k
bounds-heard-k c =
    omega (arith, to_high _ _ _ (sym c.within.ensures ∙ c.if-within.true))

pub put_row-requires : goal.put_row-requires
put_row-requires c =
    let most = to_high _ _ _ (sym c.within.ensures ∙ c.if-within.true) in
    record { t_bound = omega arith; at_in_bounds = omega (arith, most) }

pub put_row-requires-then-is_active : goal.put_row-requires-then-is_active
put_row-requires-then-is_active c =
    let most = to_high _ _ _ (sym c.within.ensures ∙ c.if-within.true) in
    record { t_bound = omega arith; at_in_bounds = omega (arith, most) }

pub returns-then-is_active : goal.returns-then-is_active
returns-then-is_active c =
    let a = c.args in
    let x : Reading = record { values = a.delivery; words = a.rows.now } in
    let inside = sym c.within.ensures ∙ c.if-within.true in
    let is-active = sym c.is_active.ensures ∙ c.if-is_active.true in
    let from = c.number_of-m.ensures in
    let is = c.number_of-n.ensures in record { heard = heard_put a.first.0 c.number_of-m.result c.number_of-n.result x from is inside a.heard.now; picture = brought a.first.0 c.number_of-m.result c.number_of-n.result x from is inside is-active a.picture.now _ _ _ c.put_row.ensures c.put_row-then-is_active.ensures (omega arith) (omega arith) }
