-- `generate::write::write_pieces` meets its contract: there is a span less to send after each turn, what is left may be sent, and the
-- disparity after all of it stays the same.
-- Assumes nothing.
use mathlib.Core.Path.{◌≡◌, sym, ap, subst, ◌∙◌}
use Prim.Native.Nat.{◌<◌}
use native.Mathlib.Omega.{arith}
use borrow.Author.Rules.{rules}
use Rattle.generate.specs.declared.left.Left.{Left}
use Rattle.generate.specs.Pieces.{Ready, after_left}
use Rattle.generate.proofs.Lefts.{after_next_lem, after_none}
use Rattle.generate.proofs.Ready.{next_ready}
use Rattle.generate.proofs.write.write_pieces.Goals as goal

pub loop-s-preserved : goal.loop-s-preserved
loop-s-preserved g c =
    let v = c.loop-s in
    let next = c.put_next-s.ensures.next in
    let some : 0 < v.s.count = omega (arith, c.loop-s-test.true) in (
      subst Ready (sym next) (next_ready v.s v.invariant.0 some),
      ap (λ (s : Left). s.format) next ∙ v.invariant.1,
      search rules,
      search rules,
      search rules,
      ap after_left next ∙ after_next_lem v.s some ∙ v.invariant.5,
    )

pub returns : goal.returns
returns g c =
    let v = c.loop-s in
    let none : v.s.count ≡ 0 = omega (arith, c.loop-s-test.false) in
    sym (after_none v.s none) ∙ v.invariant.5
