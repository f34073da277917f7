-- `read_test20::whole::take` meets its contract.
-- Assumes nothing.
use Rattle.std.specs.Prelude.{Err}
use mathlib.Core.Path.{◌≡◌, ap, ◌∙◌}
use Prim.Native.Nat.{ℕ}
use native.Mathlib.Omega.{arith}
use lib.ListN.{length, get_or, length-append, length-take, length-drop, get_or-append}
use borrow.Author.Rules.{rules}
use Rattle.read_test20.proofs.Passing.{fault_taken, fault_rows}
use Rattle.read_test20.proofs.Zeros.{all_zero, are_zeros, behind}
use Rattle.read_test20.proofs.whole.take.Goals as goal

pub returns-in-Err-Faulty : goal.returns-in-Err-Faulty
returns-in-Err-Faulty c =
    let a = c.args in
    let faulty = c.in-Err-Faulty.is ∙ ap Err c.in-Err-Faulty.field-0-is in
    let zeros : (j : ℕ) → get_or c.fill.new.self j 0 ≡ 0 = λ j. rw (c.fill.ensures.after (λ y e. e)) (all_zero _ j) in
    record {
      taken = fault_taken a.f a.symbols.now a.rows.now _ _ c.pass.ensures faulty c.fault_at.ensures;
      rows =
          fault_rows a.f a.symbols.now a.rows.now _ _ c.pass.ensures (length c.pass.new.rows) faulty (search rules)
          (are_zeros _ _ (omega (arith, length-append {A = ℕ}, length-take {A = ℕ}, length-drop {A = ℕ}, c.fill.ensures.len))
          (λ i h. omega (arith, zeros, behind, get_or-append {A = ℕ}, length-append {A = ℕ}, length-take {A = ℕ}, length-drop {A = ℕ}, c.fill.ensures.len)));
    }
