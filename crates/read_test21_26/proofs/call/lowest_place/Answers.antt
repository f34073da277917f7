-- `read_test21_26::call::lowest_place` meets its contract.
-- Assumes nothing.
use Rattle.std.specs.Prelude.{Ok}
use mathlib.Core.Path.{◌≡◌, refl, sym, ap, ◌∙◌}
use mathlib.Core.Bool.{true}
use native.Mathlib.Omega.{arith}
use lib.ListN.{length}
use Rattle.span.proofs.Formats.{small}
use Rattle.read_test21_26.specs.declared.service.Test.TheVariants.{Sample}
use Rattle.read_test21_26.specs.Inside.Call.{is_window}
use Rattle.read_test21_26.proofs.Calls.{given, is_place_25, is_place_26, other_place}
use Rattle.read_test21_26.proofs.call.lowest_place.Goals as goal

pub invariant_of-window : goal.invariant_of-window
invariant_of-window c =
    record {
      given = given _ (sym c.is_window.ensures ∙ c.if-not-is_window.false)
          c.shape_of-p.ensures c.decoding_table-t.ensures;
    }

pub first_wrong-requires : goal.first_wrong-requires
first_wrong-requires c = record { from_le_to = omega arith; to_bound = omega arith }

pub returns-in-Sample : goal.returns-in-Sample
returns-in-Sample c =
    let a = c.args in
    let w = a.symbols.now in
    let is : is_window a.f (length w) ≡ true = sym c.is_window.ensures ∙ c.if-not-is_window.false in
    let asked : a.test ≡ Sample = c.in-Sample.is in
    rw (is, asked) (ap Ok (is_place_25 a.f w c.shape_of-p.ensures _ c.first_wrong.ensures (omega arith) (omega arith) refl))

pub overflow_add-from : goal.overflow_add-from
overflow_add-from c = omega (arith, (small _ c.shape_of-p.ensures).ancillary)

pub first_wrong-requires-in_default : goal.first_wrong-requires-in_default
first_wrong-requires-in_default c =
    record { from_le_to = omega arith; to_bound = omega arith }

pub returns-in_default : goal.returns-in_default
returns-in_default c =
    let a = c.args in
    let w = a.symbols.now in
    let is : is_window a.f (length w) ≡ true = sym c.is_window.ensures ∙ c.if-not-is_window.false in
    rw (is, other_place a.test a.f w c.in_default.not-Sample) (ap Ok (is_place_26 a.f w c.shape_of-p.ensures _ c.first_wrong-in_default.ensures (omega arith) (omega arith) refl))
