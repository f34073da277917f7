-- `read_test20::whole::pass` meets its contract.
-- Assumes nothing.
use Rattle.std.specs.Prelude.{Err}
use mathlib.Core.Path.{◌≡◌, refl, sym, ◌∙◌}
use mathlib.Core.Bool.{true, true≢false}
use Rattle.span.specs.Format.{shape_of}
use Rattle.window.specs.Inside.Fill.{fill_right}
use Rattle.window.proofs.Givens.{given_then}
use Rattle.read_test20.specs.Inside.Whole.{AllHold}
use Rattle.read_test20.proofs.Kept.{ten_bits}
use Rattle.read_test20.proofs.Passing.{is_faulty, window_passed}
use Rattle.read_test20.proofs.Window.{not_yet}
use Rattle.read_test20.proofs.whole.pass.Goals as goal

pub returns-then-not-are_ten_bits : goal.returns-then-not-are_ten_bits
returns-then-not-are_ten_bits c =
    let a = c.args in
    let w = a.symbols.now in
    let p = shape_of a.f in
    let fit = sym c.is_ready.ensures ∙ c.if-not-is_ready.false in
    let not-all : AllHold p w → (a.haste ≡ true → fill_right p w ≡ true) → ⊥ =
    λ all _. true≢false (sym (c.are_ten_bits.ensures.kept (ten_bits p w all)) ∙ c.if-not-are_ten_bits.true) in
    window_passed a.f w a.haste a.rows.now a.rows.now (Err _) fit (is_faulty p w a.haste a.rows.now c.fault_from_start.ensures not-all (not_yet p w refl)) refl

pub pass_window-requires-clause-given : goal.pass_window-requires-clause-given
pass_window-requires-clause-given c =
    given_then c.args.f c.args.symbols.now _ (sym c.is_ready.ensures ∙ c.if-not-is_ready.false) c.decoding_table-t.ensures c.shape_of.ensures
