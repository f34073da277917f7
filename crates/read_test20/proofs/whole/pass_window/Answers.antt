-- `read_test20::whole::pass_window` meets its contract.
-- Assumes nothing.
use Rattle.std.specs.Prelude.{is_some}
use mathlib.Core.Path.{◌≡◌, refl, sym, ap, ◌∙◌}
use mathlib.Core.Bool.{true, true≢false}
use native.Mathlib.Omega.{arith}
use Rattle.window.specs.Inside.Fill.{fill_right}
use Rattle.read_test20.proofs.Getting.{picture_is, sums_are}
use Rattle.read_test20.proofs.Kept.{sav_stands, bytes_stand, is_valid}
use Rattle.read_test20.proofs.Wholes.{scanned_whole, reached_behind}
use Rattle.row_crc.proofs.Rows.{some_sums, are_sums}
use Rattle.read_test20.specs.Inside.Run.{Walked}
use Rattle.read_test20.specs.Inside.Whole.{AllHold}
use Rattle.read_test20.proofs.Passing.{is_faulty}
use Rattle.read_test20.proofs.Window.{not_yet}
use Rattle.read_test20.proofs.whole.pass_window.Goals as goal

pub returns-in_default : goal.returns-in_default
returns-in_default c =
    let a = c.args in
    let w = a.symbols.now in
    let not-all : AllHold a.p w → (a.haste ≡ true → fill_right a.p w ≡ true) → ⊥ =
    λ all right. true≢false (sym (c.in_default.ensures.kept (sav_stands a.p w all (omega (arith, c.requires.given.half, c.requires.given.long))))) in
    is_faulty a.p w a.haste a.rows.now c.fault_from_start.ensures not-all (not_yet a.p w refl)

pub returns-then-not-passes : goal.returns-then-not-passes
returns-then-not-passes c =
    let a = c.args in
    let w = a.symbols.now in
    let h = c.requires.given.half in
    let not-all : AllHold a.p w → (a.haste ≡ true → fill_right a.p w ≡ true) → ⊥ =
    λ all right. true≢false (sym (c.passes.ensures ∙ c.see_run-head.ensures.kept (bytes_stand a.p w all _ _ (omega arith) (omega (arith, h, c.requires.given.long)) (λ i a b e. absurd (omega (arith, h))))) ∙ c.if-not-passes.true) in
    is_faulty a.p w a.haste a.rows.now c.fault_from_start-then-not-passes.ensures not-all (not_yet a.p w refl)

pub returns-then-not-passes-2 : goal.returns-then-not-passes-2
returns-then-not-passes-2 c =
    let a = c.args in
    let w = a.symbols.now in
    let not-all : AllHold a.p w → (a.haste ≡ true → fill_right a.p w ≡ true) → ⊥ =
    λ all right. true≢false (sym (c.passes-2.ensures ∙ c.take_picture-v.ensures.kept (bytes_stand a.p w all _ _ (omega (arith, c.requires.given.half)) (omega (arith, c.requires.given.half, c.requires.given.long)) (λ i a b q. absurd (omega arith)))) ∙ c.if-not-passes-2.true) in
    let right = sym c.passes.ensures ∙ c.if-not-passes.false in
    let come = c.take_picture-v.ensures.come in
    let scan = reached_behind a.p w (c.in-Some.ensures.sound) c.see_run-head.ensures right come c.requires.given.long in
    is_faulty a.p w a.haste a.rows.now c.fault_after.ensures not-all scan

pub returns-in_default-end_of : goal.returns-in_default-end_of
returns-in_default-end_of c =
    let a = c.args in
    let w = a.symbols.now in
    let not-all : AllHold a.p w → (a.haste ≡ true → fill_right a.p w ≡ true) → ⊥ = λ all right. true≢false (sym (c.in_default-end_of.ensures.kept all right)) in
    let right = sym c.passes.ensures ∙ c.if-not-passes.false in
    let come = c.take_picture-v.ensures.come in
    let scan = reached_behind a.p w (c.in-Some.ensures.sound) c.see_run-head.ensures right come c.requires.given.long in
    is_faulty a.p w a.haste a.rows.now c.fault_after-in_default-end_of.ensures not-all scan

pub unwrap-sums-requires : goal.unwrap-sums-requires
unwrap-sums-requires c =
    ap is_some c.sums_of_rows.ensures ∙ some_sums _ c.args.p.stream_pairs c.requires.given.half c.requires.given.small.half (omega (arith, c.requires.rows_len, c.take_picture-v.ensures.size))

pub returns : goal.returns
returns c =
    let w = c.args.symbols.now in
    let right = sym c.passes.ensures ∙ c.if-not-passes.false in
    let rights = sym c.passes-2.ensures ∙ c.if-not-passes-2.false in
    let got = c.take_picture-v.ensures.got rights in
    let picture = picture_is c.args.p w c.requires.given.small.half c.requires.given.half c.requires.rows_len got in
    let scanned = scanned_whole c.args.p w c.in-Some.ensures.sound c.see_run-head.ensures right got.clean rights c.in-Some-end_of.ensures.whole in
    let all = sym (ap (λ (x : Walked). x.place) scanned) in
    let filled = c.in-Some-end_of.ensures.filled in
    let before = c.disparity_by.ensures ∙ ap (λ (x : Walked). x.before) scanned in
    let after = c.disparity_by-2.ensures ∙ ap (λ (x : Walked). x.after) scanned in
    let sums =
    are_sums _ c.args.p.stream_pairs c.requires.given.half c.requires.given.small.half (sym c.sums_of_rows.ensures ∙ c.unwrap-sums.ensures) (omega (arith, c.requires.rows_len, c.take_picture-v.ensures.size))
    ∙ sums_are c.args.p w picture c.requires.given.small.half c.requires.given.half in
    (all, is_valid c.args.p w all filled before after sums, picture)
