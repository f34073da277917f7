-- `read_test20::whole::tail_of` meets its contract: the ancillary area, and then the fill.
-- Assumes nothing.
use mathlib.Core.Path.{refl, sym, ◌∙◌}
use native.Mathlib.Omega.{arith}
use Rattle.std.proofs.lemmas.Option.{IfSome_then}
use Rattle.read_test20.specs.Inside.Whole.{FillSeen}
use Rattle.read_test20.proofs.Fills.{fill_right_lem, right_fill}
use Rattle.read_test20.proofs.Kept.{bytes_in, agree}
use Rattle.read_test20.proofs.whole.tail_of.Goals as goal

pub returns-clause-filled : goal.returns-clause-filled
returns-clause-filled c =
    let w = c.args.symbols.now in
    let p = c.args.p in
    let half = c.requires.given.half in
    let long = c.requires.given.long in
    let going = c.see_area-area.ensures.clean (sym c.passes.ensures ∙ c.if-not-passes.false) in
    IfSome_then c.see_fill.result {P = FillSeen w _ _ _} c.see_fill.ensures.seen (λ e seen.
    agree _ _ (λ b. fill_right_lem p w _ _ half long refl (seen.sound b))
    (λ right. seen.kept (right_fill p w _ _ half long refl going.bit seen.run.going.suited right)))

pub returns-clause-kept : goal.returns-clause-kept
returns-clause-kept c =
    let w = c.args.symbols.now in
    let p = c.args.p in
    let half = c.requires.given.half in
    let long = c.requires.given.long in
    let going = c.see_area-area.ensures.clean (sym c.passes.ensures ∙ c.if-not-passes.false) in
    λ all right. c.see_fill.ensures.kept (bytes_in all (omega (arith, long)) (omega arith)) (λ h. right_fill p w _ _ half long refl going.bit (bytes_in all (omega (arith, long)) (omega arith)).each (right h))
