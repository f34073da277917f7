-- `read_test20::whole::end_of` meets its contract.
-- Assumes nothing.
use mathlib.Core.Path.{sym, ◌∙◌}
use mathlib.Core.Bool.{true≢false}
use native.Mathlib.Omega.{arith}
use Rattle.read_test20.proofs.Kept.{eav_stands, bytes_stand}
use Rattle.read_test20.proofs.whole.end_of.Goals as goal

pub returns-then-not-is_eav-clause-kept : goal.returns-then-not-is_eav-clause-kept
returns-then-not-is_eav-clause-kept c =
    let h = c.requires.given.half in λ all _. absurd (true≢false (sym (c.is_eav.ensures.kept c.requires.tied.bit (eav_stands c.args.p c.args.symbols.now all _ (omega (arith, h)) (omega arith) (omega (arith, h, c.requires.given.long)))) ∙ c.if-not-is_eav.true))

pub returns-then-not-passes-clause-kept : goal.returns-then-not-passes-clause-kept
returns-then-not-passes-clause-kept c =
    let h = c.requires.given.half in λ all _. absurd (true≢false (sym (c.passes.ensures ∙ c.see_run-k.ensures.kept (bytes_stand c.args.p c.args.symbols.now all _ _ (omega (arith, h)) (omega (arith, h, c.requires.given.long)) (λ i a b e. omega arith))) ∙ c.if-not-passes.true))

pub returns-clause-kept : goal.returns-clause-kept
returns-clause-kept c =
    λ all right. c.tail_of.ensures.kept (bytes_stand c.args.p c.args.symbols.now all _ _ (omega (arith, c.requires.given.half)) (omega arith) (λ i a b q. omega arith)) right
