-- `rig::knock::strike` meets its contract: the symbols before place i are done.
-- Assumes nothing.
use mathlib.Core.Path.{◌≡◌, refl, sym, ap, ◌∙◌}
use Prim.Native.Nat.{◌+◌, ◌<◌}
use native.Mathlib.Omega.{arith}
use lib.ListN.{length}
use Rattle.std.proofs.lemmas.List.{set-get_or}
use Rattle.rig.proofs.Knocking.{done_to, none_done, length_done_to, struck_step, spared_step}
use Rattle.rig.proofs.knock.strike.Goals as goal
use Rattle.rig.proofs.knock.strike.Goals.{then-is_struck, else-is_struck}

pub loop-i-init : goal.loop-i-init
loop-i-init c = let a = c.args in (omega arith, refl, none_done a.k a.from a.symbols.now)

pub loop-i-preserved : goal.loop-i-preserved
loop-i-preserved c =
    let v = c.loop-i in
    let a = c.args in
    let inside : v.i < length a.symbols.now = omega arith in
    let done : c.if-is_struck.symbols ≡ done_to a.k a.from a.symbols.now (v.i + 1) =
    elim c.if-is_struck.branch [
      | then-is_struck w ↦ w.symbols-is ∙ struck_step a.k a.from a.symbols.now v.i inside v.invariant.2 (sym c.is_struck.ensures ∙ w.if-is_struck.true)
      | else-is_struck w ↦ w.symbols-is ∙ set-get_or v.symbols v.i 0 ∙ spared_step a.k a.from a.symbols.now v.i inside v.invariant.2 (sym c.is_struck.ensures ∙ w.if-is_struck.false)
    ] in
    (omega arith, ap length done ∙ length_done_to a.k a.from a.symbols.now (v.i + 1), done)
