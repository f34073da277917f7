-- `read_test20::fill::repeats` meets its contract: nothing other is met just where each symbol so far is met again three after it.
-- Assumes nothing.
use Rattle.std.specs.Prelude.{Some}
use Rattle.std.proofs.lemmas.Slice.Zip.{zip_turn}
use mathlib.Core.Path.{◌≡◌, refl, sym, ap, ap₂, ◌∙◌}
use mathlib.Core.List.{[], ◌∷◌}
use Prim.Native.Nat.{ℕ, ◌+◌, ◌-◌}
use native.Mathlib.Omega.{arith}
use lib.Bits.{bit_or, bit_xor}
use lib.ListN.{length, length-append, take, drop}
use Rattle.window.specs.Scan.{symbol_at}
use Rattle.read_test20.proofs.Fills.{piece_at, piece_long, repeats_step, repeats_kept}
use Rattle.read_test20.proofs.fill.repeats.Goals as goal

pub loop-s-preserved : goal.loop-s-preserved
loop-s-preserved c =
    let a = c.args in
    let w = a.symbols.now in
    let v = c.loop-s in
    let n = length v.yielded in
    let began = c.into_iter-s-iterator.ensures.into_iter_gives in
    let z = c.zip-s-items.ensures in
    let turn = zip_turn (take (a.to - (a.from + 3)) (drop (a.from + 3) w)) (take (length w - a.from) (drop a.from w)) v.yielded c.into_iter-s-iterator.result v.s-iterator c.next.new.self
    (Some (c.in-Some.s, c.in-Some.before)) (rw (began, z.first) c.iter.ensures.rest) (rw began z.second.0) v.yielded_by (c.in-Some.s, c.in-Some.before) refl c.in-Some.ensures.steps in
    let at : a.from + 3 + n ≡ a.from + n + 3 = omega arith in
    let s : c.in-Some.s.now ≡ symbol_at w (a.from + n + 3) = turn.2 0 ∙ piece_at w (a.from + 3) _ n turn.0 ∙ ap (symbol_at w) at in
    let before : c.in-Some.before.now ≡ symbol_at w (a.from + n) = turn.3 0 ∙ piece_at w a.from _ n turn.1 in
    let both : bit_or v.other (bit_xor c.in-Some.s.now c.in-Some.before.now) ≡ bit_or v.other (bit_xor (symbol_at w (a.from + n + 3)) (symbol_at w (a.from + n))) =
    ap₂ (λ (x y : ℕ). bit_or v.other (bit_xor x y)) s before in (
      (λ z k h l. repeats_step w v.other (a.from + n) (sym both ∙ z) (λ y. v.invariant.0 y k h) (omega (arith, length-append v.yielded ((c.in-Some.s, c.in-Some.before) ∷ [])))),
      λ r. both ∙ repeats_kept w v.other (a.from + n) (v.invariant.1 r) (r.again (a.from + n) (omega arith) (omega (arith, turn.0, piece_long w (a.from + 3) (a.to - (a.from + 3))))),
    )
