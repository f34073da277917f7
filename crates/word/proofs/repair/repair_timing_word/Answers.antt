-- `word::repair::repair_timing_word` meets its contract: below vh no legal word is near.
-- Assumes nothing.
use mathlib.Core.Path.{◌≡◌, sym, ap, ◌∙◌}
use Prim.Native.Nat.{ℕ, ◌/◌, ◌%◌, ◌≤◌, ◌<◌, min}
use native.Mathlib.Omega.{arith}
use lib.Dec.{eqb}
use Rattle.word.specs.Repair.{distance, bit_of, legal_word}
use Rattle.word.proofs.Repairs.{is_repaired, found, lost}
use Rattle.word.proofs.Timings.{timing_below}
use Rattle.word.proofs.repair.repair_timing_word.Goals as goal

pub wrong_bit-requires : goal.wrong_bit-requires
wrong_bit-requires c =
    let v = c.loop-vh in
    let l = timing_below (eqb (v.vh / 2) 1) (eqb (v.vh % 2) 1) in
    record { a_bound = v.invariant.0; b_bound = omega (arith, c.timing_word-legal.ensures, l) }

pub returns-then-d-lt2 : goal.returns-then-d-lt2
returns-then-d-lt2 c =
    let w = c.args.w in
    let v = c.loop-vh in
    let t = c.timing_word-legal.ensures in
    let e : c.difference-d.result ≡ min 2 (distance w (legal_word v.vh)) =
    c.difference-d.ensures ∙ ap (λ (x : ℕ). min 2 (distance w x)) t in
    let d : distance w (legal_word v.vh) ≤ 1 = omega (arith, e, c.if-d-lt2.true) in
    let m : c.difference-d.result ≡ distance w (legal_word v.vh) = omega (arith, e, d) in
    let b = c.wrong_bit.ensures ∙ ap (bit_of w) t in
    let l : v.vh < 4 = omega arith in
    is_repaired w t m b ∙ sym (found w v.invariant.0 v.vh l v.invariant.2 d)

pub returns : goal.returns
returns c =
    let w = c.args.w in
    let v = c.loop-vh in
    let e : v.vh ≡ 4 = omega arith in
    sym (lost w v.invariant.0 (rw e at v.invariant.2))
