-- `crcc::crcc::crcc_of` meets its contract: what is left, from the register so far, is the whole from 0.
-- Assumes nothing.
use mathlib.Core.Path.{sym, ap, ◌∙◌}
use Prim.Native.Nat.{ℕ, ◌+◌, ◌≤◌, ◌<◌}
use native.Mathlib.Omega.{arith}
use lib.ListN.{length, get_or, drop, drop_of_length-le}
use Rattle.ground.proofs.Reading.{next_left_lem}
use Rattle.crcc.specs.Crcc.{crcc_from}
use Rattle.crcc.proofs.Crc.{none_left, good_word}
use Rattle.crcc.proofs.crcc.crcc_of.Goals as goal

pub loop-w-preserved : goal.loop-w-preserved
loop-w-preserved c =
    let words = c.args.words.now in
    let v = c.loop-w in
    let h : v.w-index < length words = omega arith in
    let w : get_or words v.w-index 0 < 4096 = omega arith in
    ap (λ (k : ℕ). crcc_from k (drop (v.w-index + 1) words)) c.crc_word-c.ensures
    ∙ sym (ap (crcc_from v.c) (next_left_lem words v.w-index 0 h) ∙ good_word v.c (get_or words v.w-index 0) (drop (v.w-index + 1) words) w)
    ∙ v.invariant

pub returns : goal.returns
returns c =
    let words = c.args.words.now in
    let v = c.loop-w in
    let h : length words ≤ v.w-index = omega arith in
    sym (sym v.invariant ∙ ap (crcc_from v.c) (drop_of_length-le words h) ∙ none_left v.c)
