-- `generate::bytes::put_bytes` meets its contract: what is left of the bytes, put into what is there, gives the whole.
-- Assumes nothing.
use mathlib.Core.Path.{◌≡◌, sym, ap, ◌∙◌}
use mathlib.Core.List.{List}
use Prim.Native.Nat.{ℕ, ◌/◌, ◌%◌, ◌<◌}
use native.Mathlib.Omega.{arith}
use borrow.Author.Rules.{rules}
use lib.ListN.{get_or, length-set}
use Rattle.generate.proofs.LowFirst.{all_left, one_put, none_left}
use Rattle.generate.proofs.bytes.put_bytes.Goals as goal

pub loop-i-init : goal.loop-i-init
loop-i-init c =
    let a = c.args in
    (omega arith, c.requires, all_left a.symbols.now a.out.now c.requires)

pub loop-i-preserved : goal.loop-i-preserved
loop-i-preserved c =
    let v = c.loop-i in
    let a = c.args in
    let w = get_or a.symbols.now v.i 0 in
    let few : w < 65536 = search rules in
    let bytes = c.to_le_bytes.result in
    let low : get_or bytes 0 0 ≡ w % 256 = ap (λ (l : List ℕ). get_or l 0 0) c.to_le_bytes.ensures ∙ omega arith in
    let high : get_or bytes 1 0 ≡ w / 256 = ap (λ (l : List ℕ). get_or l 1 0) c.to_le_bytes.ensures ∙ omega arith in
    (omega arith, simp length-set v.invariant.1, one_put a.symbols.now v.out v.i _ _ (omega arith) low high ∙ v.invariant.2)

pub returns : goal.returns
returns c =
    let v = c.loop-i in
    let a = c.args in
    sym (none_left a.symbols.now v.out v.i (omega arith)) ∙ v.invariant.2
