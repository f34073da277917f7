-- `loopback::file::put_words` meets its contract: the bytes that are left, put after what is there, give the whole.
-- Assumes nothing.
use mathlib.Core.Path.{◌≡◌, ap, ◌∙◌}
use mathlib.Core.List.{List}
use Prim.Native.Nat.{ℕ, ◌/◌, ◌%◌, ◌<◌}
use native.Mathlib.Omega.{arith}
use borrow.Author.Rules.{rules}
use lib.ListN.{length, get_or, length-set}
use Rattle.loopback.proofs.Bytes.{word_put, words_put}
use Rattle.loopback.proofs.file.put_words.Goals as goal

pub loop-i-preserved : goal.loop-i-preserved
loop-i-preserved c =
    let v = c.loop-i in
    let a = c.args in
    let inside : v.i < length a.words.now = omega arith in
    let w = get_or a.words.now v.i 0 in
    let few : w < 65536 = search rules in
    let bytes = c.to_be_bytes.result in
    let high : get_or bytes 0 0 ≡ w / 256 = ap (λ (l : List ℕ). get_or l 0 0) c.to_be_bytes.ensures ∙ omega arith in
    let low : get_or bytes 1 0 ≡ w % 256 = ap (λ (l : List ℕ). get_or l 1 0) c.to_be_bytes.ensures ∙ omega arith in
    (omega arith, simp length-set v.invariant.1, word_put a.words.now v.out a.at v.i inside _ _ (omega (arith, high)) (omega (arith, low)) ∙ v.invariant.2)

pub returns : goal.returns
returns c =
    let v = c.loop-i in
    let a = c.args in
    record { end = omega arith; written = words_put a.words.now v.out a.at v.i (omega arith) ∙ v.invariant.2 }
