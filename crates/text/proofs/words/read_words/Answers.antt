-- `text::words::read_words` meets its contract: after i iterations the first i words are there.
-- Assumes nothing.
use mathlib.Core.Path.{refl, ap, ◌∙◌}
use mathlib.Core.List.{List}
use Prim.Native.Nat.{ℕ}
use native.Mathlib.Omega.{arith}
use lib.ListN.{set, length-set}
use Rattle.text.proofs.WordsRead.{none_read, one_word_more}
use Rattle.text.proofs.words.read_words.Goals as goal

pub loop-i-init : goal.loop-i-init
loop-i-init c = (omega (arith, c.min-count.ensures), omega arith, refl, none_read c.args.words.now c.args.bytes.now)

pub loop-i-preserved : goal.loop-i-preserved
loop-i-preserved c =
    let v = c.loop-i in
    let a = c.args in (
      v.invariant.0,
      omega arith,
      length-set v.words v.i c.word_of.result ∙ v.invariant.2,
      ap (λ (l : List ℕ). set l v.i c.word_of.result) v.invariant.3
          ∙ one_word_more a.words.now a.bytes.now v.i c.word_of.result (omega (arith, c.word_of.ensures)),
    )
