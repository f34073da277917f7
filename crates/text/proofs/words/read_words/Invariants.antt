-- `text::words::read_words` meets its contract: after i iterations the first i words are there.
-- Assumes nothing.
use mathlib.Core.Path.{◌≡◌}
use Prim.Native.Nat.{◌≤◌}
use lib.ListN.{length}
use lib.Seq.{sets}
use Rattle.text.specs.Words.{count_of, words_in_bytes}
use Rattle.text.proofs.words.read_words.Given as goal

abbrev pub invariant-loop-i : goal.invariant-loop-i
invariant-loop-i l =
    (l.count ≡ count_of (length l.initial.words) (length l.bytes)) × (l.i ≤ l.count) × (length l.words ≡ length l.initial.words) × (l.words ≡ sets l.initial.words 0 (words_in_bytes l.i l.bytes))
