-- `loopback::file::put_words` meets its contract: the bytes that are left, put after what is there, give the whole.
-- Assumes nothing.
use mathlib.Core.Path.{◌≡◌}
use Prim.Native.Nat.{◌+◌, ◌*◌, ◌≤◌}
use lib.ListN.{length, drop}
use lib.Seq.{sets}
use Rattle.loopback.specs.File.{high_first}
use Rattle.loopback.proofs.file.put_words.Given as goal

abbrev pub invariant-loop-i : goal.invariant-loop-i
invariant-loop-i l =
    (l.i ≤ length l.words)
    × (length l.out ≡ length l.initial.out)
    × (sets l.out (l.at + 2 * l.i) (high_first (drop l.i l.words)) ≡ sets l.initial.out l.at (high_first l.words))
