-- `generate::bytes::put_bytes` meets its contract: what is left of the bytes, put into what is there, gives the whole.
-- Assumes nothing.
use mathlib.Core.Path.{◌≡◌}
use Prim.Native.Nat.{◌*◌, ◌≤◌}
use lib.ListN.{length, drop}
use lib.Seq.{sets}
use Rattle.generate.specs.Generated.{low_first}
use Rattle.generate.proofs.bytes.put_bytes.Given as goal

abbrev pub invariant-loop-i : goal.invariant-loop-i
invariant-loop-i l =
    (l.i ≤ length l.symbols) × (length l.out ≡ 2 * length l.symbols) × (sets l.out (2 * l.i) (low_first (drop l.i l.symbols)) ≡ low_first l.symbols)
