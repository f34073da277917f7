-- `read_test21_26::words::word_at` meets its contract.
-- Assumes nothing.
use mathlib.Core.Path.{◌≡◌}
use Prim.Native.Nat.{◌%◌}
use native.Mathlib.Omega.{arith}
use Rattle.window.proofs.Bytes.{word_below}
use Rattle.read_test21_26.proofs.Reading.{word_even, word_odd}
use Rattle.read_test21_26.proofs.words.word_at.Goals as goal

pub returns-then-k-eq0 : goal.returns-then-k-eq0
returns-then-k-eq0 c =
    let a = c.args in
    let same =
    word_even a.w.shape a.w.symbols.now a.k c.byte_at.ensures c.byte_at-2.ensures c.byte_at-3.ensures
    c.unpack-pair.ensures (let even : a.k % 2 ≡ 0 = omega arith in even) in
    record { word = same; small = rw same (word_below a.w.shape a.w.symbols.now a.k) }

pub returns : goal.returns
returns c =
    let a = c.args in
    let same =
    word_odd a.w.shape a.w.symbols.now a.k c.byte_at.ensures c.byte_at-2.ensures c.byte_at-3.ensures
    c.unpack-pair.ensures (λ even. omega arith) in
    record { word = same; small = rw same (word_below a.w.shape a.w.symbols.now a.k) }
