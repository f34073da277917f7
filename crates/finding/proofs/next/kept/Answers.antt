-- `finding::next::kept` meets its contract.
-- Assumes nothing.
use mathlib.Core.Path.{◌≡◌, sym}
use Prim.Native.Nat.{◌+◌, ◌-◌, ◌≤◌, ◌<◌}
use native.Mathlib.Omega.{arith}
use borrow.Author.Rules.{rules}
use Rattle.delivery.specs.Kept.{kept_from}
use Rattle.delivery.proofs.Keeping.{kept_start, kept_last}
use Rattle.finding.proofs.next.kept.Goals as goal

pub returns-then-long-n : goal.returns-then-long-n
returns-then-long-n c =
    let a = c.args in
    let few : a.long < a.n = search rules in
    sym (kept_start a.n a.long a.start (omega arith))

pub returns-then-start-last : goal.returns-then-start-last
returns-then-start-last c =
    let a = c.args in
    let enough : a.n ≤ a.long = search rules in
    let below : a.start < a.long - a.n + 1 = search rules in
    let last : kept_from a.n a.long a.start + a.n ≡ a.long + 1 = kept_last a.n a.long a.start (omega arith) in
    omega arith

pub returns : goal.returns
returns c =
    let a = c.args in
    let enough : a.n ≤ a.long = search rules in
    let behind : a.long - a.n + 1 ≤ a.start = search rules in
    sym (kept_start a.n a.long a.start (omega arith))
