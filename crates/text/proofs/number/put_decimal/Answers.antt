-- `text::number::put_decimal` meets its contract: no other number of digits is the fewest that hold the number.
-- Assumes nothing.
use mathlib.Core.Path.{ap, ◌∙◌}
use Prim.Native.Nat.{ℕ, ◌^◌, ◌<◌}
use native.Mathlib.Omega.{arith}
use lib.ListN.{length}
use Rattle.io.specs.Digits.{last_digits}
use Rattle.text.specs.Number.{places_of}
use Rattle.text.specs.Put.{end_of, put_of}
use Rattle.text.proofs.Numbers.{fewest_only, places_fewest}
use Rattle.text.proofs.number.put_decimal.Goals as goal

pub returns : goal.returns
returns c =
    let t = c.put_text in
    let a = c.args in
    let d = c.decimal-k in
    let few = d.ensures.len in
    let holds : a.n < 10 ^ d.result = omega (arith, few.1) in
    let places = fewest_only 10 1 a.n d.result (places_of a.n) (omega arith) (few.0, holds, few.2) (places_fewest a.n) in
    let e = d.ensures.digits ∙ ap (λ (k : ℕ). last_digits 10 k a.n) places in
    record { end = t.ensures.end ∙ ap (end_of (length a.out.now) a.at) e; written = t.ensures.written ∙ ap (put_of a.out.now a.at) e }
