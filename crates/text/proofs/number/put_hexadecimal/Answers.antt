-- `text::number::put_hexadecimal` meets its contract: a number of sixteen bits is held by four digits.
-- Assumes nothing.
use mathlib.Core.Path.{ap, ◌∙◌}
use Prim.Native.Nat.{ℕ, ◌≤◌}
use native.Mathlib.Omega.{arith}
use borrow.Author.Rules.{rules}
use lib.ListN.{length}
use Rattle.io.specs.Digits.{last_digits}
use Rattle.text.specs.Put.{end_of, put_of}
use Rattle.text.proofs.Numbers.{four_digits}
use Rattle.text.proofs.number.put_hexadecimal.Goals as goal

pub returns : goal.returns
returns c =
    let t = c.put_text in
    let a = c.args in
    let d = c.hex-k in
    let few = d.ensures.len in
    let long : 4 ≤ d.result = omega (arith, few.0) in
    let four = four_digits a.n d.result (search rules) (long, few.1, λ l. few.2 (omega arith)) in
    let e = d.ensures.digits ∙ ap (λ (k : ℕ). last_digits 16 k a.n) four in
    record { end = t.ensures.end ∙ ap (end_of (length a.out.now) a.at) e; written = t.ensures.written ∙ ap (put_of a.out.now a.at) e }
