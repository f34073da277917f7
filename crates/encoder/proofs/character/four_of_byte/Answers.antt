-- `encoder::character::four_of_byte` meets its contract: only .7 has an alternate form.
-- Assumes nothing.
use mathlib.Core.Path.{sym, ap, ◌∙◌}
use mathlib.Core.List.{List}
use Prim.Native.Nat.{ℕ}
use native.Mathlib.Omega.{arith}
use lib.ListN.{get_or}
use Rattle.encoder.proofs.Blocks.{four_below, four_alternate, four_primary}
use Rattle.encoder.proofs.character.four_of_byte.Goals as goal

pub returns-then-y-lt7 : goal.returns-then-y-lt7
returns-then-y-lt7 c =
    let a = c.args in
    ap (λ (l : List ℕ). get_or l a.y 0) c.four_bits-blocks.ensures ∙ four_below a.d a.x a.y (omega arith)

pub returns-then-takes_alternate : goal.returns-then-takes_alternate
returns-then-takes_alternate c =
    let a = c.args in
    c.alternate.ensures ∙ four_alternate a.d a.x a.y (omega arith) (sym c.takes_alternate.ensures ∙ c.if-takes_alternate.true)

pub returns : goal.returns
returns c =
    let a = c.args in
    ap (λ (l : List ℕ). get_or l 7 0) c.four_bits-blocks.ensures ∙ four_primary a.d a.x a.y (omega arith) (sym c.takes_alternate.ensures ∙ c.if-takes_alternate.false)
