-- `send::check::first_outside` meets its contract: the first that is not within, and the length where each is.
-- Assumes nothing.
use Rattle.std.proofs.Common.{◌≡◌, ℕ, ◌<◌, true, false, List, length, get_or, Option, None, Some, MatchOption, sym, ◌∙◌, rules}
use Rattle.ground.specs.Range.{within}
use Rattle.request.specs.Inside.Check.{first_outside}
use Rattle.request.proofs.Checking.{each_within, outside_first, outside_never}
use Rattle.send.proofs.check.first_outside.Goals as goal

module _ (low high : ℕ) (xs : List ℕ) where
  abbrev AllBefore : ℕ → Type 0
  AllBefore n = (j : ℕ) → j < n → within low high (get_or xs j 0) ≡ true

  abbrev Told : Option ℕ → Type 0
  Told o = MatchOption o (length xs ≡ first_outside low high xs) (λ i. (i < length xs) × (i ≡ first_outside low high xs))

  found : (o : Option ℕ) → MatchOption o (AllBefore (length xs)) (λ i. (i < length xs) × (within low high (get_or xs i 0) ≡ false) × AllBefore i)
      → Told o
  found None each = sym (outside_never low high xs each)
  found (Some i) (below, out, before) = (below, sym (outside_first low high xs i below before out))

pub returns-then-none_outside : goal.returns-then-none_outside
returns-then-none_outside c =
    let a = c.args in
    let t = sym c.none_outside.ensures ∙ c.if-none_outside.true in
    sym (outside_never a.low a.high a.samples.now (each_within a.low a.high a.samples.now t))

pub returns : goal.returns
returns c =
    let a = c.args in
    found a.low a.high a.samples.now c.position.result (search rules)
