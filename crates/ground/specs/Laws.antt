-- Laws of answers, searches, ranges, tables and bits, on which every other crate's statements rest; `proofs/Laws` proves each.
-- Assumes nothing.
use Rattle.std.specs.Prelude.{ℕ, ◌^◌, ◌≤◌, ◌<◌, ◌≡◌, Bool, true, false, List, length, get_or}
use Rattle.std.proofs.Math.Option.{none, some}
use Rattle.ground.specs.Answer.{Answer, refused, given, Row, checked, unless_refused}
use Rattle.ground.specs.Bit.{inverted}
use Rattle.ground.specs.Range.{within}
use Rattle.ground.specs.Search.{first_below}
use Rattle.ground.specs.Written.{table}
use Rattle.ground.specs.Xor.{◌⊕◌}
use Rattle.ground.specs.Inside.Answer.{Injective}

pub record GroundLaws : Type 1 where
  -- two answers with the same value under a one-to-one reading are the same: a contract about the reading permits one answer
  pub same_answer : {A B : Type 0} {f : A → B} {a b : A} {x : B} → Injective f → f a ≡ x → f b ≡ x → a ≡ b
  -- what is given is what was asked for, whatever the rows of refusals
  pub given_is : {A : Type 0} (rs : List Row) (a b : A) → checked rs a ≡ given b → a ≡ b
  -- a caller's buffer is unchanged after a refusal, and holds what the call writes after a good call
  pub when_refused :
      {A B : Type 0} {r : Answer A} (entry made : B) {number place : ℕ} → r ≡ refused number place → entry ≡ unless_refused r entry made
  pub when_given : {A B : Type 0} {r : Answer A} (entry made : B) {a : A} → r ≡ given a → made ≡ unless_refused r entry made
  -- a search finds k if and only if k is the lowest number at which the test holds, and none if and only if it holds at none
  pub found_if :
      (p : ℕ → Bool) (n k : ℕ) → k < n → p k ≡ true → ((j : ℕ) → j < k → p j ≡ false) → first_below n p ≡ some k
  pub found_only_if :
      (p : ℕ → Bool) (n k : ℕ) → first_below n p ≡ some k → (k < n) × (p k ≡ true) × ((j : ℕ) → j < k → p j ≡ false)
  pub none_if : (p : ℕ → Bool) (n : ℕ) → ((j : ℕ) → j < n → p j ≡ false) → first_below n p ≡ none
  pub none_only_if : (p : ℕ → Bool) (n : ℕ) → first_below n p ≡ none → (j : ℕ) → j < n → p j ≡ false
  -- a number is within a range if and only if it is no lower than the low end and no higher than the high end
  pub within_if : (low high n : ℕ) → low ≤ n → n ≤ high → within low high n ≡ true
  pub within_only_if : (low high n : ℕ) → within low high n ≡ true → (low ≤ n) × (n ≤ high)
  -- a table of n entries has length n, and its entry i is f i
  pub table_long : {A : Type 0} (n : ℕ) (f : ℕ → A) → length (table n f) ≡ n
  pub table_at : {A : Type 0} (n : ℕ) (f : ℕ → A) (i : ℕ) (d : A) → i < n → get_or (table n f) i d ≡ f i
  -- inverting bit k is the exclusive or with that bit; inverting it twice restores the number; a number of b bits still has b bits
  pub inverted_is : (k n : ℕ) → inverted k n ≡ n ⊕ 2 ^ k
  pub inverted_twice : (k n : ℕ) → inverted k (inverted k n) ≡ n
  pub inverted_below : (b k n : ℕ) → k < b → n < 2 ^ b → inverted k n < 2 ^ b
