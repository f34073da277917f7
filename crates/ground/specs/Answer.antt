-- What a call answers, in the paper's terms, and how its refusals are tested.
-- Assumes nothing.
use Rattle.std.specs.Prelude.{Bool, cond, List, [], ◌∷◌, ℕ, Option as Answered, Some, None}
use Rattle.std.proofs.Math.Option.{Option, none, some}

-- a refusal, by its number and its place (0 if it has none), or the result asked for
pub data Answer (A : Type 0) : Type 0 where
  refused : (number place : ℕ) → Answer A
  given : A → Answer A

-- what the code answers, if anything, as the definitions have it
abbrev pub told : {A : Type 0} → Answered A → Option A
told None = none
told (Some a) = some a

-- a row of the table of refusals: its number, and the place at which its test fails, if it does
pub record Row : Type 0 where
  pub number : ℕ
  pub fails : Option ℕ

-- a row whose test has no place
abbrev pub unless : ℕ → Bool → Row
unless n holds = record { number = n; fails = cond holds none (some 0) }

abbrev pub or_else : {A : Type 0} → Option ℕ → ℕ → Answer A → Answer A
or_else none n rest = rest
or_else (some place) n rest = refused n place

-- the rows in the order tested: the number and place of the first whose test fails; the result asked for if all hold
abbrev pub checked : {A : Type 0} → List Row → A → Answer A
checked [] a = given a
checked (r ∷ rs) a = or_else r.fails r.number (checked rs a)

-- a caller's buffer after a call whose refusals leave it unchanged: its old contents, or what the call writes
abbrev pub unless_refused : {A B : Type 0} → Answer A → B → B → B
unless_refused (refused number place) entry made = entry
unless_refused (given a) entry made = made
