-- Two answers that a one-to-one reading sends to one value are the same, how a reading is shown to be one to one, what is given where nothing
-- refuses, and what a refusal leaves.
-- Assumes nothing.
use mathlib.Core.Path.{◌≡◌, ◌∙◌, refl, sym, ap}
use mathlib.Core.List.{List, [], ◌∷◌}
use mathlib.Core.Option.{Option, none, some}
use Prim.Native.Nat.{ℕ}
use Rattle.ground.specs.Answer.{Answer, refused, given, Row, checked, unless_refused}
use Rattle.ground.specs.Inside.Answer.{Injective}

pub same_answer : {A B : Type 0} {f : A → B} {a b : A} {x : B} → Injective f → f a ≡ x → f b ≡ x → a ≡ b
same_answer {a} {b} h p q = h a b (p ∙ sym q)

-- a reading from which the answer can be told again
pub told_again : {A B : Type 0} {f : A → B} (g : B → A) → ((a : A) → g (f a) ≡ a) → Injective f
told_again g e a b p = sym (e a) ∙ ap g p ∙ e b

-- what is given is what was asked for
pub given_is : {A : Type 0} (rs : List Row) (a b : A) → checked rs a ≡ given b → a ≡ b
given_is [] a b e = cc
given_is (x ∷ rs) a b e = go x.fails refl (given_is rs a b)
  where
    go : (o : Option ℕ) → x.fails ≡ o → (checked rs a ≡ given b → a ≡ b) → a ≡ b
    go none q more = more (rw q at e)
    go (some k) q more = cc (rw q at e)

-- a lent buffer after a refusal, and after a good call
module _ {A B : Type 0} {r : Answer A} (entry made : B) where
  pub when_refused : {number place : ℕ} → r ≡ refused number place → entry ≡ unless_refused r entry made
  when_refused e = ap (λ (x : Answer A). unless_refused x entry made) (sym e)

  pub when_given : {a : A} → r ≡ given a → made ≡ unless_refused r entry made
  when_given e = ap (λ (x : Answer A). unless_refused x entry made) (sym e)
