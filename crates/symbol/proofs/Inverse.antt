-- Decoding and encoding undo each other.
-- Assumes nothing.
use mathlib.Core.Path.{◌≡◌, refl, sym, ◌∙◌}
use mathlib.Core.Option.{none, some}
use Prim.Native.Nat.{ℕ, ◌≤◌, ◌<◌}
use native.Mathlib.Omega.{arith}
use lib.Dec.{eqb}
use borrow.Author.Tests.{eqb-true, eqb-false, eq-eqb, ne_eqb}
use Rattle.ground.proofs.Searches.{hit, miss, is_only, is_miss}
use Rattle.symbol.specs.declared.disparity.Disparity.{Disparity}
use Rattle.symbol.specs.declared.disparity.Disparity.TheVariants.{Negative, Positive}
use Rattle.symbol.specs.Character.{characters}
use Rattle.symbol.specs.Code.{symbol_of, char_of}
use Rattle.symbol.specs.Inside.Code.{TwoForms}
use Rattle.symbol.specs.Inside.Disparity.{opposite}
use Rattle.symbol.proofs.Distinct.{one_character}

-- Decode after encode is the character.
pub decode_encode : (d : Disparity) (c : ℕ) → c < characters → char_of d (symbol_of d c) ≡ some c
unfolding char_of
decode_encode d c h =
    is_only (λ k. eqb (symbol_of d k) (symbol_of d c)) characters c h (eq-eqb (symbol_of d c) (symbol_of d c) refl)
    (λ k l t. one_character d d k c l h (eqb-true (symbol_of d k) (symbol_of d c) t))

-- Encode after decode is the symbol, for every symbol that is legal.
pub encode_decode : (d : Disparity) (s c : ℕ) → char_of d s ≡ some c → symbol_of d c ≡ s
unfolding char_of
encode_decode d s c e = eqb-true _ _ (hit (λ k. eqb (symbol_of d k) s) characters c e).holds

pub decoded_below : (d : Disparity) (s c : ℕ) → char_of d s ≡ some c → c < characters
unfolding char_of
decoded_below d s c e = (hit (λ k. eqb (symbol_of d k) s) characters c e).below

-- A number that is no character's symbol is illegal, and the other way round.
pub illegal_is : (d : Disparity) (s : ℕ) → ((c : ℕ) → c < characters → symbol_of d c ≡ s → ⊥) → char_of d s ≡ none
unfolding char_of
illegal_is d s f =
    is_miss (λ k. eqb (symbol_of d k) s) characters (record { never = λ k l h. ne_eqb _ _ (f k h) })

pub illegal_told : (d : Disparity) (s : ℕ) → char_of d s ≡ none → (c : ℕ) → c < characters → symbol_of d c ≡ s → ⊥
unfolding char_of
illegal_told d s e c h = eqb-false _ _ ((miss (λ k. eqb (symbol_of d k) s) characters e).never c (omega arith) h)

-- A symbol that is legal at both disparities means one character.
pub one_meaning : (d e : Disparity) (s b c : ℕ) → char_of d s ≡ some b → char_of e s ≡ some c → b ≡ c
one_meaning d e s b c p q =
    one_character d e b c (decoded_below d s b p) (decoded_below e s c q) (encode_decode d s b p ∙ sym (encode_decode e s c q))

-- The symbols of the bytes and those of the special characters are disjoint.
pub data_or_special : (d e : Disparity) (b k : ℕ) → b < 256 → 256 ≤ k → k < characters → symbol_of d b ≡ symbol_of e k → ⊥
data_or_special d e b k h l m same = let q : b ≡ k = one_character d e b k (omega arith) m same in omega arith

-- Read at the opposite disparity, a symbol of a character with two forms is illegal.
pub opposed_illegal : (d : Disparity) (c : ℕ) → c < characters → TwoForms c
    → char_of (opposite d) (symbol_of d c) ≡ none
opposed_illegal d c h two = illegal_is (opposite d) (symbol_of d c) (λ k l same. two (forms d (rw (one_character (opposite d) d k c l h same) at same)))
  where
    forms : (d : Disparity) → symbol_of (opposite d) c ≡ symbol_of d c → symbol_of Negative c ≡ symbol_of Positive c
    forms Negative e = sym e
    forms Positive e = e
