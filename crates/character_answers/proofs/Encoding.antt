-- Encoding a character by its number.
-- Assumes nothing.
use mathlib.Core.Path.{◌≡◌, refl, ap, ◌∙◌}
use mathlib.Core.Bool.{Bool, true, false}
use Prim.Native.Nat.{ℕ, ◌+◌, ◌-◌, ◌≤◌, ◌<◌}
use native.Mathlib.Omega.{arith}
use lib.Dec.{eqb}
use borrow.Author.Tests.{eqb-true, lt-ltb, le-ltb}
use Rattle.ground.specs.Inside.Test.{every_below}
use Rattle.ground.proofs.Tests.{at_number}
use Rattle.symbol.specs.declared.disparity.Disparity.{Disparity}
use Rattle.symbol.specs.Character.{characters, number_of, nth}
use Rattle.encoder.specs.declared.encode.Encoded.{Encoded}
use Rattle.encoder.specs.Encode.{encoded}
use Rattle.character_answers.specs.declared.characters.EncodeAnswer.{EncodeAnswer}
use Rattle.character_answers.specs.Characters.{encoded_as, encode_answer_of}

named_by : ℕ → Bool
unfolding nth
named_by n = eqb (number_of (nth n)) (256 + n)

all_named : every_below 12 named_by ≡ true
unfolding named_by
all_named = refl

-- the special characters in the order of their numbers
pub special_is : (c : ℕ) → 256 ≤ c → c < characters → number_of (nth (c - 256)) ≡ c
unfolding named_by
special_is c low high =
    let h : c - 256 < 12 = omega arith in
    let e = eqb-true (number_of (nth (c - 256))) (256 + (c - 256)) (at_number 12 named_by all_named (c - 256) h) in
    let s : 256 + (c - 256) ≡ c = omega arith in e ∙ s

module _ (d : Disparity) (c : ℕ) where
  pub is_character : c < characters → {e : Encoded} → e ≡ encoded d c → encoded_as e ≡ encode_answer_of d c
  is_character h q = ap encoded_as q ∙ simp (lt-ltb c characters h)

  pub no_character : characters ≤ c → ◌≡◌ {A = EncodeAnswer} (record { known = false; symbol = 0; positive_after = false }) (encode_answer_of d c)
  no_character h = simp (le-ltb c characters h)
