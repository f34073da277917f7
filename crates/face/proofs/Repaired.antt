-- The bit of a timing word that was repaired, as it is told to C: inverted, it gives the answered word; 12 says that none was wrong.
-- Assumes nothing.
use mathlib.Core.Path.{◌≡◌, refl}
use mathlib.Core.List.{List, [], ◌∷◌}
use mathlib.Core.Option.{get_or}
use Prim.Native.Nat.{ℕ, ◌≤◌, ◌<◌}
use native.Mathlib.Omega.{arith}
use Rattle.ground.specs.Answer.{Answer, refused, given, Row, unless}
use Rattle.ground.specs.Bit.{inverted}
use Rattle.ground.specs.Search.{is_some}
use Rattle.std.specs.Prelude.{Option as Answered}
use Rattle.std.specs.Prelude.{None, Some}
use Rattle.word.specs.declared.repair.Repaired.{Repaired}
use Rattle.word.specs.Repair.{legal_word, nearest, repaired_to, repair_of}
use Rattle.word.specs.Word.{is_word}
use Rattle.word_answers.specs.Words.{bit_number, repair_answer_of}
use Rattle.demands.proofs.Demands.{demand_2}
use Rattle.face.specs.Calls.{repair·answer}
use Rattle.face.proofs.Telling.{Numbered, good_by_number}

module _ (word : ℕ) where
  abbrev answer : Repaired
  answer = repaired_to word (legal_word (get_or (nearest word) 0))

  -- a repair that is told with 0 is given
  is_given : (repair·answer word).number ≡ 0 → repair_of word ≡ given answer
  is_given e =
      let rows : List Row = unless 7 (is_word word) ∷ unless 8 (is_some (nearest word)) ∷ [] in
      let above : Numbered rows = (omega arith, (omega arith, tt)) in
      good_by_number repair_answer_of (λ x. x.number) (λ n p. refl) (λ r. refl) rows answer above e

  module _ (r : Repaired) (e : repair_of word ≡ given r) where
    is_bit : (b : Answered ℕ) → r.bit ≡ b → bit_number b < 12 → inverted (bit_number b) word ≡ r.word
    is_bit None q h = absurd (omega arith)
    is_bit (Some k) q h = (demand_2.words.bit_answered word r k e q).1

    is_none : (b : Answered ℕ) → r.bit ≡ b → 12 ≤ bit_number b → word ≡ r.word
    is_none None q h = demand_2.words.nothing_answered word r e q
    is_none (Some k) q h = absurd (omega (arith, (demand_2.words.bit_answered word r k e q).0))

  pub bit_told : (repair·answer word).number ≡ 0 → (repair·answer word).bit < 12 → inverted (repair·answer word).bit word ≡ (repair·answer word).word
  bit_told zero h = let e = is_given zero in rw e (is_bit answer e answer.bit refl (rw e at h))

  pub no_bit_told : (repair·answer word).number ≡ 0 → 12 ≤ (repair·answer word).bit → word ≡ (repair·answer word).word
  no_bit_told zero h = let e = is_given zero in rw e (is_none answer e answer.bit refl (rw e at h))

-- where the word is refused
pub refused_bit : (a : Answer Repaired) → ((repair_answer_of a).number ≡ 0 → ⊥) → (repair_answer_of a).bit ≡ 12
refused_bit (refused number place) n = refl
refused_bit (given r) n = absurd (n refl)
