-- An answer to C tells what the library answered: no two answers cross as the same.
-- Assumes nothing.
use mathlib.Core.Path.{◌≡◌, refl, sym, ap, ◌∙◌}
use mathlib.Core.Bool.{Bool, true, false, cond}
use mathlib.Core.List.{[], ◌∷◌}
use mathlib.Core.Option.{Option, none, some, get_or}
use Prim.Native.Nat.{ℕ, ◌<◌}
use native.Mathlib.Omega.{arith}
use lib.Dec.{eqb}
use borrow.Author.Tests.{ne_eqb}
use Rattle.ground.specs.Answer.{Answer, given, unless, checked}
use Rattle.ground.specs.Search.{is_some}
use Rattle.ground.specs.Inside.Answer.{Injective}
use Rattle.line.specs.declared.stream.StreamLine.{StreamLine}
use Rattle.word.specs.declared.line_number.LineWords.{LineWords}
use Rattle.word.specs.declared.line_number.NoLine.{NoLine}
use Rattle.word.specs.declared.line_number.NameError.{NameError}
use Rattle.word.specs.declared.line_number.NameError.TheVariants.{Above4095, Nameless}
use Rattle.std.specs.Prelude.{Option as Answered, None, Some, Result, Ok, Err}
use Rattle.word.specs.declared.repair.Repaired.{Repaired}
use Rattle.word.specs.LineNumber.{paper_numbered, paper_named}
use Rattle.word.specs.Repair.{legal_word, nearest, repaired_to, repair_of}
use Rattle.word.specs.Word.{is_word}
use Rattle.word.proofs.OneToOne.{numbered_one_to_one, named_one_to_one}
use Rattle.word.proofs.WrongWords.{bit_answered}
use Rattle.crcc.specs.declared.crcc.Above4095.{Above4095 as TooLarge}
use Rattle.crcc.specs.Crcc.{paper_crcc}
use Rattle.crcc.proofs.OneToOne.{crcc_one_to_one}
use Rattle.word_answers.specs.declared.words.LineWordsAnswer.{LineWordsAnswer}
use Rattle.word_answers.specs.declared.words.ReadLineWordsAnswer.{ReadLineWordsAnswer}
use Rattle.word_answers.specs.declared.words.RepairAnswer.{RepairAnswer}
use Rattle.word_answers.specs.declared.words.CrccAnswer.{CrccAnswer}
use Rattle.word_answers.specs.Words.{line_words_answer_of, read_line_words_answer_of, no_bit, bit_number, repair_answer_of, crcc_answer_of}
use Rattle.boundary.proofs.Told.{through, answer_by}

line_words_back : LineWordsAnswer → Answer LineWords
line_words_back w = answer_by w.number 0 (record { ln0 = w.ln0; ln1 = w.ln1 })

pub line_words_told : Injective (λ (r : Result LineWords NoLine). line_words_answer_of (paper_numbered r))
unfolding line_words_back
line_words_told = through line_words_answer_of line_words_back back numbered_one_to_one
  where
    back : (r : Result LineWords NoLine) → line_words_back (line_words_answer_of (paper_numbered r)) ≡ paper_numbered r
    back (Ok w) = refl
    back (Err e) = refl

line_back : ReadLineWordsAnswer → Answer StreamLine
line_back l = answer_by l.number 0 (record { 0 = l.line.number })

pub read_line_words_told : Injective (λ (r : Result StreamLine NameError). read_line_words_answer_of (paper_named r))
unfolding line_back
read_line_words_told = through read_line_words_answer_of line_back back named_one_to_one
  where
    back : (r : Result StreamLine NameError) → line_back (read_line_words_answer_of (paper_named r)) ≡ paper_named r
    back (Ok l) = refl
    back (Err Above4095) = refl
    back (Err Nameless) = refl

-- the bit is told again from its number, where it is one of twelve
bit_back : ℕ → Answered ℕ
bit_back n = cond (eqb n no_bit) None (Some n)

bit_back_lem : (b : Answered ℕ) → ((k : ℕ) → b ≡ Some k → k < 12) → bit_back (bit_number b) ≡ b
unfolding bit_back
bit_back_lem None h = refl
bit_back_lem (Some k) h = let below = h k refl in simp (ne_eqb k no_bit (λ e. omega arith))

repair_back : RepairAnswer → Answer Repaired
repair_back w = answer_by w.number 0 (record { word = w.word; distance = w.distance; bit = bit_back w.bit })

-- an answer by its two tests, told again, where a bit that is answered is one of twelve
abbrev tested : Bool → Option ℕ → Repaired → Answer Repaired
tested b o r = checked (unless 7 b ∷ unless 8 (is_some o) ∷ []) r

back_if : (b : Bool) (o : Option ℕ) (r : Repaired) → (tested b o r ≡ given r → (k : ℕ) → r.bit ≡ Some k → k < 12)
    → repair_back (repair_answer_of (tested b o r)) ≡ tested b o r
unfolding repair_back
back_if false o r h = refl
back_if true none r h = refl
back_if true (some vh) r h =
    ap (λ (bit : Answered ℕ). given (record { word = r.word; distance = r.distance; bit = bit })) (bit_back_lem r.bit (h refl))

repair_back_lem : (w : ℕ) → repair_back (repair_answer_of (repair_of w)) ≡ repair_of w
repair_back_lem w =
    let r = repaired_to w (legal_word (get_or (nearest w) 0)) in
    back_if (is_word w) (nearest w) r (λ e k q. (bit_answered w r e k q).0)

pub repair_told : (v w : ℕ) → repair_answer_of (repair_of v) ≡ repair_answer_of (repair_of w) → repair_of v ≡ repair_of w
repair_told v w e = sym (repair_back_lem v) ∙ ap repair_back e ∙ repair_back_lem w

crcc_back : CrccAnswer → Answer ℕ
crcc_back w = answer_by w.number 0 w.crc

pub crcc_told : Injective (λ (r : Result ℕ TooLarge). crcc_answer_of (paper_crcc r))
unfolding crcc_back
crcc_told = through crcc_answer_of crcc_back back crcc_one_to_one
  where
    back : (r : Result ℕ TooLarge) → crcc_back (crcc_answer_of (paper_crcc r)) ≡ paper_crcc r
    back (Ok n) = refl
    back (Err e) = refl
