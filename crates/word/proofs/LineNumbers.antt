-- The line that two words name is the one that they are sent for.
-- Assumes nothing.
use mathlib.Core.Path.{◌≡◌, refl, sym, ap, ap₂, ◌∙◌}
use mathlib.Core.Bool.{true, false, ◌&&◌, true≢false}
use mathlib.Core.Logic.{◌⊎◌}
use mathlib.Core.Option.{some, none}
use Prim.Native.Nat.{ℕ, ◌+◌, ◌*◌, ◌/◌, ◌%◌, ◌^◌, ◌≤◌, ◌<◌}
use native.Mathlib.Omega.{arith}
use lib.Dec.{eqb}
use borrow.Author.Tests.{eqb-true, eq-eqb}
use Rattle.ground.specs.Answer.{refused, given}
use Rattle.ground.specs.Range.{within}
use Rattle.ground.proofs.Cases.{on_test}
use Rattle.ground.proofs.Ranges.{is_within, is_above, from_low, to_high}
use Rattle.ground.proofs.Searches.{is_only, is_miss}
use Rattle.ground.proofs.Tests.{both_left, both_right}
use Rattle.line.specs.Stream.{is_line}
use Rattle.word.specs.LineNumber.{ln0, ln1, line_words, numbered_of, are_words_of, line_of, named_of}
use Rattle.word.specs.Word.{guarded}
use Rattle.word.proofs.Words.{both_words, not_both_words}
use Rattle.word.proofs.Guards.{guard_kept, guard_below}

-- ---- the words of a number

pub ln0_below : (n : ℕ) → ln0 n < 4096
unfolding ln0
ln0_below n = guard_below (n % 2 ^ 7 * 2 ^ 4)

pub ln1_below : (n : ℕ) → ln1 n < 4096
unfolding ln1
ln1_below n = guard_below (n / 2 ^ 7 % 2 ^ 4 * 2 ^ 4)

-- the bits of a number where table 8 has them
abbrev pub number_in : ℕ → ℕ → ℕ
number_in a b = a / 16 % 128 + b / 16 % 16 * 128

ln0_bits : (n : ℕ) → ln0 n / 16 % 128 ≡ n % 128
unfolding ln0
ln0_bits n = omega (arith, guard_kept (n % 128 * 16))

ln1_bits : (n : ℕ) → ln1 n / 16 % 16 ≡ n / 128 % 16
unfolding ln1
ln1_bits n = omega (arith, guard_kept (n / 128 % 16 * 16))

pub number_again : (n : ℕ) → n < 2048 → number_in (ln0 n) (ln1 n) ≡ n
number_again n h = omega (arith, ln0_bits n, ln1_bits n)

-- different lines have different words
pub different : (m n : ℕ) → m < 2048 → n < 2048 → ln0 m ≡ ln0 n → ln1 m ≡ ln1 n → m ≡ n
different m n h l p q = sym (number_again m h) ∙ ap₂ number_in p q ∙ number_again n l

-- ---- the line that two words name

module _ (a b n : ℕ) (t : are_words_of a b n ≡ true) where
  at_words : (eqb (ln0 n) a && eqb (ln1 n) b) ≡ true
  at_words = both_right (is_line n) (eqb (ln0 n) a && eqb (ln1 n) b) t

  pub named_is_line : is_line n ≡ true
  named_is_line = both_left (is_line n) (eqb (ln0 n) a && eqb (ln1 n) b) t

  pub named_ln0 : ln0 n ≡ a
  named_ln0 = eqb-true (ln0 n) a (both_left (eqb (ln0 n) a) (eqb (ln1 n) b) at_words)

  pub named_ln1 : ln1 n ≡ b
  named_ln1 = eqb-true (ln1 n) b (both_right (eqb (ln0 n) a) (eqb (ln1 n) b) at_words)

  pub named_number : n ≡ number_in a b
  named_number =
      sym (number_again n (omega (arith, to_high 1 1125 n named_is_line))) ∙ ap₂ number_in named_ln0 named_ln1

pub names_line : (a b : ℕ) → are_words_of a b (number_in a b) ≡ true → line_of a b ≡ some (number_in a b)
unfolding line_of
names_line a b t =
    is_only (are_words_of a b) 1126 (number_in a b) (omega (arith, to_high 1 1125 (number_in a b) (named_is_line a b (number_in a b) t))) t
    (λ n h e. named_number a b n e)

pub names_none : (a b : ℕ) → are_words_of a b (number_in a b) ≡ false → line_of a b ≡ none
unfolding line_of
names_none a b f =
    is_miss (are_words_of a b) 1126
    (record {
      never =
          λ n h l.
          on_test (are_words_of a b n)
          (λ t. absurd (true≢false (sym t ∙ ap (are_words_of a b) (named_number a b n t) ∙ f)))
          (λ t. t);
    })

-- ---- which calls are refused, in the paper's own numerals

module _ (n : ℕ) (p : 1 ≤ n) (q : n ≤ 1125) where
  pub line_good : numbered_of n ≡ given (line_words n)
  line_good = simp (is_within 1 1125 n p q)

  sent_named : are_words_of (ln0 n) (ln1 n) n ≡ true
  sent_named = simp (is_within 1 1125 n p q, eq-eqb (ln0 n) (ln0 n) refl, eq-eqb (ln1 n) (ln1 n) refl)

  -- the words of a line name it
  pub line_again : line_of (ln0 n) (ln1 n) ≡ some n
  line_again =
      let e : number_in (ln0 n) (ln1 n) ≡ n = number_again n (omega arith) in
      names_line (ln0 n) (ln1 n) (rw e sent_named) ∙ ap some e

  -- reading what is sent gives the line
  pub read_sent : named_of (ln0 n) (ln1 n) ≡ given (record { 0 = n })
  read_sent =
      simp (both_words (ln0 n) (ln1 n) (omega (arith, ln0_below n)) (omega (arith, ln1_below n)), line_again)

pub no_line_0 : numbered_of 0 ≡ refused 2 0
unfolding within
no_line_0 = refl

pub no_line : (n : ℕ) → 1125 < n → numbered_of n ≡ refused 2 0
no_line n h = let p : 1 ≤ n = omega arith in simp (is_above 1 1125 n p h)

-- words that are not, both of them, what is sent for one of the lines 1 to 1125 name none
pub meets_22 : (a b : ℕ) → a ≤ 4095 → b ≤ 4095 → ((n : ℕ) → 1 ≤ n → n ≤ 1125 → ln0 n ≡ a → ln1 n ≡ b → ⊥) → named_of a b ≡ refused 22 0
meets_22 a b h l f =
    let m = number_in a b in
    let none_named : are_words_of a b m ≡ false =
    on_test (are_words_of a b m)
    (λ t.
    absurd
    (f m (from_low 1 1125 m (named_is_line a b m t)) (to_high 1 1125 m (named_is_line a b m t)) (named_ln0 a b m t) (named_ln1 a b m t)))
    (λ t. t) in
    simp (both_words a b h l, names_none a b none_named)

pub meets_7 : (a b : ℕ) → (4095 < a) ⊎ (4095 < b) → named_of a b ≡ refused 7 0
meets_7 a b h = simp (not_both_words a b h)

-- the lost recital: LN0 of line 128 and LN1 of line 127 are no line's words
pub recital : named_of (ln0 128) (ln1 127) ≡ refused 22 0
unfolding ln0 ln1 guarded within
recital = simp (names_none (ln0 128) (ln1 127) refl)
