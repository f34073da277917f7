-- The words of a stream in the papers' own numerals, proved.
-- Assumes nothing.
use mathlib.Core.Path.{◌≡◌, refl, ◌∙◌}
use Prim.Native.Nat.{ℕ, ◌*◌, ◌/◌, ◌%◌, ◌≤◌}
use native.Mathlib.Omega.{arith}
use borrow.Author.Tests.{ne_eqb}
use Rattle.word.specs.LineNumber.{ln0, ln1}
use Rattle.word.specs.Paper.{WordPaper}
use Rattle.word.specs.Word.{guarded}
use Rattle.word.proofs.Agree.{agree}
use Rattle.word.proofs.Guards.{guard_kept, guard_opposite}
use Rattle.word.proofs.LineNumbers.{recital}
use Rattle.word.proofs.Repairs.{no_distance, one_off, two_off}
use Rattle.word.proofs.WhichBit.{no_bit_differs, one_bit_differs}
use Rattle.word.proofs.WrongWords.{wrong_one, bit_answered, nothing_answered}

-- the number's bits are as they are below the guard bit
low_ln0 : (n : ℕ) → ln0 n % 2048 ≡ n % 128 * 16
unfolding ln0
low_ln0 n = omega (arith, guard_kept (n % 128 * 16))

low_ln1 : (n : ℕ) → n ≤ 1125 → ln1 n % 2048 ≡ n / 128 * 16
unfolding ln1
low_ln1 n h = omega (arith, guard_kept (n / 128 % 16 * 16))

pub word_paper : WordPaper
unfolding ln0 ln1 guarded
word_paper = record {
  agree = agree;
  ln0_bits = λ n h. (low_ln0 n, guard_opposite (n % 128 * 16));
  ln1_bits = λ n h. (low_ln1 n h, guard_opposite (n / 128 % 16 * 16));
  recital = (refl, refl, recital);
  distance_none = no_distance;
  distance_one = one_off;
  distance_two = λ j k w p q. two_off j k w (omega arith) q ∙ simp (ne_eqb j k (λ e. omega arith));
  differs_none = no_bit_differs;
  differs_one = one_bit_differs;
  wrong_one = wrong_one;
  bit_answered = λ w r k e q. bit_answered w r e k q;
  nothing_answered = nothing_answered;
}
