-- Which numbers are lines, which of them are active, and the way from one line to the next.
-- Assumes nothing.
use mathlib.Core.Path.{◌≡◌, refl}
use mathlib.Core.Bool.{true, false}
use Prim.Native.Nat.{ℕ, ◌+◌, ◌-◌, ◌≤◌, ◌<◌}
use native.Mathlib.Omega.{arith}
use lib.Dec.{ltb}
use borrow.Author.Tests.{lt-ltb, ltb-true, ltb-false}
use Rattle.ground.specs.Range.{within}
use Rattle.ground.specs.Inside.Answer.{Injective}
use Rattle.ground.proofs.Answers.{told_again}
use Rattle.ground.proofs.Cases.{on_test}
use Rattle.ground.proofs.Ranges.{is_within, is_below, is_above, from_low, to_high}
use Rattle.line.specs.declared.stream.StreamLine.{StreamLine}
use Rattle.line.specs.Stream.{is_line, is_active, v_of, line_after, line_before}

-- a line is told by its number
pub line_one_to_one : Injective (λ (l : StreamLine). l.0)
line_one_to_one = told_again (λ (n : ℕ). record { 0 = n }) (λ l. refl)

-- table 5, as it is printed: V of each line
pub active : (n : ℕ) → 42 ≤ n → n ≤ 1121 → v_of n ≡ false
active n p q = let t : is_active n ≡ true = is_within 42 1121 n p q in simp t

pub blanking_before : (n : ℕ) → n ≤ 41 → v_of n ≡ true
blanking_before n p = let t : is_active n ≡ false = is_below 42 1121 n (omega arith) in simp t

pub blanking_behind : (n : ℕ) → 1122 ≤ n → v_of n ≡ true
blanking_behind n p = let t : is_active n ≡ false = is_above 42 1121 n (omega arith) p in simp t

-- the line after 1125 is 1, and the line before 1 is 1125
pub after_last : line_after 1125 ≡ 1
after_last = refl

pub before_first : line_before 1 ≡ 1125
unfolding within
before_first = refl

-- whatever number is given, the line after it and the line before it are lines: never 0
pub after_is_line : (n : ℕ) → is_line (line_after n) ≡ true
after_is_line n =
    on_test (ltb n 1125)
    (λ t. simp t (is_within 1 1125 (n + 1) (omega arith) (omega (arith, ltb-true n 1125 t))))
    (λ t. simp t (is_within 1 1125 1 (omega arith) (omega arith)))

pub before_is_line : (n : ℕ) → is_line (line_before n) ≡ true
before_is_line n =
    on_test (within 2 1125 n)
    (λ t. simp t (is_within 1 1125 (n - 1) (omega (arith, from_low 2 1125 n t)) (omega (arith, to_high 2 1125 n t))))
    (λ t. simp t (is_within 1 1125 1125 (omega arith) (omega arith)))

-- from a line to the next and back
pub before_after : (n : ℕ) → 1 ≤ n → n ≤ 1125 → line_before (line_after n) ≡ n
before_after n p q =
    on_test (ltb n 1125)
    (λ t.
    let h : within 2 1125 (n + 1) ≡ true = is_within 2 1125 (n + 1) (omega arith) (omega (arith, ltb-true n 1125 t)) in
    simp (t, h) (omega arith))
    (λ t. simp (t, before_first) (omega (arith, ltb-false n 1125 t)))

pub after_before : (n : ℕ) → 1 ≤ n → n ≤ 1125 → line_after (line_before n) ≡ n
after_before n p q =
    on_test (ltb 1 n)
    (λ t.
    let l : 2 ≤ n = ltb-true 1 n t in
    let h : n - 1 < 1125 = omega arith in
    simp (is_within 2 1125 n l q, lt-ltb (n - 1) 1125 h) (omega arith))
    (λ t. let e : 1 ≡ n = omega (arith, ltb-false 1 n t) in rw (← e, before_first, after_last))
