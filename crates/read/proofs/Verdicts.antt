-- What a verdict over a list of tests says of the answer.
-- Assumes nothing.
use Rattle.std.specs.Prelude.{Some, None, Result, Ok, Err, IsErrAnd}
use Rattle.std.specs.Result.{result_ok}
use mathlib.Core.Path.{◌≡◌, refl, sym, ap}
use mathlib.Core.Bool.{Bool, true, ◌&&◌}
use mathlib.Core.List.{List, [], ◌∷◌, ◌++◌}
use mathlib.Core.Option.{Option, none, some}
use Prim.Native.Nat.{ℕ, ◌≤◌}
use native.Mathlib.Omega.{arith}
use lib.Dec.{leb, eqb}
use borrow.Author.Tests.{leb-true, eqb-true, eqb-false}
use Rattle.ground.specs.Answer.{Answer, Row, refused, given, checked}
use Rattle.ground.proofs.Cases.{on_test}
use Rattle.ground.proofs.Tests.{both_left, both_right}
use Rattle.read_test21_26.specs.declared.call.JudgeError.TheVariants.{Fails, NoWindow}
use Rattle.read_test21_26.specs.declared.call.Service.{Service}
use Rattle.read_test21_26.specs.declared.service.Fault.{Fault}
use Rattle.read_test21_26.specs.declared.service.Test.{Test}
use Rattle.read_test21_26.specs.declared.service.Test.TheVariants.{Timing, Line, V, Crcc, Sample, Fill}
use Rattle.read_test21_26.specs.Tests.{number_of}
use Rattle.read_test21_26.specs.Inside.Verdict.{test_of}
use Rattle.read_test21_26.specs.Inside.Call.{judged_by}
use Rattle.read_test21_26.specs.Inside.Verdict.{Verdict, is_failed, first_row}

-- ---- the tests and their numbers
pub number_late : (t : Test) → 20 ≤ number_of t
number_late Timing = omega arith
number_late Line = omega arith
number_late V = omega arith
number_late Crcc = omega arith
number_late Sample = omega arith
number_late Fill = omega arith

pub numbered : (n : ℕ) → 21 ≤ n → n ≤ 26 → number_of (test_of n) ≡ n
numbered n h l =
    on_test (eqb n 21) (λ a. rw a (sym (eqb-true n 21 a)))
    (λ a. on_test (eqb n 22) (λ b. rw (a, b) (sym (eqb-true n 22 b)))
    (λ b. on_test (eqb n 23) (λ d. rw (a, b, d) (sym (eqb-true n 23 d)))
    (λ d. on_test (eqb n 24) (λ e. rw (a, b, d, e) (sym (eqb-true n 24 e)))
    (λ e. on_test (eqb n 25) (λ g. rw (a, b, d, e, g) (sym (eqb-true n 25 g)))
    (λ g.
    let last : 26 ≡ n = omega (arith, eqb-false n 21 a, eqb-false n 22 b, eqb-false n 23 d, eqb-false n 24 e, eqb-false n 25 g) in
    rw (a, b, d, e, g) last)))))

-- ---- the numbers of all rows lie in a range
abbrev pub ranged : ℕ → ℕ → List Row → Bool
ranged low high [] = true
ranged low high (r ∷ rs) = (leb low r.number && leb r.number high) && ranged low high rs

module _ (low high : ℕ) where
  low_of : (r : Row) (rs : List Row) → ranged low high (r ∷ rs) ≡ true → low ≤ r.number
  low_of r rs t =
      leb-true low r.number
      (both_left (leb low r.number) (leb r.number high)
      (both_left (leb low r.number && leb r.number high) (ranged low high rs) t))

  high_of : (r : Row) (rs : List Row) → ranged low high (r ∷ rs) ≡ true → r.number ≤ high
  high_of r rs t =
      leb-true r.number high
      (both_right (leb low r.number) (leb r.number high)
      (both_left (leb low r.number && leb r.number high) (ranged low high rs) t))

  rest_of : (r : Row) (rs : List Row) → ranged low high (r ∷ rs) ≡ true → ranged low high rs ≡ true
  rest_of r rs t = both_right (leb low r.number && leb r.number high) (ranged low high rs) t

-- ---- the answer: what was asked for if all hold, and else the refusal
abbrev pub answer_by : {A : Type 0} → Verdict → A → Answer A
answer_by (Ok done) a = given a
answer_by (Err x) a = refused (number_of x.test) x.place

pub checked_by : {A : Type 0} (a : A) (rs : List Row) → ranged 21 26 rs ≡ true → checked rs a ≡ answer_by (first_row rs) a
checked_by a [] t = refl
checked_by {A} a (r ∷ rs) t = go r.fails refl (checked_by a rs (rest_of 21 26 r rs t))
  where
    go : (o : Option ℕ) → r.fails ≡ o → checked rs a ≡ answer_by (first_row rs) a → checked (r ∷ rs) a ≡ answer_by (first_row (r ∷ rs)) a
    go (some k) q more = rw q (ap (λ (n : ℕ). refused n k) (sym (numbered r.number (low_of 21 26 r rs t) (high_of 21 26 r rs t))))
    go none q more = rw q more

-- ---- tests and then more of them
abbrev pub then_by : Verdict → Verdict → Verdict
then_by (Ok done) v = v
then_by (Err x) v = Err x

pub then_by_lem : (rs more : List Row) → first_row (rs ++ more) ≡ then_by (first_row rs) (first_row more)
then_by_lem [] more = refl
then_by_lem (r ∷ rs) more = go r.fails refl (then_by_lem rs more)
  where
    go : (o : Option ℕ) → r.fails ≡ o → first_row (rs ++ more) ≡ then_by (first_row rs) (first_row more)
        → first_row ((r ∷ rs) ++ more) ≡ then_by (first_row (r ∷ rs)) (first_row more)
    go (some k) q next = rw q
    go none q next = rw q next

-- ---- what is told of a window
module _ (service : Service) where
  pub serves_told : {s : Service} (v : Verdict) → Ok s ≡ judged_by v service → (v ≡ Ok tt) × (s ≡ service)
  serves_told (Ok done) e = (refl, cc)
  serves_told (Err x) e = cc

  pub refused_told : {x : Fault} (v : Verdict) → Err (Fails x) ≡ judged_by v service → v ≡ Err x
  refused_told (Ok done) e = cc
  refused_told (Err y) e = cc

  pub never_none : {A : Type 0} (v : Verdict) → Err NoWindow ≡ judged_by v service → A
  never_none (Ok done) e = cc
  never_none (Err y) e = cc

  pub none_served : (v : Verdict) → result_ok (judged_by v service) ≡ None → is_failed v ≡ true
  none_served (Ok done) e = cc
  none_served (Err x) e = refl

-- ---- what an answer that is handed on tells
pub ok_told : {A E : Type 0} (o : Result A E) {x : A} → result_ok o ≡ Some x → o ≡ Ok x
ok_told (Ok y) e = cc
ok_told (Err y) e = cc

pub handed : {A E : Type 0} {e : E} (r : Result A E) → IsErrAnd r (λ y. y ≡ e) → r ≡ Err e
handed (Ok x) m = absurd m
handed (Err y) m = ap Err m
