-- Where a span is left it may be sent, at the start and after every span.
-- Assumes nothing.
use mathlib.Core.Path.{◌≡◌, refl, subst}
use mathlib.Core.Bool.{true}
use mathlib.Core.List.{List}
use Prim.Native.Nat.{ℕ, ◌≤◌, ◌<◌}
use native.Mathlib.Omega.{arith}
use lib.Dec.{leb}
use lib.ListN.{length}
use borrow.Author.Tests.{leb-true, leb-false}
use Rattle.ground.specs.Answer.{Answer, refused, given}
use Rattle.ground.proofs.Answers.{given_is}
use Rattle.ground.proofs.Cases.{on_test}
use Rattle.line.specs.Stream.{is_line}
use Rattle.line.proofs.Lines.{after_is_line}
use Rattle.span.specs.Format.{is_known}
use Rattle.generate.specs.declared.left.Left.{Left}
use Rattle.generate.specs.declared.parameters.Parameters.{Parameters}
use Rattle.generate.specs.Parameters.{wanted_format, first_line_in, parameters_in, refusals_in, wanted_of}
use Rattle.generate.specs.Pieces.{all_of, nothing, left_by, left_of, Ready}
use Rattle.generate.specs.Inside.Pieces.{next_left}
use Rattle.generate.proofs.Wants.{meets_1, meets_2, meets_3}

-- an answer is given or refused, not both
apart : {A : Type 0} {r : Answer A} {a : A} {number place : ℕ} → r ≡ given a → r ≡ refused number place → ⊥
apart g x = let z : ◌≡◌ {A = ℕ} 0 1 = cc in omega arith

pub nothing_ready : Ready nothing
nothing_ready = record { known = λ h. absurd (omega arith); line = λ h. absurd (omega arith) }

module _ (input : List ℕ) where
  known_told : {p : Parameters} → wanted_of input ≡ given p → is_known (wanted_format input) ≡ true
  known_told g = on_test (is_known (wanted_format input)) (λ t. t) (λ t. absurd (apart g (meets_1 input t)))

  line_told : {p : Parameters} → wanted_of input ≡ given p → is_line (first_line_in input) ≡ true
  line_told g = on_test (is_line (first_line_in input)) (λ t. t) (λ t. absurd (apart g (meets_2 input (known_told g) t)))

  pub whole_told : {p : Parameters} → wanted_of input ≡ given p → 6 ≤ length input
  whole_told g =
      on_test (leb 6 (length input)) (leb-true 6 (length input))
      (λ t. absurd (apart g (meets_3 input (known_told g) (line_told g) (leb-false 6 (length input) t))))

  by_answer : (a : Answer Parameters) → wanted_of input ≡ a → Ready (left_by a)
  by_answer (refused number place) e = nothing_ready
  by_answer (given p) e =
      let is = given_is (refusals_in input) (parameters_in input) p e in
      subst (λ (q : Parameters). Ready (all_of q)) is (record { known = λ _. known_told e; line = λ _. line_told e })

  -- at the start
  pub left_ready : Ready (left_of input)
  left_ready = by_answer (wanted_of input) refl

-- after every span
pub next_ready : (s : Left) → Ready s → 0 < s.count → Ready (next_left s)
next_ready s r h = record { known = λ _. r.known h; line = λ _. after_is_line s.line.0 }
