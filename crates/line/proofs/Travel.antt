-- Lines 1 to 1080 of a basic image and the active lines of a stream meet one to one (004, 6.1).
-- Assumes nothing.
use mathlib.Core.Path.{◌≡◌, refl, sym, ap, ◌∙◌}
use mathlib.Core.Option.{Option, none, some}
use Prim.Native.Nat.{ℕ, ◌+◌, ◌-◌, ◌≤◌}
use native.Mathlib.Omega.{arith}
use Rattle.std.specs.Prelude.{Option as Answered, Some, None}
use Rattle.ground.specs.Inside.Answer.{Injective}
use Rattle.ground.proofs.Answers.{told_again}
use Rattle.ground.proofs.Cases.{on_test}
use Rattle.ground.proofs.Ranges.{is_within, not_within, from_low, to_high}
use Rattle.line.specs.declared.picture.PictureLine.{PictureLine}
use Rattle.line.specs.declared.stream.StreamLine.{StreamLine}
use Rattle.line.specs.Picture.{is_basic_line, stream_line_of, basic_line_of, number_on, number_carried}
use Rattle.line.specs.Stream.{is_active}

-- ---- a line is told by its number, and an answer by the one in it

pub picture_one_to_one : Injective (λ (l : PictureLine). l.0)
picture_one_to_one = told_again (λ (n : ℕ). record { 0 = n }) (λ l. refl)

abbrev travels_again : Option ℕ → Answered StreamLine
travels_again (some n) = Some record { 0 = n }
travels_again none = None

pub travels_one_to_one : Injective number_on
travels_one_to_one = told_again travels_again again
  where
    again : (r : Answered StreamLine) → travels_again (number_on r) ≡ r
    again (Some l) = refl
    again None = refl

abbrev carries_again : Option ℕ → Answered PictureLine
carries_again (some n) = Some record { 0 = n }
carries_again none = None

pub carries_one_to_one : Injective number_carried
carries_one_to_one = told_again carries_again again
  where
    again : (r : Answered PictureLine) → carries_again (number_carried r) ≡ r
    again (Some l) = refl
    again None = refl

-- ---- which lines travel

module _ (l : ℕ) where
  pub travels : 1 ≤ l → l ≤ 1080 → stream_line_of l ≡ some (l + 41)
  travels p q = simp (is_within 1 1080 l p q)

  pub travels_nowhere : (1 ≤ l → l ≤ 1080 → ⊥) → stream_line_of l ≡ none
  travels_nowhere x = simp (not_within 1 1080 l x)

  pub travels_told : (n : ℕ) → stream_line_of l ≡ some n → (1 ≤ l) × ((l ≤ 1080) × (l + 41 ≡ n))
  travels_told n e =
      on_test (is_basic_line l)
      (λ t. let is : l + 41 ≡ n = cc (simp t at e) in (from_low 1 1080 l t, (to_high 1 1080 l t, is)))
      (λ t. let z : ◌≡◌ {A = ℕ} 0 1 = cc (simp t at e) in absurd (omega arith))

-- ---- and which carry one

module _ (n : ℕ) where
  pub is_carried : {l : ℕ} → 42 ≤ n → n ≤ 1121 → l + 41 ≡ n → some l ≡ basic_line_of n
  is_carried {l} p q e = let less : n - 41 ≡ l = omega arith in simp (is_within 42 1121 n p q, less)

  pub carries_nothing : (42 ≤ n → n ≤ 1121 → ⊥) → basic_line_of n ≡ none
  carries_nothing x = simp (not_within 42 1121 n x)

  pub carries_told : (l : ℕ) → basic_line_of n ≡ some l → (42 ≤ n) × ((n ≤ 1121) × (l + 41 ≡ n))
  carries_told l e =
      on_test (is_active n)
      (λ t.
      let is : n - 41 ≡ l = cc (simp t at e) in
      let low : 42 ≤ n = from_low 42 1121 n t in
      (low, (to_high 42 1121 n t, omega arith)))
      (λ t. let z : ◌≡◌ {A = ℕ} 0 1 = cc (simp t at e) in absurd (omega arith))

pub carries : (l : ℕ) → 1 ≤ l → l ≤ 1080 → basic_line_of (l + 41) ≡ some l
carries l p q = sym (is_carried (l + 41) (omega arith) (omega arith) refl)

-- ---- there and back

pub there_and_back : (l n : ℕ) → stream_line_of l ≡ some n → basic_line_of n ≡ some l
there_and_back l n e =
    let told = travels_told l n e in
    ap basic_line_of (sym told.1.1) ∙ carries l told.0 told.1.0

pub back_and_there : (n l : ℕ) → basic_line_of n ≡ some l → stream_line_of l ≡ some n
back_and_there n l e =
    let told = carries_told n l e in
    let low : 1 ≤ l = omega (arith, told.0, told.1.1) in
    let high : l ≤ 1080 = omega (arith, told.1.0, told.1.1) in
    travels l low high ∙ ap some told.1.1
