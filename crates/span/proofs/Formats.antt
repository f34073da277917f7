-- Which formats are known, in the paper's own numbers, and what every shape has in common.
-- Assumes nothing.
use mathlib.Core.Path.{◌≡◌, refl, ap}
use mathlib.Core.Bool.{Bool, true, false, ◌&&◌, ◌||◌}
use mathlib.Core.Logic.{◌⊎◌, inl, inr, ⊎_elim}
use Prim.Native.Nat.{ℕ, zero, suc, ◌+◌, ◌*◌, ◌≤◌}
use native.Mathlib.Nat.{mul-le-mul_left}
use native.Mathlib.Omega.{arith}
use lib.Dec.{eqb}
use borrow.Author.Tests.{eq-eqb, eqb-true}
use Rattle.ground.proofs.Cases.{on_test}
use Rattle.ground.proofs.Ranges.{is_within, from_low, to_high}
use Rattle.ground.proofs.Tests.{both_left, both_right}
use Rattle.span.specs.declared.format.Format.{Format}
use Rattle.span.specs.declared.format.Shape.{Shape}
use Rattle.span.specs.Format.{is_number, is_depth, is_component, is_structure, is_size, is_known, table_row, numbered, shape_of}
use Rattle.span.specs.Numbers.{IsFormat}
use Rattle.span.specs.Inside.Format.{Small}
use Rattle.span.specs.Layout.{ancillary_start}

either : (a b : Bool) → (a || b) ≡ true → (a ≡ true) ⊎ (b ≡ true)
either true b t = inl refl
either false b t = inr t

-- either of two tests
right_of : (a b : Bool) → b ≡ true → (a || b) ≡ true
right_of true b t = refl
right_of false b t = t

pub number_known : {n : ℕ} → 1 ≤ n → n ≤ 3 → is_number n ≡ true
number_known {n} p q = is_within _ _ n (omega arith) (omega arith)

pub depth_known : {depth : ℕ} → (depth ≡ 10) ⊎ (depth ≡ 12) → is_depth depth ≡ true
depth_known {depth} bits =
    ⊎_elim (λ e. ap (λ (t : Bool). t || eqb depth 12) (eq-eqb _ _ e)) (λ e. right_of (eqb depth 10) (eqb depth 12) (eq-eqb _ _ e)) bits

pub component_known : {c : ℕ} → 1 ≤ c → c ≤ 6 → is_component c ≡ true
component_known {c} p q = is_within _ _ c (omega arith) (omega arith)

pub structure_known : {s : ℕ} → s ≡ 1 → is_structure s ≡ true
structure_known e = rw e refl

size_known : {s : ℕ} → s ≡ 1 → is_size s ≡ true
size_known e = rw e refl

-- and no others
number_told : {n : ℕ} → is_number n ≡ true → (1 ≤ n) × (n ≤ 3)
number_told t = (omega (arith, from_low _ _ _ t), omega (arith, to_high _ _ _ t))

component_told : {c : ℕ} → is_component c ≡ true → (1 ≤ c) × (c ≤ 6)
component_told t = (omega (arith, from_low _ _ _ t), omega (arith, to_high _ _ _ t))

structure_told : {s : ℕ} → is_structure s ≡ true → s ≡ 1
structure_told {s} t = eqb-true s _ t

size_told : {s : ℕ} → is_size s ≡ true → s ≡ 1
size_told {s} t = eqb-true s _ t

module _ (f : Format) where
  abbrev sampling : Bool
  sampling = is_structure f.structure && is_size f.size

  abbrev carrying : Bool
  carrying = is_component f.component && sampling

  pub is_known_lem : IsFormat f → is_known f ≡ true
  is_known_lem k =
      simp
      (number_known k.from k.to, depth_known k.bits, component_known k.component.0 k.component.1, structure_known k.structure, size_known k.size)

  pub known_told : is_known f ≡ true → IsFormat f
  known_told t =
      let number = number_told (both_left (is_number f.number) (is_depth f.depth && carrying) t) in
      let deep = both_right (is_number f.number) (is_depth f.depth && carrying) t in
      let carries = both_right (is_depth f.depth) carrying deep in
      let sampled = both_right (is_component f.component) sampling carries in
      record {
        from = number.0;
        to = number.1;
        bits =
            ⊎_elim (λ e. inl (eqb-true _ _ e)) (λ e. inr (eqb-true _ _ e))
            (either (eqb f.depth 10) (eqb f.depth 12) (both_left (is_depth f.depth) carrying deep));
        component = component_told (both_left (is_component f.component) sampling carries);
        structure = structure_told (both_left (is_structure f.structure) (is_size f.size) sampled);
        size = size_told (both_right (is_structure f.structure) (is_size f.size) sampled);
      }

  pub unknown : (IsFormat f → ⊥) → is_known f ≡ false
  unknown x = on_test (is_known f) (λ t. absurd (x (known_told t))) (λ t. t)

small_row : (n : ℕ) → Small (numbered n)
small_row zero = record { half = omega arith; ancillary = omega arith; fill = omega arith; long_area = λ h. omega arith; long_fill = λ h. omega arith }
small_row (suc zero) = record { half = omega arith; ancillary = omega arith; fill = omega arith; long_area = λ h. omega arith; long_fill = λ h. omega arith }
small_row (suc (suc zero)) = record { half = omega arith; ancillary = omega arith; fill = omega arith; long_area = λ h. omega arith; long_fill = λ h. omega arith }
small_row (suc (suc (suc zero))) = record { half = omega arith; ancillary = omega arith; fill = omega arith; long_area = λ h. omega arith; long_fill = λ h. omega arith }
small_row (suc (suc (suc (suc n)))) = record { half = omega arith; ancillary = omega arith; fill = omega arith; long_area = λ h. omega arith; long_fill = λ h. omega arith }

pub small : {p : Shape} (f : Format) → p ≡ shape_of f → Small p
unfolding shape_of
small f e = rw e (small_row f.number)

-- what is no format has no streams
pub no_row : (n : ℕ) → (n ≡ 1 → ⊥) → (n ≡ 2 → ⊥) → (n ≡ 3 → ⊥) → numbered n ≡ table_row 0 0 0
no_row zero a b c = refl
no_row (suc zero) a b c = absurd (a refl)
no_row (suc (suc zero)) a b c = absurd (b refl)
no_row (suc (suc (suc zero))) a b c = absurd (c refl)
no_row (suc (suc (suc (suc n)))) a b c = refl

-- its pairs of words, the fill apart
pub few_pairs : {p : Shape} → Small p → p.stream_pairs * (ancillary_start + p.ancillary) ≤ 5280
few_pairs {p} s =
    let m : (ancillary_start + p.ancillary) * p.stream_pairs ≤ (ancillary_start + p.ancillary) * 2 = mul-le-mul_left (ancillary_start + p.ancillary) s.half in
    omega (arith, m, s.ancillary)

-- and the pairs of its ancillary area, if it has streams
pub long_area : {p : Shape} → Small p → 1 ≤ p.stream_pairs → 268 ≤ p.stream_pairs * p.ancillary
long_area {p} s h =
    let m : p.ancillary * 1 ≤ p.ancillary * p.stream_pairs = mul-le-mul_left p.ancillary h in omega (arith, m, s.long_area h)

-- formats 1 and 2 have two streams, format 3 four
half_two : (n : ℕ) → 1 ≤ n → n ≤ 2 → (numbered n).stream_pairs ≡ 1
half_two zero p q = absurd (omega arith)
half_two (suc zero) p q = refl
half_two (suc (suc zero)) p q = refl
half_two (suc (suc (suc n))) p q = absurd (omega arith)

pub two_streams : (f : Format) → IsFormat f → f.number ≤ 2 → (shape_of f).stream_pairs ≡ 1
unfolding shape_of
two_streams f known q = half_two f.number known.from q

pub four_streams : (f : Format) → f.number ≡ 3 → (shape_of f).stream_pairs ≡ 2
unfolding shape_of
four_streams f e = rw e
