-- When a window and its rows have a known format's lengths.
-- Assumes nothing.
use mathlib.Core.Path.{◌≡◌, ap, ◌∙◌}
use mathlib.Core.Bool.{Bool, true, false, ◌&&◌}
use Prim.Native.Nat.{ℕ}
use lib.Dec.{eqb}
use borrow.Author.Tests.{eq-eqb, ne_eqb, eqb-true}
use Rattle.ground.proofs.Tests.{both_left, both_right}
use Rattle.span.specs.declared.format.Format.{Format}
use Rattle.span.specs.Format.{is_known, shape_of, samples_in, symbols_in}
use Rattle.span.specs.Inside.Fit.{ready}

module _ (f : Format) (symbols rows : ℕ) where
  -- the three tests one after the other
  pub ready_is : is_known f ≡ true → symbols ≡ symbols_in (shape_of f) → ready f symbols rows ≡ eqb rows (samples_in (shape_of f))
  ready_is k e =
      ap (λ (t : Bool). t && (eqb symbols (symbols_in (shape_of f)) && eqb rows (samples_in (shape_of f)))) k
      ∙ ap (λ (t : Bool). t && eqb rows (samples_in (shape_of f))) (eq-eqb _ _ e)

  pub not_symbols : is_known f ≡ true → (symbols ≡ symbols_in (shape_of f) → ⊥) → ready f symbols rows ≡ false
  not_symbols k x =
      ap (λ (t : Bool). t && (eqb symbols (symbols_in (shape_of f)) && eqb rows (samples_in (shape_of f)))) k
      ∙ ap (λ (t : Bool). t && eqb rows (samples_in (shape_of f))) (ne_eqb _ _ x)

  pub not_known : is_known f ≡ false → ready f symbols rows ≡ false
  not_known k = ap (λ (t : Bool). t && (eqb symbols (symbols_in (shape_of f)) && eqb rows (samples_in (shape_of f)))) k

  -- what they tell
  module _ (t : ready f symbols rows ≡ true) where
    pub known_then : is_known f ≡ true
    known_then = both_left (is_known f) (eqb symbols (symbols_in (shape_of f)) && eqb rows (samples_in (shape_of f))) t

    lengths_then : (eqb symbols (symbols_in (shape_of f)) && eqb rows (samples_in (shape_of f))) ≡ true
    lengths_then = both_right (is_known f) (eqb symbols (symbols_in (shape_of f)) && eqb rows (samples_in (shape_of f))) t

    pub symbols_then : symbols ≡ symbols_in (shape_of f)
    symbols_then =
        eqb-true _ _ (both_left (eqb symbols (symbols_in (shape_of f))) (eqb rows (samples_in (shape_of f))) lengths_then)

    pub rows_then : rows ≡ samples_in (shape_of f)
    rows_then =
        eqb-true _ _ (both_right (eqb symbols (symbols_in (shape_of f))) (eqb rows (samples_in (shape_of f))) lengths_then)
