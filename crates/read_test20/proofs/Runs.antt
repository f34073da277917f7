-- A run of symbols through the table.
-- Assumes nothing.
use mathlib.Core.Path.{◌≡◌, refl, sym, ap, ap₂, ◌∙◌}
use mathlib.Core.Bool.{true, ◌&&◌}
use mathlib.Core.List.{List, [], ◌∷◌}
use Prim.Native.Nat.{ℕ, ◌+◌, ◌≤◌, ◌<◌}
use native.Mathlib.Nat.{eq-or-lt_of_le}
use native.Mathlib.Numerals.{add-one}
use native.Mathlib.Omega.{arith}
use mathlib.Core.Logic.{◌⊎◌, inl, inr, ⊎_elim}
use lib.ListN.{length}
use borrow.Author.Tests.{ne_eqb}
use Rattle.ground.specs.Range.{within}
use Rattle.ground.specs.Search.{is_some}
use Rattle.ground.proofs.Tests.{both_left}
use Rattle.symbol.specs.declared.disparity.Disparity.TheVariants.{Negative, Positive}
use Rattle.symbol.specs.Code.{symbol_of, char_of}
use Rattle.decoder.specs.Inside.Decoder.{decoding_table, entry_of, entry_in}
use Rattle.decoder.specs.Inside.Mask.{mask_of, after_by}
use Rattle.decoder.proofs.Masks.{legal_mask, after_mask}
use Rattle.decoder.proofs.Reading.{legal_is, entry_in_lem}
use Rattle.window.specs.Scan.{meant, symbol_at, start_of, running_at}
use Rattle.window.proofs.Symbols.{meant_entry, some_meant, running_on}
use Rattle.read_test20.specs.Inside.Run.{suits_by, suits, RunInv}

module _ (w : List ℕ) (low high : ℕ) where
  -- what the table says of a symbol is so
  pub suits_is : (i : ℕ) → suits_by low high (mask_of (running_at w i)) (entry_of (symbol_at w i)) ≡ suits w low high i
  unfolding suits
  suits_is i =
      ap₂ ◌&&◌ (legal_mask (running_at w i) (entry_of (symbol_at w i)) ∙ legal_is (running_at w i) (symbol_at w i))
      (ap (within low high) (sym (meant_entry (symbol_at w i))))

  -- the bit after a symbol that suits is that of the disparity before the next
  after_suits : (i : ℕ) → suits w low high i ≡ true → after_by (mask_of (running_at w i)) (entry_of (symbol_at w i)) ≡ mask_of (running_at w (i + 1))
  unfolding suits
  after_suits i t =
      let d = running_at w i in
      let s = symbol_at w i in
      let legal = some_meant d s (both_left (is_some (char_of d s)) (within low high (meant s)) t) in
      after_mask d s (meant s) legal ∙ ap mask_of (sym (running_on w i)) ∙ ap (λ (k : ℕ). mask_of (running_at w k)) (sym (add-one i))

  pub begin : (from mask : ℕ) → mask ≡ mask_of (running_at w from) → RunInv w low high from from mask
  begin from mask e = record { come = omega arith; bit = e; suited = λ j h l. absurd (omega arith) }

  -- one symbol more
  pub further : {from i mask next : ℕ} → RunInv w low high from i mask → suits w low high i ≡ true → next ≡ mask_of (running_at w (i + 1))
      → RunInv w low high from (i + 1) next
  further {from} {i} g here bit =
      record { come = omega (arith, g.come); bit = bit; suited = λ j h l. ⊎_elim (λ q. rw q at here) (λ q. g.suited j h q) (sooner j l) }
    where
      sooner : (j : ℕ) → j < i + 1 → (i ≡ j) ⊎ (j < i)
      sooner j l = ⊎_elim (λ q. inl (sym q)) (λ q. inr q) (eq-or-lt_of_le (let b : j ≤ i = omega arith in b))

  module _ {from i mask e : ℕ} (g : RunInv w low high from i mask) (is : e ≡ entry_in decoding_table (symbol_at w i)) where
    asked : suits_by low high mask e ≡ suits w low high i
    asked = rw (is, entry_in_lem (symbol_at w i), g.bit) (suits_is i)

    pub turn : suits_by low high mask e ≡ true → RunInv w low high from (i + 1) (after_by mask e)
    turn t =
        let here : suits w low high i ≡ true = sym asked ∙ t in
        further g here (rw (is, entry_in_lem (symbol_at w i), g.bit) (after_suits i here))

-- where there is no symbol, 0 is read
pub no_symbol : (w : List ℕ) → length w ≤ 0 → symbol_at w 0 ≡ 0
no_symbol [] h = refl
no_symbol (s ∷ w) h = absurd (omega arith)

-- the disparity at which symbol 0 is K28.5
module _ (w : List ℕ) where
  pub starts_negative : symbol_at w 0 ≡ 0x17C → start_of w ≡ Negative
  unfolding start_of symbol_of
  starts_negative e = rw e

  pub starts_positive : (symbol_at w 0 ≡ 0x17C → ⊥) → start_of w ≡ Positive
  unfolding start_of symbol_of
  starts_positive x = rw (ne_eqb (symbol_at w 0) 0x17C x)
