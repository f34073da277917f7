-- Symbols that repeat: where three of them are bytes that leave the disparity as it was, so are all that repeat them.
-- Assumes nothing.
use mathlib.Core.Path.{◌≡◌, sym, ap, ap₂, ◌∙◌}
use mathlib.Core.Bool.{true}
use mathlib.Core.List.{List}
use Prim.Native.Nat.{ℕ, zero, suc, ◌+◌, ◌-◌, ◌*◌, ◌/◌, ◌%◌, ◌≤◌, ◌<◌}
use native.Mathlib.Omega.{arith}
use Rattle.symbol.specs.declared.disparity.Disparity.{Disparity}
use Rattle.symbol.specs.Code.{after_of}
use Rattle.decoder.specs.Inside.Mask.{mask_of, of_mask}
use Rattle.decoder.proofs.Masks.{mask_again}
use Rattle.window.specs.Scan.{meant, running_at}
use Rattle.window.proofs.Symbols.{running_on}
use Rattle.read_test20.specs.Inside.Fill.{Repeats}
use Rattle.read_test20.specs.Inside.Run.{suits, RunInv}

module _ (w : List ℕ) (from to m : ℕ) (three : from + 3 ≤ to) (again : Repeats w from to) (first : RunInv w 0 255 from (from + 3) m)
    (same : m ≡ mask_of (running_at w from)) where
  -- the disparity before a symbol is the one before the symbol three further on
  running_again : (k : ℕ) → from + k + 3 ≤ to → running_at w (from + k + 3) ≡ running_at w (from + k)
  running_again zero h =
      let at : from + 0 ≡ from = omega arith in
      rw at (sym (mask_again (running_at w (from + 3))) ∙ ap of_mask (sym first.bit ∙ same) ∙ mask_again (running_at w from))
  running_again (suc k) h =
      let far : from + suc k + 3 ≡ suc (from + k + 3) = omega arith in
      let near : from + suc k ≡ suc (from + k) = omega arith in
      rw (far, near)
      (running_on w (from + k + 3)
      ∙ ap₂ (λ (d : Disparity) (s : ℕ). after_of d (meant s)) (running_again k (omega arith)) (again.again (from + k) (omega arith) (omega arith))
      ∙ sym (running_on w (from + k)))

  suits_again : (k : ℕ) → from + k + 3 < to → suits w 0 255 (from + k + 3) ≡ suits w 0 255 (from + k)
  unfolding suits
  suits_again k h = rw (running_again k (omega arith), again.again (from + k) (omega arith) (omega arith))

  -- symbol r of the q-th three
  suited : (q r : ℕ) → r < 3 → from + (3 * q + r) < to → suits w 0 255 (from + (3 * q + r)) ≡ true
  suited zero r h l = first.suited (from + (3 * 0 + r)) (omega arith) (omega arith)
  suited (suc q) r h l =
      let at : from + (3 * suc q + r) ≡ from + (3 * q + r) + 3 = omega arith in
      rw at (suits_again (3 * q + r) (omega arith) ∙ suited q r h (omega arith))

  running_on_again : (q : ℕ) → from + 3 * q ≤ to → running_at w (from + 3 * q) ≡ running_at w from
  running_on_again zero h = let at : from + 3 * 0 ≡ from = omega arith in rw at
  running_on_again (suc q) h =
      let at : from + 3 * suc q ≡ from + 3 * q + 3 = omega arith in
      rw at (running_again (3 * q) (omega arith) ∙ running_on_again q (omega arith))

  pub repeated_going : (to - from) % 3 ≡ 0 → RunInv w 0 255 from to m
  repeated_going whole =
      let end : from + 3 * ((to - from) / 3) ≡ to = omega arith in
      record {
        come = omega arith;
        bit = same ∙ ap mask_of (sym (running_on_again ((to - from) / 3) (omega arith)) ∙ ap (running_at w) end);
        suited = λ j h l.
            let at : from + (3 * ((j - from) / 3) + (j - from) % 3) ≡ j = omega arith in
            rw at at (suited ((j - from) / 3) ((j - from) % 3) (omega arith) (omega arith));
      }
