-- A text that is put piece by piece: what is left of it, put into what is there, gives the whole.
-- Assumes nothing.
use mathlib.Core.Path.{◌≡◌, sym, ap, ◌∙◌}
use mathlib.Core.List.{List, [], ◌++◌}
use Prim.Native.Nat.{ℕ, ◌+◌}
use native.Mathlib.Omega.{arith}
use lib.ListN.{length, length-append}
use lib.Seq.{sets}
use Rattle.ground.proofs.Writing.{sets_append}

pub record Left (before out : List ℕ) (at : ℕ) (left all : List ℕ) : Type 0 where
  pub written : sets out at left ≡ sets before 0 all
  pub ends : at + length left ≡ length all

module _ {before out : List ℕ} {at : ℕ} {left all : List ℕ} (l : Left before out at left all) where
  -- the next piece
  pub piece_put : {out₁ : List ℕ} {end : ℕ} (piece more : List ℕ) → left ≡ piece ++ more → out₁ ≡ sets out at piece → end ≡ at + length piece
      → Left before out₁ end more all
  piece_put {out₁} {end} piece more e written ends =
      record {
        written =
            ap (λ (o : List ℕ). sets o end more) written ∙ sets_append out piece more at end ends ∙ ap (sets out at) (sym e) ∙ l.written;
        ends = omega (arith, l.ends, ends, ap length e ∙ length-append piece more);
      }

  -- none any more
  pub nothing_left : left ≡ [] → (at ≡ length all) × (out ≡ sets before 0 all)
  nothing_left e =
      (omega (arith, l.ends, ap length e), ap (sets out at) (sym e) ∙ l.written)
