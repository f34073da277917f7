-- A list put into a buffer at a place, and another put after it.
-- Assumes nothing.
use mathlib.Core.Path.{◌≡◌, ap, ◌∙◌}
use mathlib.Core.List.{List, ◌++◌}
use Prim.Native.Nat.{ℕ, ◌+◌}
use native.Mathlib.Omega.{arith}
use lib.ListN.{length, length-append}
use lib.Seq.{sets, length-sets}
use Rattle.ground.proofs.Writing.{sets_append}

-- a list put at a place, and where it ends
pub record Put (before after : List ℕ) (at end : ℕ) (xs : List ℕ) : Type 0 where
  pub written : after ≡ sets before at xs
  pub ends : end ≡ at + length xs

-- one list and then another
pub then : {o p q : List ℕ} {at mid end : ℕ} {x y : List ℕ} → Put o p at mid x → Put p q mid end y → Put o q at end (x ++ y)
then {o} {p} {q} {at} {mid} {end} {x} {y} f g =
    record {
      written = g.written ∙ ap (λ (l : List ℕ). sets l mid y) f.written ∙ sets_append o x y at mid f.ends;
      ends = rw length-append (omega (arith, f.ends, g.ends));
    }

pub put_length : {o p : List ℕ} {at end : ℕ} {x : List ℕ} → Put o p at end x → length p ≡ length o
put_length {o} {p} {at} {end} {x} f = ap length f.written ∙ length-sets o at x

pub put_as : {o p : List ℕ} {at end : ℕ} {x y : List ℕ} → x ≡ y → Put o p at end x → Put o p at end y
put_as {o} {p} {at} {end} e f = record { written = f.written ∙ ap (sets o at) e; ends = f.ends ∙ ap (λ (l : List ℕ). at + length l) e }
