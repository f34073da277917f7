-- A list of zeros, told word by word.
-- Assumes nothing.
use mathlib.Core.Path.{◌≡◌, refl, sym, ◌∙◌}
use mathlib.Core.List.{List, ◌++◌}
use Prim.Native.Nat.{ℕ, zero, suc, ◌-◌, ◌≤◌, ◌<◌}
use native.Mathlib.Omega.{arith}
use lib.ListN.{length, get_or, replicate, length-replicate}
use lib.Seq.{ext_get_or}
use Rattle.std.proofs.lemmas.List.{get_or-append_right}

pub all_zero : (n j : ℕ) → get_or {A = ℕ} (replicate n 0) j 0 ≡ 0
all_zero zero j = refl
all_zero (suc n) zero = refl
all_zero (suc n) (suc j) = all_zero n j

pub are_zeros : (n : ℕ) (l : List ℕ) → length l ≡ n → ((i : ℕ) → i < n → get_or l i 0 ≡ 0) → l ≡ replicate n 0
are_zeros n l long each =
    ext_get_or 0 l (replicate n 0) (long ∙ sym (length-replicate n 0)) (λ i h. each i (omega arith) ∙ sym (all_zero n i))

-- what stands behind a first piece
pub behind : (xs ys : List ℕ) (i : ℕ) → length xs ≤ i → get_or (xs ++ ys) i 0 ≡ get_or ys (i - length xs) 0
behind xs ys i h = get_or-append_right xs ys (length xs) i 0 refl h
