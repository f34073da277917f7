-- A buffer of zeros that is filled slot by slot from its beginning.
-- Assumes nothing.
use mathlib.Core.Path.{◌≡◌, sym, ap, ap₂, ◌∙◌}
use mathlib.Core.List.{List, ◌++◌, append_assoc}
use Prim.Native.Nat.{ℕ, suc, ◌+◌, ◌-◌, ◌*◌, ◌≤◌}
use native.Mathlib.Omega.{arith}
use lib.ListN.{length, drop, replicate, length-append, length-replicate, replicate-append-replicate}
use lib.Seq.{sets, sets-eq, take_at, drop_at, drop-append-add}

-- zeros in three runs
zeros : (a b c : ℕ) → ◌≡◌ {A = List ℕ} (replicate (a + (b + c)) 0) (replicate a 0 ++ (replicate b 0 ++ replicate c 0))
zeros a b c =
    sym (replicate-append-replicate a (b + c) 0) ∙ ap (λ (l : List ℕ). replicate a 0 ++ l) (sym (replicate-append-replicate b c 0))

-- a slot of so many words with something at its beginning
abbrev pub padded : ℕ → List ℕ → List ℕ
padded size c = c ++ replicate (size - length c) 0

module _ (size m : ℕ) (done c : List ℕ) (at : ℕ) (here : length done ≡ at) (fits : length c ≤ size) where
  -- the slots that are left
  abbrev left : List ℕ
  left = replicate (size * suc m) 0

  -- the rest of the next slot, and the others
  abbrev rest : List ℕ
  rest = replicate (size - length c) 0 ++ replicate (size * m) 0

  left_is : left ≡ replicate (length c) 0 ++ rest
  left_is =
      let q : size * suc m ≡ length c + ((size - length c) + size * m) = omega arith in
      ap (λ (n : ℕ). replicate n 0) q ∙ zeros (length c) (size - length c) (size * m)

  -- what is put at the beginning of the next slot
  pub slot_put : sets (done ++ left) at c ≡ (done ++ padded size c) ++ replicate (size * m) 0
  slot_put =
      let long : length left ≡ size * suc m = length-replicate (size * suc m) 0 in
      let behind : drop (at + length c) (done ++ left) ≡ rest =
      ap (λ (k : ℕ). drop (k + length c) (done ++ left)) (sym here)
      ∙ drop-append-add done left (length c)
      ∙ ap (drop (length c)) left_is
      ∙ drop_at (replicate (length c) 0) rest (length c) (length-replicate (length c) 0) in
      sets-eq c (done ++ left) at (omega (arith, length-append done left, long))
      ∙ ap₂ (λ (x y : List ℕ). x ++ c ++ y) (take_at done left at here) behind
      ∙ simp append_assoc
