-- A part of a list that is given anew.
-- Assumes nothing.
use mathlib.Core.Path.{◌≡◌, sym, ap, ◌∙◌}
use mathlib.Core.List.{List, ◌++◌, append_assoc}
use Prim.Native.Nat.{ℕ, ◌+◌, ◌-◌, ◌≤◌}
use native.Mathlib.Omega.{arith}
use lib.ListN.{length, take, drop}
use lib.Seq.{sets, sets-eq, drop-drop}
use borrow.Rule.Slice.PartMut.{put_mid}

-- a part from one place to another, given anew, is put there
pub part_put : (l x : List ℕ) (at end : ℕ) → at + length x ≡ end → end ≤ length l → put_mid at (end - at) l x ≡ sets l at x
part_put l x at end e h =
    let q : at + (end - at) ≡ at + length x = omega arith in
    sym
    (sets-eq x l at (omega arith)
    ∙ append_assoc (take at l) x (drop (at + length x) l)
    ∙ ap (λ (r : List ℕ). take at l ++ (x ++ r)) (ap (λ (k : ℕ). drop k l) (sym q) ∙ sym (drop-drop (end - at) at l)))
