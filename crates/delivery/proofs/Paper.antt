-- Windows one after the other, and what is kept, in plain numbers, proved.
-- Assumes nothing.
use mathlib.Core.Path.{refl, ap}
use mathlib.Core.List.{List, ◌++◌, append-nil}
use Prim.Native.Nat.{ℕ}
use Rattle.delivery.specs.Delivery.{moved_by, concatenated, placed_from}
use Rattle.delivery.specs.Paper.{DeliveryPaper}
use Rattle.delivery.proofs.Keeping.{kept_start, kept_last}

pub delivery_paper : (S A : Type 0) → DeliveryPaper S A
unfolding moved_by concatenated placed_from
delivery_paper S A = record {
  each_of_none = λ P. tt;
  each_of_two = λ P x y p q. (p, (q, tt));
  two_after_each_other = λ symbols x y. ap (λ (l : List ℕ). symbols x ++ l) (append-nil (symbols y));
  two_places = λ n reading p x y. refl;
  two_moved = λ k p q a b. refl;
  kept_all = kept_start;
  kept_last = kept_last;
}
