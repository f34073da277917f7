-- Two rows written side by side: what one turn does, and what stands there at the end.
-- Assumes nothing.
use mathlib.Core.Path.{◌≡◌, refl, ap, ◌∙◌}
use mathlib.Core.List.{List, [], ◌∷◌}
use Prim.Native.Nat.{ℕ, suc, ◌+◌, ◌<◌}
use native.Mathlib.Omega.{arith}
use lib.ListN.{length, set}
use lib.Seq.{sets, set_comm, length-sets}
use Rattle.ground.specs.Written.{upto, table}
use Rattle.ground.proofs.Writing.{sets_upto}
use Rattle.read_test20.specs.Inside.Picture.{TwoRowsInv}

-- a store before a run of stores may come after it
store_before : {A : Type 0} (ys l : List A) (k i : ℕ) (x : A) → k < i → set (sets l i ys) k x ≡ sets (set l k x) i ys
store_before [] l k i x h = refl
store_before {A} (y ∷ ys) l k i x h =
    store_before ys (set l i y) k (suc i) x (omega arith)
    ∙ ap (λ (t : List A). sets t (suc i) ys) (set_comm l i k y x (λ e. omega arith))

-- one entry more
store_next : (l : List ℕ) (i k n : ℕ) (f : ℕ → ℕ) → k ≡ i + n → set (sets l i (table n f)) k (f n) ≡ sets l i (table (n + 1) f)
unfolding table
store_next l i k n f e = sets_upto 1 (λ j. f j ∷ []) (λ m. refl) l i k n (omega arith)

module _ {A B : ℕ → ℕ} {count low high : ℕ} {old : List ℕ} where
  pub begin : {j : ℕ} → high ≡ low + count → j ≡ 0 → TwoRowsInv A B count low high old j old
  unfolding table upto
  begin h e = rw e (record { some = omega arith; apart = h; put = refl })

  module _ {j : ℕ} {rows : List ℕ} (t : TwoRowsInv A B count low high old j rows) where
    pub same_size : length rows ≡ length old
    same_size =
        ap (λ (l : List ℕ). length l) t.put
        ∙ length-sets (sets old low (table j A)) high (table j B) ∙ length-sets old low (table j A)

    -- a store before both rows is one into what they are put into
    pub under : (k x : ℕ) → k < low → TwoRowsInv A B count low high (set old k x) j (set rows k x)
    under k x h =
        record {
          some = t.some;
          apart = t.apart;
          put =
              let before : k < high = omega (arith, t.apart) in
              rw (t.put, store_before (table j B) (sets old low (table j A)) k high x before, store_before (table j A) old k low x h);
        }

    pub turn : {x y i k : ℕ} → j < count → i ≡ low + j → k ≡ high + j → x ≡ A j → y ≡ B j
        → TwoRowsInv A B count low high old (j + 1) (set (set rows i x) k y)
    turn {x} {y} {i} {k} h ei ek ex ey =
        record {
          some = omega arith;
          apart = t.apart;
          put = both;
        }
      where
        both : set (set rows i x) k y ≡ sets (sets old low (table (j + 1) A)) high (table (j + 1) B)
        both =
            let before : i < high = omega (arith, t.apart) in
            rw (t.put, store_before (table j B) (sets old low (table j A)) i high x before, ex, store_next old low i j A ei, ey)
            (store_next (sets old low (table (j + 1) A)) high k j B ek)
