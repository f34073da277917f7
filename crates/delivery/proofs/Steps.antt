-- Delivery step by step: what is skipped, what is found, what is passed over.
-- Assumes nothing.
use mathlib.Core.Path.{◌≡◌, refl, sym, ap, ◌∙◌}
use mathlib.Core.List.{List, [], ◌∷◌, ◌++◌}
use mathlib.Core.Option.{Option, none, some}
use Prim.Native.Nat.{ℕ, zero, suc, ◌+◌, ◌-◌, ◌≤◌, ◌<◌}
use native.Mathlib.Nat.{add-zero, add-suc}
use native.Mathlib.Omega.{arith}
use lib.ListN.{length, take, drop, length-drop}
use lib.Seq.{take-nil}
use Rattle.delivery.specs.Delivery.{Found, either, deliver, deliver_by, moved_by}
use Rattle.delivery.specs.Inside.Marked.{Whole}

-- nothing is read of too few symbols
pub too_few : {A : Type 0} (n : ℕ) (read : List ℕ → Option A) → Whole n read → (w : List ℕ) → length w < n → read w ≡ none
too_few {A} n read whole w h = go (read w) refl
  where
    go : (o : Option A) → read w ≡ o → read w ≡ none
    go none e = e
    go (some a) e = let long = whole.long w a e in absurd (omega arith)

module _ {A : Type 0} (n : ℕ) (read : List ℕ → Option A) where
  pub of_nothing : (p skip : ℕ) → deliver n read p skip [] ≡ []
  unfolding deliver
  of_nothing p skip = refl

  -- symbols of the window found last are skipped
  pub skipped : (p skip : ℕ) (l : List ℕ) → deliver n read p skip l ≡ deliver n read (p + skip) 0 (drop skip l)
  unfolding deliver
  skipped p zero l = rw add-zero refl
  skipped p (suc skip) [] = refl
  skipped p (suc skip) (x ∷ l) =
      let q : suc p + skip ≡ p + suc skip = omega arith in
      skipped (suc p) skip l ∙ ap (λ (k : ℕ). deliver n read k 0 (drop skip l)) q

  -- where nothing is read, delivery goes on at the next symbol
  pub passed_over : (p x : ℕ) (l : List ℕ) → read (take n (x ∷ l)) ≡ none → deliver n read p 0 (x ∷ l) ≡ deliver n read (suc p) 0 l
  unfolding deliver
  passed_over p x l e = rw e

  module _ (whole : Whole n read) where
    -- where something is read, it is delivered, and delivery goes on at the end of the window
    pub found : (p : ℕ) (l : List ℕ) (a : A) → read (take n l) ≡ some a
        → deliver n read p 0 l ≡ record { place = p; reading = a } ∷ deliver n read (p + n) 0 (drop n l)
    unfolding deliver
    found p [] a e =
        let long = whole.long (take n []) a e in
        absurd (omega (arith, whole.least, ap length (take-nil {A = ℕ} n)))
    found p (x ∷ l) a e =
        let m = n - 1 in
        let is : n ≡ suc m = omega (arith, whole.least) in
        let q : suc p + m ≡ p + n = omega (arith, whole.least) in
        rw e (ap (λ (more : List (Found A)). record { place = p; reading = a } ∷ more)
        (skipped (suc p) m l ∙ ap (λ (k : ℕ). deliver n read k 0 (drop m l)) q ∙ ap (λ (k : ℕ). deliver n read (p + n) 0 (drop k (x ∷ l))) (sym is)))

  -- what stands before a recording moves its places, and nothing else
  pub moved : (k p skip : ℕ) (l : List ℕ) → deliver n read (k + p) skip l ≡ moved_by k (deliver n read p skip l)
  unfolding deliver moved_by
  moved k p skip [] = refl
  moved k p (suc skip) (x ∷ l) = rw (← add-suc k p) (moved k (suc p) skip l)
  moved k p zero (x ∷ l) =
      go (read (take n (x ∷ l))) (rw (add-suc k p) at (moved k (suc p) 0 l)) (rw (add-suc k p) at (moved k (suc p) (n - 1) l))
    where
      go : (o : Option A)
          → deliver n read (suc (k + p)) 0 l ≡ moved_by k (deliver n read (suc p) 0 l)
          → deliver n read (suc (k + p)) (n - 1) l ≡ moved_by k (deliver n read (suc p) (n - 1) l)
          → either (k + p) o (deliver n read (suc (k + p)) 0 l) (deliver n read (suc (k + p)) (n - 1) l)
          ≡ moved_by k (either p o (deliver n read (suc p) 0 l) (deliver n read (suc p) (n - 1) l))
      go none on behind = on
      go (some a) on behind = ap (λ (more : List (Found A)). record { place = k + p; reading = a } ∷ more) behind

module _ {A : Type 0} (n : ℕ) (read : List ℕ → Option A) where
  -- no more is delivered than there are symbols
  few_of : (p skip : ℕ) (l : List ℕ) → length (deliver n read p skip l) ≤ length l
  unfolding deliver
  few_of p skip [] = omega arith
  few_of p (suc skip) (x ∷ l) = omega (arith, few_of (suc p) skip l)
  few_of p zero (x ∷ l) = go (read (take n (x ∷ l))) (few_of (suc p) zero l) (few_of (suc p) (n - 1) l)
    where
      go : (o : Option A) → length (deliver n read (suc p) zero l) ≤ length l → length (deliver n read (suc p) (n - 1) l) ≤ length l
          → length (either p o (deliver n read (suc p) zero l) (deliver n read (suc p) (n - 1) l)) ≤ length (x ∷ l)
      go none on behind = omega (arith, on)
      go (some a) on behind = omega (arith, behind)

  pub few : (r : List ℕ) (p : ℕ) → length (deliver_by n read r p) ≤ length r - p
  unfolding deliver_by
  few r p = rw (← length-drop p r) (few_of p 0 (drop p r))

-- ---- places moved

pub moved_both : {A : Type 0} (k : ℕ) (xs ys : List (Found A)) → moved_by k (xs ++ ys) ≡ moved_by k xs ++ moved_by k ys
unfolding moved_by
moved_both k [] ys = refl
moved_both {A} k (e ∷ xs) ys =
    ap (λ (l : List (Found A)). record { place = k + e.place; reading = e.reading } ∷ l) (moved_both k xs ys)

pub moved_twice : {A : Type 0} (j k : ℕ) (xs : List (Found A)) → moved_by j (moved_by k xs) ≡ moved_by (j + k) xs
unfolding moved_by
moved_twice j k [] = refl
moved_twice {A} j k (e ∷ xs) =
    let at : j + (k + e.place) ≡ j + k + e.place = omega arith in
    rw at (ap (λ (l : List (Found A)). record { place = j + k + e.place; reading = e.reading } ∷ l) (moved_twice j k xs))

pub unmoved : {A : Type 0} (xs : List (Found A)) → moved_by 0 xs ≡ xs
unfolding moved_by
unmoved [] = refl
unmoved {A} (e ∷ xs) =
    let at : 0 + e.place ≡ e.place = omega arith in
    rw at (ap (λ (l : List (Found A)). e ∷ l) (unmoved xs))
