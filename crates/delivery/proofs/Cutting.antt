-- Delivery of a beginning is a beginning of the delivery, up to the spans that the cut touches.
-- Assumes nothing.
use mathlib.Core.Path.{◌≡◌, refl, sym, ap, ◌∙◌}
use mathlib.Core.List.{List, [], ◌∷◌, ◌++◌}
use mathlib.Core.Option.{Option, none, some}
use Prim.Native.Nat.{ℕ, zero, suc, ◌+◌, ◌-◌, ◌≤◌, ◌<◌}
use native.Mathlib.Omega.{arith}
use lib.Dec.{ltb}
use lib.ListN.{length, take, length-take}
use lib.Seq.{take-nil, take-take}
use borrow.Author.Tests.{ltb-true, ltb-false}
use Rattle.ground.proofs.Cases.{on_test}
use Rattle.delivery.specs.Delivery.{Found, either, deliver}
use Rattle.delivery.specs.Marked.{AllAfter}
use Rattle.delivery.specs.Inside.Marked.{Whole}
use Rattle.delivery.proofs.Steps.{too_few}

module _ {A : Type 0} (n : ℕ) (read : List ℕ → Option A) (whole : Whole n read) where
  abbrev on : ℕ → ℕ → List ℕ → List (Found A)
  on = deliver n read

  -- what is delivered from place p on ends at p + n or later
  late : (e p skip : ℕ) (l : List ℕ) → e < p + n → AllAfter n e (on p skip l)
  unfolding deliver
  late e p skip [] h = tt
  late e p (suc skip) (x ∷ l) h = late e (suc p) skip l (omega arith)
  late e p zero (x ∷ l) h =
      go (read (take n (x ∷ l))) (late e (suc p) zero l (omega arith)) (late e (suc p) (n - 1) l (omega arith))
    where
      go : (o : Option A) → AllAfter n e (on (suc p) 0 l) → AllAfter n e (on (suc p) (n - 1) l)
          → AllAfter n e (either p o (on (suc p) 0 l) (on (suc p) (n - 1) l))
      go none next behind = next
      go (some a) next behind = (h, behind)

  -- too few symbols deliver nothing
  pub none_of_few : (p skip : ℕ) (l : List ℕ) → length l < n → on p skip l ≡ []
  unfolding deliver
  none_of_few p skip [] h = refl
  none_of_few p (suc skip) (x ∷ l) h = none_of_few (suc p) skip l (omega arith)
  none_of_few p zero (x ∷ l) h =
      rw (too_few n read whole (take n (x ∷ l)) (omega (arith, length-take n (x ∷ l)))) (none_of_few (suc p) zero l (omega arith))

  -- what a delivery has beyond that of the first m symbols
  abbrev Beyond : ℕ → ℕ → ℕ → List ℕ → Type 0
  Beyond p skip m l =
      (rest : List (Found A)) × (on p skip l ≡ on p skip (take m l) ++ rest) × AllAfter n (p + m) rest

  cut_on : (m p skip : ℕ) (l : List ℕ) → Beyond p skip m l
  unfolding deliver
  cut_on m p skip [] = ([], ap (λ (l : List ℕ). on p skip l ++ []) (sym (take-nil {A = ℕ} m)), tt)
  cut_on zero p skip (x ∷ l) = (on p skip (x ∷ l), refl, late (p + 0) p skip (x ∷ l) (omega (arith, whole.least)))
  cut_on (suc m) p (suc skip) (x ∷ l) =
      let (rest, e, b) = cut_on m (suc p) skip l in
      let q : suc p + m ≡ p + suc m = omega arith in
      (rest, e, rw q at b)
  cut_on (suc m) p zero (x ∷ l) =
      on_test (ltb (suc m) n)
      (λ s.
      let few = ltb-true (suc m) n s in
      let nothing : on p 0 (take (suc m) (x ∷ l)) ≡ [] = none_of_few p 0 (take (suc m) (x ∷ l)) (omega (arith, length-take (suc m) (x ∷ l))) in
      (on p 0 (x ∷ l), ap (λ (b : List (Found A)). b ++ on p 0 (x ∷ l)) (sym nothing), late (p + suc m) p 0 (x ∷ l) (omega arith)))
      (λ s. go (read (take n (x ∷ l))) refl (ltb-false (suc m) n s) (cut_on m (suc p) 0 l) (cut_on m (suc p) (n - 1) l))
    where
      q : suc p + m ≡ p + suc m
      q = omega arith

      go : (o : Option A) → read (take n (x ∷ l)) ≡ o → n ≤ suc m → Beyond (suc p) 0 m l → Beyond (suc p) (n - 1) m l
          → Beyond p 0 (suc m) (x ∷ l)
      go none e h (rest, f, b) _ =
          let same : read (take n (x ∷ take m l)) ≡ none = ap read (take-take n (suc m) (x ∷ l) h) ∙ e in
          (rest, rw (e, same) f, rw q at b)
      go (some a) e h _ (rest, f, b) =
          let same : read (take n (x ∷ take m l)) ≡ some a = ap read (take-take n (suc m) (x ∷ l) h) ∙ e in
          (rest, rw (e, same) (ap (λ (more : List (Found A)). record { place = p; reading = a } ∷ more) f), rw q at b)

  -- the law: of the first m symbols the same is delivered, in the same order, as long as it ends within them
  pub cut : (m p : ℕ) (l : List ℕ)
      → (rest : List (Found A)) × (deliver n read p 0 l ≡ deliver n read p 0 (take m l) ++ rest) × AllAfter n (p + m) rest
  cut m p l = cut_on m p 0 l
