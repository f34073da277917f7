-- The splitting law: where a window that is read stands in a recording, whatever stands around it, delivery is that of what stands before it,
-- by itself, then this window, then that of what stands after it.
-- Assumes nothing.
use mathlib.Core.Path.{◌≡◌, refl, sym, ap, ◌∙◌}
use mathlib.Core.Bool.{Bool, true}
use mathlib.Core.List.{List, [], ◌∷◌, ◌++◌}
use mathlib.Core.Option.{Option, none, some}
use Prim.Native.Nat.{ℕ, zero, suc, ◌+◌, ◌-◌, ◌≤◌, ◌<◌}
use native.Mathlib.Nat.{add-zero}
use native.Mathlib.Omega.{arith}
use lib.Dec.{ltb}
use lib.ListN.{length, get_or, take, length-take, get_or-append}
use lib.Seq.{take_at, drop_at, take-append-le, get_or-take, get_or-append-add}
use borrow.Author.Tests.{ltb-true, ltb-false}
use Rattle.ground.proofs.Cases.{on_test}
use Rattle.delivery.specs.Delivery.{Found, either, deliver}
use Rattle.delivery.specs.Inside.Marked.{Marked}
use Rattle.delivery.proofs.Steps.{too_few, found}

module _ {A : Type 0} (n : ℕ) (read : List ℕ → Option A) (mark : ℕ → Bool) (m : Marked n read mark) where
  abbrev on : ℕ → ℕ → List ℕ → List (Found A)
  on = deliver n read

  -- the window that is read, and what stands after it
  module _ (w t : List ℕ) (a : A) (is : read w ≡ some a) where
    long : length w ≡ n
    long = m.whole.long w a is

    -- symbol i of it, after v
    behind : (v : List ℕ) (i j : ℕ) → j ≡ length v + i → i < n → j < n → get_or (take n (v ++ (w ++ t))) j 0 ≡ get_or w i 0
    behind v i j e h l =
        get_or-take n (v ++ (w ++ t)) j 0 l ∙ ap (λ (k : ℕ). get_or (v ++ (w ++ t)) k 0) e ∙ get_or-append-add v (w ++ t) i 0
        ∙ get_or-append w t 0 i (omega (arith, long))

    -- no window that is read runs into it
    pub no_overlap : (v : List ℕ) (b : A) → read (take n (v ++ (w ++ t))) ≡ some b → 1 ≤ length v → n ≤ length v
    no_overlap v b e some-v = on_test (ltb (length v) n) (λ s. absurd (go (ltb-true (length v) n s))) (λ s. ltb-false (length v) n s)
      where
        marked : (i j : ℕ) → j ≡ length v + i → i < n → j < n → mark (get_or w i 0) ≡ true → j < 2
        marked i j q h l k =
            m.only (take n (v ++ (w ++ t))) b e j l (ap mark (behind v i j q h l) ∙ k)

        go : length v < n → ⊥
        go h =
            let early : length v < 2 = marked 0 (length v) (omega arith) (omega arith) h (m.first w a is) in
            let second : suc (length v) < 2 = marked 1 (suc (length v)) (omega arith) (omega (arith, m.three)) (omega (arith, m.three)) (m.second w a is) in
            omega arith

    -- a window before it is read there as it is by itself
    same_window : (v : List ℕ) → 1 ≤ length v → read (take n (v ++ (w ++ t))) ≡ read (take n v)
    same_window v h = go (read (take n (v ++ (w ++ t)))) refl
      where
        alike : n ≤ length v → read (take n (v ++ (w ++ t))) ≡ read (take n v)
        alike l = ap read (take-append-le n v (w ++ t) l)

        go : (o : Option A) → read (take n (v ++ (w ++ t))) ≡ o → read (take n (v ++ (w ++ t))) ≡ read (take n v)
        go (some b) e = alike (no_overlap v b e h)
        go none e =
            on_test (ltb (length v) n)
            (λ s. e ∙ sym (too_few n read m.whole (take n v) (omega (arith, length-take n v, ltb-true (length v) n s))))
            (λ s. alike (ltb-false (length v) n s))

    -- what is delivered from this window on, where it stands at place q
    abbrev from_here : ℕ → List (Found A)
    from_here q = record { place = q; reading = a } ∷ on (q + n) 0 t

    split_on : (v : List ℕ) (p skip : ℕ) → skip ≤ length v → on p skip (v ++ (w ++ t)) ≡ on p skip v ++ from_here (p + length v)
    unfolding deliver
    split_on [] p zero h =
        let here : take n (w ++ t) ≡ w = take_at w t n long in
        found n read m.whole p (w ++ t) a (ap read here ∙ is)
        ∙ ap (λ (l : List ℕ). record { place = p; reading = a } ∷ on (p + n) 0 l) (drop_at w t n long)
        ∙ ap from_here (sym (add-zero p))
    split_on [] p (suc skip) h = absurd (omega arith)
    split_on (x ∷ v) p (suc skip) h =
        let q : suc p + length v ≡ p + suc (length v) = omega arith in
        split_on v (suc p) skip (omega arith) ∙ ap (λ (k : ℕ). on (suc p) skip v ++ from_here k) q
    split_on (x ∷ v) p zero h =
        go (read (take n (x ∷ v))) refl (split_on v (suc p) 0 (omega arith)) (split_on v (suc p) (n - 1))
      where
        q : suc p + length v ≡ p + suc (length v)
        q = omega arith

        go : (o : Option A) → read (take n (x ∷ v)) ≡ o
            → on (suc p) 0 (v ++ (w ++ t)) ≡ on (suc p) 0 v ++ from_here (suc p + length v)
            → (n - 1 ≤ length v → on (suc p) (n - 1) (v ++ (w ++ t)) ≡ on (suc p) (n - 1) v ++ from_here (suc p + length v))
            → either p (read (take n (x ∷ (v ++ (w ++ t))))) (on (suc p) 0 (v ++ (w ++ t))) (on (suc p) (n - 1) (v ++ (w ++ t)))
            ≡ either p (read (take n (x ∷ v))) (on (suc p) 0 v) (on (suc p) (n - 1) v) ++ from_here (p + suc (length v))
        go none e next skipping =
            let f = same_window (x ∷ v) (omega arith) ∙ e in
            rw (f, e) (next ∙ ap (λ (k : ℕ). on (suc p) 0 v ++ from_here k) q)
        go (some b) e next skipping =
            let f = same_window (x ∷ v) (omega arith) ∙ e in
            let room : n ≤ suc (length v) = no_overlap (x ∷ v) b f (omega arith) in
            rw (f, e)
            (ap (λ (l : List (Found A)). record { place = p; reading = b } ∷ l)
            (skipping (omega arith) ∙ ap (λ (k : ℕ). on (suc p) (n - 1) v ++ from_here k) q))

    -- the law
    pub split : (v : List ℕ) (p : ℕ)
        → deliver n read p 0 (v ++ (w ++ t))
        ≡ deliver n read p 0 v ++ (record { place = p + length v; reading = a } ∷ deliver n read (p + length v + n) 0 t)
    split v p = split_on v p 0 (omega arith)
