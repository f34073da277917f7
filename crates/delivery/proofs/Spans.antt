-- Recordings of windows that are read, one after the other, and of anything in the place of some of them.
-- Assumes nothing.
use mathlib.Core.Path.{◌≡◌, sym, ap, ◌∙◌}
use mathlib.Core.Bool.{Bool}
use mathlib.Core.List.{List, [], ◌∷◌, ◌++◌, append_assoc, append-nil}
use mathlib.Core.Option.{Option, none, some}
use Prim.Native.Nat.{ℕ, suc, ◌+◌, ◌*◌, ◌≤◌}
use native.Mathlib.Omega.{arith}
use lib.ListN.{length, take}
use lib.Seq.{take_at, drop_at, take_all}
use Rattle.delivery.specs.Delivery.{Found, deliver, concatenated, placed_from, Each}
use Rattle.delivery.specs.Inside.Marked.{Whole, Marked}
use Rattle.delivery.proofs.Steps.{found, of_nothing, passed_over}
use Rattle.delivery.proofs.Splitting.{split}
use Rattle.delivery.proofs.Cutting.{none_of_few}

module _ {A : Type 0} (n : ℕ) (read : List ℕ → Option A) where
  -- windows that are read as they should be
  abbrev pub ReadAs : {S : Type 0} → (S → List ℕ) → (S → A) → S → Type 0
  ReadAs symbols reading x = read (symbols x) ≡ some (reading x)

  module _ (whole : Whole n read) where
    -- one window's length of symbols that are not read, or fewer, deliver nothing
    pub nothing_of : (p : ℕ) (l : List ℕ) → length l ≤ n → read l ≡ none → deliver n read p 0 l ≡ []
    nothing_of p [] h e = of_nothing n read p 0
    nothing_of p (x ∷ l) h e =
        passed_over n read p x l (ap read (take_all n (x ∷ l) h) ∙ e) ∙ none_of_few n read whole (suc p) 0 l (omega arith)

    module _ {S : Type 0} (symbols : S → List ℕ) (reading : S → A) where
      -- windows that are read, and then whatever stands after them
      pub then_rest : (xs : List S) → Each (ReadAs symbols reading) xs → (p : ℕ) (t : List ℕ)
          → deliver n read p 0 (concatenated symbols xs ++ t)
          ≡ placed_from n reading p xs ++ deliver n read (p + n * length xs) 0 t
      unfolding concatenated placed_from
      then_rest [] each p t = let q : p ≡ p + n * 0 = omega arith in ap (λ (k : ℕ). deliver n read k 0 t) q
      then_rest (x ∷ xs) (is, each) p t =
          let long = whole.long (symbols x) (reading x) is in
          let tail = concatenated symbols xs ++ t in
          let joined : concatenated symbols (x ∷ xs) ++ t ≡ symbols x ++ tail = append_assoc (symbols x) (concatenated symbols xs) t in
          let here : read (take n (symbols x ++ tail)) ≡ some (reading x) = ap read (take_at (symbols x) tail n long) ∙ is in
          let q : p + n + n * length xs ≡ p + n * suc (length xs) = omega arith in
          ap (deliver n read p 0) joined
          ∙ found n read whole p (symbols x ++ tail) (reading x) here
          ∙ ap (λ (l : List (Found A)). record { place = p; reading = reading x } ∷ l)
          (ap (deliver n read (p + n) 0) (drop_at (symbols x) tail n long)
          ∙ then_rest xs each (p + n) t
          ∙ ap (λ (k : ℕ). placed_from n reading (p + n) xs ++ deliver n read k 0 t) q)

      -- windows that are read alone: exactly those are delivered
      pub exactly : (xs : List S) → Each (ReadAs symbols reading) xs → (p : ℕ)
          → deliver n read p 0 (concatenated symbols xs) ≡ placed_from n reading p xs
      exactly xs each p =
          ap (deliver n read p 0) (sym (append-nil (concatenated symbols xs)))
          ∙ then_rest xs each p []
          ∙ ap (λ (l : List (Found A)). placed_from n reading p xs ++ l) (of_nothing n read (p + n * length xs) 0)
          ∙ append-nil (placed_from n reading p xs)

  module _ (mark : ℕ → Bool) (m : Marked n read mark) {S : Type 0} (symbols : S → List ℕ) (reading : S → A) where
    -- whatever stands before windows that are read delivers what it delivers by itself
    before_spans : (d : List ℕ) (xs : List S) → Each (ReadAs symbols reading) xs → (p : ℕ)
        → deliver n read p 0 (d ++ concatenated symbols xs) ≡ deliver n read p 0 d ++ placed_from n reading (p + length d) xs
    unfolding concatenated placed_from
    before_spans d [] each p =
        ap (deliver n read p 0) (append-nil d) ∙ sym (append-nil (deliver n read p 0 d))
    before_spans d (x ∷ xs) (is, each) p =
        split n read mark m (symbols x) (concatenated symbols xs) (reading x) is d p
        ∙ ap (λ (l : List (Found A)). deliver n read p 0 d ++ (record { place = p + length d; reading = reading x } ∷ l))
        (exactly m.whole symbols reading xs each (p + length d + n))

    -- any symbols in the place of one window: those before, what these deliver by themselves, those after
    pub in_place : (xs ys : List S) → Each (ReadAs symbols reading) xs → Each (ReadAs symbols reading) ys → (d : List ℕ) (p : ℕ)
        → deliver n read p 0 (concatenated symbols xs ++ (d ++ concatenated symbols ys))
        ≡ placed_from n reading p xs
        ++ (deliver n read (p + n * length xs) 0 d ++ placed_from n reading (p + n * length xs + length d) ys)
    in_place xs ys before behind d p =
        then_rest m.whole symbols reading xs before p (d ++ concatenated symbols ys)
        ∙ ap (λ (l : List (Found A)). placed_from n reading p xs ++ l) (before_spans d ys behind (p + n * length xs))
