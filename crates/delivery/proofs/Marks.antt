-- A window that has the mark at its first two symbols at most, read or not: nothing that is read begins inside it. So it is delivered or it is
-- not, and delivery goes on after it.
-- Assumes nothing.
use mathlib.Core.Path.{◌≡◌, refl, sym, ap, ◌∙◌}
use mathlib.Core.Bool.{Bool, false, true≢false}
use mathlib.Core.List.{List, [], ◌∷◌, ◌++◌}
use mathlib.Core.Option.{Option, none, some}
use Prim.Native.Nat.{ℕ, suc, ◌+◌, ◌≤◌, ◌<◌}
use native.Mathlib.Nat.{add-zero}
use native.Mathlib.Omega.{arith}
use lib.ListN.{length, get_or, take, get_or-append}
use lib.Seq.{take_at, drop_at, get_or-take}
use Rattle.delivery.specs.Delivery.{Found, either, deliver}
use Rattle.delivery.specs.Inside.Marked.{Marked}
use Rattle.delivery.proofs.Steps.{found, passed_over}

module _ {A : Type 0} (n : ℕ) (read : List ℕ → Option A) (mark : ℕ → Bool) (m : Marked n read mark) where
  abbrev on : ℕ → List ℕ → List (Found A)
  on p l = deliver n read p 0 l

  -- without the mark at its first symbol, or at its second, nothing is read
  no_first : (w : List ℕ) → mark (get_or w 0 0) ≡ false → read w ≡ none
  no_first w h = go (read w) refl
    where
      go : (o : Option A) → read w ≡ o → read w ≡ none
      go none e = e
      go (some a) e = absurd (true≢false (sym (m.first w a e) ∙ h))

  no_second : (w : List ℕ) → mark (get_or w 1 0) ≡ false → read w ≡ none
  no_second w h = go (read w) refl
    where
      go : (o : Option A) → read w ≡ o → read w ≡ none
      go none e = e
      go (some a) e = absurd (true≢false (sym (m.second w a e) ∙ h))

  -- symbols without the mark are passed over
  silent : (v t : List ℕ) (p : ℕ) → ((i : ℕ) → i < length v → mark (get_or v i 0) ≡ false) → on p (v ++ t) ≡ on (p + length v) t
  silent [] t p none_has = ap (λ (k : ℕ). on k t) (sym (add-zero p))
  silent (x ∷ v) t p none_has =
      let first : get_or (take n (x ∷ (v ++ t))) 0 0 ≡ x = get_or-take n (x ∷ (v ++ t)) 0 0 (omega (arith, m.three)) in
      let q : suc p + length v ≡ p + suc (length v) = omega arith in
      passed_over n read p x (v ++ t) (no_first (take n (x ∷ (v ++ t))) (ap mark first ∙ none_has 0 (omega arith)))
      ∙ silent v t (suc p) (λ i h. none_has (suc i) (omega arith))
      ∙ ap (λ (k : ℕ). on k t) q

  -- a window's length of symbols that has the mark nowhere after its first two
  pub record Apart (w : List ℕ) : Type 0 where
    pub long : length w ≡ n
    pub none : (i : ℕ) → 2 ≤ i → i < n → mark (get_or w i 0) ≡ false

  -- the law
  pub apart : (w t : List ℕ) (p : ℕ) → Apart w → on p (w ++ t) ≡ either p (read w) (on (p + n) t) (on (p + n) t)
  apart [] t p a = absurd (omega (arith, a.long, m.three))
  apart (x ∷ []) t p a = absurd (omega (arith, a.long, m.three))
  apart (x ∷ y ∷ v) t p a = go (read (x ∷ y ∷ v)) refl
    where
      w : List ℕ
      w = x ∷ y ∷ v

      here : take n (w ++ t) ≡ w
      here = take_at w t n a.long

      third : get_or (take n (y ∷ (v ++ t))) 1 0 ≡ get_or v 0 0
      third =
          get_or-take n (y ∷ (v ++ t)) 1 0 (omega (arith, m.three))
          ∙ get_or-append v t 0 0 (omega (arith, a.long, m.three))

      q : suc (suc p) + length v ≡ p + n
      q = omega (arith, a.long)

      go : (o : Option A) → read w ≡ o → on p (w ++ t) ≡ either p (read w) (on (p + n) t) (on (p + n) t)
      go (some b) e =
          rw e
          (found n read m.whole p (w ++ t) b (ap read here ∙ e)
          ∙ ap (λ (l : List ℕ). record { place = p; reading = b } ∷ on (p + n) l) (drop_at w t n a.long))
      go none e =
          rw e
          (passed_over n read p x (y ∷ (v ++ t)) (ap read here ∙ e)
          ∙ passed_over n read (suc p) y (v ++ t)
          (no_second (take n (y ∷ (v ++ t))) (ap mark third ∙ a.none 2 (omega arith) (omega (arith, m.three))))
          ∙ silent v t (suc (suc p)) (λ i h. a.none (suc (suc i)) (omega arith) (omega (arith, a.long)))
          ∙ ap (λ (k : ℕ). on k t) q)
