-- Symbols that are struck, one after the other.
-- Assumes nothing.
use mathlib.Core.Path.{◌≡◌, refl, sym, ap, ◌∙◌}
use mathlib.Core.Bool.{Bool, true, false, cond}
use mathlib.Core.List.{List, [], ◌∷◌, ◌++◌}
use Prim.Native.Nat.{ℕ, zero, suc, ◌+◌, ◌<◌}
use native.Mathlib.Nat.{add-zero}
use native.Mathlib.Numerals.{add-one}
use native.Mathlib.Omega.{arith}
use lib.ListN.{length, get_or, set, take, drop, length-append, take-append-drop}
use lib.Seq.{take-suc, set_at, length-take-le, append_snoc}
use Rattle.ground.proofs.Reading.{next_left_lem}
use Rattle.rig.specs.declared.knock.Knock.{Knock}
use Rattle.rig.specs.Knock.{struck}
use Rattle.rig.specs.Inside.Knock.{knocked}

-- 0 stands after the end, struck or not
no_symbol : (b : Bool) → ◌≡◌ {A = ℕ} 0 (cond b 0 0)
no_symbol true = refl
no_symbol false = refl

module _ (k : Knock) where
  pub length_knocked : (q : ℕ) (l : List ℕ) → length (knocked k q l) ≡ length l
  unfolding knocked
  length_knocked q [] = refl
  length_knocked q (s ∷ l) = ap suc (length_knocked (suc q) l)

  -- some symbols and then others
  pub knocked_append : (q : ℕ) (x y : List ℕ) → knocked k q (x ++ y) ≡ knocked k q x ++ knocked k (q + length x) y
  unfolding knocked
  knocked_append q [] y = ap (λ (p : ℕ). knocked k p y) (sym (add-zero q))
  knocked_append q (s ∷ x) y =
      let e : suc q + length x ≡ q + suc (length x) = omega arith in
      ap (λ (l : List ℕ). cond (struck k q) 0 s ∷ l)
      (knocked_append (suc q) x y ∙ ap (λ (p : ℕ). knocked k (suc q) x ++ knocked k p y) e)

  -- each of them by itself
  pub knocked_at : (q : ℕ) (l : List ℕ) (i : ℕ) → get_or (knocked k q l) i 0 ≡ cond (struck k (q + i)) 0 (get_or l i 0)
  unfolding knocked
  knocked_at q [] i = no_symbol (struck k (q + i))
  knocked_at q (s ∷ l) zero = ap (λ (p : ℕ). cond (struck k p) 0 s) (sym (add-zero q))
  knocked_at q (s ∷ l) (suc i) =
      let e : suc q + i ≡ q + suc i = omega arith in
      knocked_at (suc q) l i ∙ ap (λ (p : ℕ). cond (struck k p) 0 (get_or l i 0)) e

  -- a loop over them: those before place i are done
  module _ (q : ℕ) (entry : List ℕ) where
    abbrev pub done_to : ℕ → List ℕ
    done_to i = knocked k q (take i entry) ++ drop i entry

    pub none_done : entry ≡ done_to 0
    unfolding knocked
    none_done = refl

    pub length_done_to : (i : ℕ) → length (done_to i) ≡ length entry
    length_done_to i =
        length-append (knocked k q (take i entry)) (drop i entry)
        ∙ ap (λ (m : ℕ). m + length (drop i entry)) (length_knocked q (take i entry))
        ∙ sym (length-append (take i entry) (drop i entry))
        ∙ ap length (take-append-drop i entry)

    module _ (i : ℕ) (h : i < length entry) where
      length_done : length (knocked k q (take i entry)) ≡ i
      length_done = length_knocked q (take i entry) ∙ length-take-le i entry (omega arith)

      abbrev with : ℕ → List ℕ
      with s = knocked k q (take i entry) ++ (s ∷ drop (i + 1) entry)

      as_it_was : done_to i ≡ with (get_or entry i 0)
      as_it_was = ap (λ (l : List ℕ). knocked k q (take i entry) ++ l) (next_left_lem entry i 0 h)

      one_more : done_to (i + 1) ≡ with (cond (struck k (q + i)) 0 (get_or entry i 0))
      unfolding knocked
      one_more =
          let more : take (i + 1) entry ≡ take i entry ++ (get_or entry i 0 ∷ []) = rw (add-one i) (take-suc entry i 0 h) in
          let here : q + length (take i entry) ≡ q + i = omega (arith, length-take-le i entry (omega arith)) in
          ap (λ (l : List ℕ). knocked k q l ++ drop (i + 1) entry) more
          ∙ ap (λ (l : List ℕ). l ++ drop (i + 1) entry)
          (knocked_append q (take i entry) (get_or entry i 0 ∷ [])
          ∙ ap (λ (p : ℕ). knocked k q (take i entry) ++ knocked k p (get_or entry i 0 ∷ [])) here)
          ∙ append_snoc (knocked k q (take i entry)) (cond (struck k (q + i)) 0 (get_or entry i 0)) (drop (i + 1) entry)

      pub struck_step : {now : List ℕ} → now ≡ done_to i → struck k (q + i) ≡ true → set now i 0 ≡ done_to (i + 1)
      struck_step e t =
          ap (λ (l : List ℕ). set l i 0) (e ∙ as_it_was)
          ∙ set_at (knocked k q (take i entry)) (get_or entry i 0) (drop (i + 1) entry) 0 i length_done
          ∙ sym (one_more ∙ ap (λ (b : Bool). with (cond b 0 (get_or entry i 0))) t)

      pub spared_step : {now : List ℕ} → now ≡ done_to i → struck k (q + i) ≡ false → now ≡ done_to (i + 1)
      spared_step e t = e ∙ as_it_was ∙ sym (one_more ∙ ap (λ (b : Bool). with (cond b 0 (get_or entry i 0))) t)
