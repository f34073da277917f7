-- Bytes before the EAV and from it on, each part with its special character and content bytes in place of its first four.
-- Assumes nothing.
use mathlib.Core.Path.{◌≡◌, refl, sym, ◌∙◌}
use mathlib.Core.List.{List, [], ◌∷◌, ◌++◌}
use Prim.Native.Nat.{ℕ, ◌+◌, ◌-◌, ◌≤◌, ◌<◌}
use native.Mathlib.Omega.{arith}
use lib.Dec.{ltb}
use lib.ListN.{length, get_or, drop, length-append, length-drop}
use lib.Seq.{get_or-drop}
use borrow.Author.Tests.{ltb-true, ltb-false}
use Rattle.ground.proofs.Cases.{on_test}
use Rattle.ground.proofs.Writing.{get_d_first, get_d_second}
use Rattle.symbol.specs.declared.special.Special.{Special}
use Rattle.symbol.specs.declared.special.Special.TheVariants.{K28_5, K29_7}
use Rattle.symbol.specs.Character.{number_of}
use Rattle.span.specs.declared.content.ContentBytes.{ContentBytes}
use Rattle.span.specs.Span.{synchronised}

-- from the fifth byte on, what is synchronised is as it was
from_fifth :
    (k : Special) (c1 c2 : ℕ) (code : List ℕ) (i : ℕ) → 4 ≤ i → get_or (synchronised k c1 c2 code) i 0 ≡ get_or code i 0
from_fifth k c1 c2 code i h =
    let e : i ≡ 4 + (i - 4) = omega arith in
    let four = number_of k ∷ number_of k ∷ c1 ∷ c2 ∷ [] in
    rw e (get_d_second four (drop 4 code) 4 (i - 4) 0 refl ∙ get_or-drop 4 code (i - 4) 0)

-- the bytes x before the EAV, which begins at e, and the bytes y from it on
module _ (c : ContentBytes) (x y : List ℕ) (e : ℕ) (long : length x ≡ e) (some : 4 ≤ e) where
  abbrev first : List ℕ
  first = synchronised K28_5 c.sav1 c.sav2 x

  abbrev second : List ℕ
  second = synchronised K29_7 c.eav1 c.eav2 y

  length_first : length first ≡ e
  length_first = omega (arith, length-drop 4 x, long)

  -- as many as there were
  pub length_both : 4 ≤ length y → length (first ++ second) ≡ e + length y
  length_both h = length-append first second ∙ omega (arith, length_first, length-drop 4 y)

  -- the second stands after the first
  pub in_second : (i : ℕ) → get_or (first ++ second) (e + i) 0 ≡ get_or second i 0
  in_second i = get_d_second first second e i 0 length_first

  -- every byte that is not replaced
  before : (i : ℕ) → 4 ≤ i → i < e → get_or (first ++ second) i 0 ≡ get_or (x ++ y) i 0
  before i past h =
      get_d_first first second e i 0 length_first h
      ∙ from_fifth K28_5 c.sav1 c.sav2 x i past
      ∙ sym (get_d_first x y e i 0 long h)

  behind : (i : ℕ) → 4 ≤ i → get_or (first ++ second) (e + i) 0 ≡ get_or (x ++ y) (e + i) 0
  behind i past =
      in_second i ∙ from_fifth K29_7 c.eav1 c.eav2 y i past ∙ sym (get_d_second x y e i 0 long)

  pub kept_byte : (i : ℕ) → 4 ≤ i → (e ≤ i → e + 4 ≤ i) → get_or (first ++ second) i 0 ≡ get_or (x ++ y) i 0
  kept_byte i past q =
      on_test (ltb i e) (λ t. before i past (ltb-true i e t))
      (λ t.
      let far = q (ltb-false i e t) in
      let at : i ≡ e + (i - e) = omega arith in
      rw at (behind (i - e) (omega arith)))
