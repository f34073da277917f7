-- One inverted bit.
-- Assumes nothing.
use mathlib.Core.Path.{◌≡◌, refl, sym, ap, ◌∙◌}
use mathlib.Core.Bool.{Bool, true, false, not, true≢false}
use mathlib.Core.Logic.{◌⊎◌, inl, inr}
use mathlib.Core.Option.{Option, none, some}
use Prim.Native.Nat.{ℕ, ◌+◌, ◌%◌, ◌<◌}
use native.Mathlib.Omega.{arith}
use lib.Count.{ones_in}
use Rattle.ground.specs.Bit.{inverted, bit}
use Rattle.ground.proofs.Bits.{inverted_ones}
use Rattle.symbol.specs.declared.disparity.Disparity.{Disparity}
use Rattle.symbol.specs.declared.disparity.Disparity.TheVariants.{Negative, Positive}
use Rattle.symbol.specs.Character.{characters}
use Rattle.symbol.specs.Code.{symbol_of, char_of, after_of}
use Rattle.symbol.specs.Inside.Code.{flips}
use Rattle.symbol.specs.Inside.Disparity.{opposite, flipped_if}
use Rattle.symbol.proofs.Inverse.{encode_decode, decoded_below}
use Rattle.symbol.proofs.Ones.{ones_between, ones_by, flips_both}

-- a symbol has an odd count of ones where its character keeps the disparity, and an even one where it flips it, at both disparities
parity : (d : Disparity) (c : ℕ) → c < characters → ones_in 10 (symbol_of d c) % 2 ≡ bit (not (flips c))
parity d c h = ap (λ (n : ℕ). n % 2) (ones_by d c h) ∙ odd d (flips c)
  where
    odd : (d : Disparity) (t : Bool) → ones_between d (flipped_if t d) % 2 ≡ bit (not t)
    odd Negative true = refl
    odd Negative false = refl
    odd Positive true = refl
    odd Positive false = refl

-- so of two symbols that differ in one bit exactly one flips it, at whatever disparities they stand
one_of_two_flips : (d e : Disparity) (b c k : ℕ) → b < characters → c < characters → k < 10
    → symbol_of e b ≡ inverted k (symbol_of d c) → flips b ≡ not (flips c)
one_of_two_flips d e b c k p q h same =
    other (flips b) (flips c) (ones_in 10 (symbol_of d c)) (parity d c q)
    (sym (parity e b p) ∙ ap (λ (s : ℕ). ones_in 10 s % 2) same ∙ inverted_ones 10 k (symbol_of d c) h)
  where
    other : (s t : Bool) (n : ℕ) → n % 2 ≡ bit (not t) → bit (not s) ≡ (1 + n) % 2 → s ≡ not t
    other true true n x y = absurd (omega arith)
    other true false n x y = refl
    other false true n x y = refl
    other false false n x y = absurd (omega arith)

-- what the flip law says of a symbol s at disparity d, where a true symbol leaves disparity e
abbrev pub Caught : Disparity → Disparity → ℕ → Type 0
Caught d e s = (char_of d s ≡ none) ⊎ ((b : ℕ) × (char_of d s ≡ some b) × (after_of d b ≡ opposite e))

-- The flip law: a character's symbol with one bit inverted is illegal, or legal and leaves the opposite disparity.
pub flip : (d : Disparity) (c k : ℕ) → c < characters → k < 10 → Caught d (after_of d c) (inverted k (symbol_of d c))
flip d c k h l = go (char_of d (inverted k (symbol_of d c))) refl
  where
    not_flipped : (t : Bool) (d : Disparity) → flipped_if (not t) d ≡ opposite (flipped_if t d)
    not_flipped true Negative = refl
    not_flipped true Positive = refl
    not_flipped false d = refl

    go : (o : Option ℕ) → char_of d (inverted k (symbol_of d c)) ≡ o → Caught d (after_of d c) (inverted k (symbol_of d c))
    go none e = inl e
    go (some b) e =
        let p : b < characters = decoded_below d (inverted k (symbol_of d c)) b e in
        let t = one_of_two_flips d d b c k p h l (encode_decode d (inverted k (symbol_of d c)) b e) in
        inr (
          b,
          e,
          flips_both d b p ∙ ap (λ (x : Bool). flipped_if x d) t ∙ not_flipped (flips c) d ∙ ap opposite (sym (flips_both d c h)),
        )

-- Neither form of a character becomes a form of that character by one inverted bit: K28.5 and K29.7 above all.
pub flip_no_form : (d e : Disparity) (c k : ℕ) → c < characters → k < 10 → inverted k (symbol_of d c) ≡ symbol_of e c → ⊥
flip_no_form d e c k h l q = never (flips c) (one_of_two_flips d e c c k h h l (sym q))
  where
    never : (t : Bool) → t ≡ not t → ⊥
    never true x = true≢false x
    never false x = true≢false (sym x)
