-- Which words each test judges, in the paper's own numbers: at every other word it holds. So no word of the ancillary area is judged, and
-- no picture word of a blanking line.
-- Assumes nothing.
use mathlib.Core.Path.{◌≡◌, refl, ap}
use mathlib.Core.Bool.{Bool, true, false, cond, true≢false}
use mathlib.Core.Logic.{◌⊎◌, inl, inr, ⊎_elim}
use mathlib.Core.Option.{none}
use Prim.Native.Nat.{ℕ, ◌+◌, ◌-◌, ◌≤◌, ◌<◌}
use lib.Dec.{ltb}
use borrow.Author.Tests.{eq-eqb, eqb-true, ltb-true, ltb-false}
use Rattle.ground.specs.Range.{within}
use Rattle.ground.specs.Search.{is_some}
use Rattle.ground.proofs.Ranges.{from_low, to_high}
use Rattle.line.specs.Stream.{is_active}
use Rattle.span.specs.declared.format.Format.{Format}
use Rattle.span.specs.Format.{shape_of}
use Rattle.span.specs.Layout.{picture_start, eav_start, line_start, crcc_start, ancillary_start, eav_xyz}
use Rattle.word.specs.LineNumber.{line_of}
use Rattle.window.specs.Tests.{word_of, holds21, line_read, holds22, holds23, holds24, holds25, holds26}

-- a test that asks under a condition alone does not hold only there
asked : (c x : Bool) → cond c x true ≡ false → c ≡ true
asked true x e = refl
asked false x e = absurd (true≢false e)

asked_twice : (c d x y : Bool) → cond c x (cond d y true) ≡ false → (c ≡ true) ⊎ (d ≡ true)
asked_twice true d x y e = inl refl
asked_twice false d x y e = inr (asked d y e)

unless : (c x : Bool) → cond c true x ≡ false → c ≡ false
unless true x e = absurd (true≢false e)
unless false x e = refl

-- what it asks there does not hold either
answered : (c x : Bool) → cond c x true ≡ false → x ≡ false
answered true x e = e
answered false x e = absurd (true≢false e)

module _ (s : ℕ) (word : ℕ → ℕ) (j t : ℕ) where
  -- SAV and EAV
  pub judged_21 : holds21 s word j t ≡ false → (j < picture_start) ⊎ ((eav_start ≤ j) × (j ≤ eav_xyz))
  unfolding holds21
  judged_21 e =
      ⊎_elim (λ c. inl (ltb-true _ _ c)) (λ c. inr (from_low _ _ _ c, to_high _ _ _ c))
      (asked_twice (ltb j picture_start) (within eav_start eav_xyz j) _ _ e)

  -- line numbers
  pub judged_22 : holds22 s word j t ≡ false → (line_start ≤ j) × (j ≤ (line_start + 1))
  unfolding holds22
  judged_22 e = let c = asked _ _ e in (from_low _ _ _ c, to_high _ _ _ c)

  -- XYZ
  pub judged_23 : holds23 s word j t ≡ false → (j ≡ 3) ⊎ (j ≡ eav_xyz)
  unfolding holds23
  judged_23 e = ⊎_elim (λ c. inl (eqb-true _ _ c)) (λ c. inr (eqb-true _ _ c)) (asked_twice _ _ _ _ e)

  -- CRCC
  pub judged_24 : holds24 s word j t ≡ false → (j ≡ crcc_start) ⊎ (j ≡ (crcc_start + 1))
  unfolding holds24
  judged_24 e = ⊎_elim (λ c. inl (eqb-true _ _ c)) (λ c. inr (eqb-true _ _ c)) (asked_twice _ _ _ _ e)

  -- the picture, on lines 42 to 1121
  pub judged_25 : (f : Format) → holds25 s word f j t ≡ false
      → (picture_start ≤ j) × (j ≤ 1923) × (42 ≤ line_read s word) × (line_read s word ≤ 1121)
  unfolding holds25
  judged_25 f e =
      let there = within picture_start (eav_start - 1) j in
      let c = asked there _ e in
      let line = asked (is_active (line_read s word)) _ (answered there _ e) in
      (from_low _ _ _ c, to_high _ _ _ c, from_low _ _ _ line, to_high _ _ _ line)

  -- the fill
  pub judged_26 : (f : Format) → holds26 s word f j t ≡ false → ancillary_start + (shape_of f).ancillary ≤ j
  unfolding holds26
  judged_26 f e =
      let ahead = ltb j (ancillary_start + (shape_of f).ancillary) in
      ltb-false _ _ (unless ahead _ e)

-- whether stream 1 names a line is asked at its LN0, and not at its LN1
module _ (s : ℕ) (word : ℕ → ℕ) where
  pub nameless : line_of (word_of s word line_start 0) (word_of s word (line_start + 1) 0) ≡ none → holds22 s word line_start 0 ≡ false
  unfolding holds22 within
  nameless e = ap is_some e

  pub asked_once : holds22 s word (line_start + 1) 0 ≡ true
  unfolding holds22 within
  asked_once = eq-eqb (word_of s word (line_start + 1) 0) (word_of s word (line_start + 1) 0) refl
