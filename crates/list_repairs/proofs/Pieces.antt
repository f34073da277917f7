-- The pieces of a line, each put after the one before it.
-- Assumes nothing.
use mathlib.Core.Path.{◌≡◌}
use mathlib.Core.List.{List, [], ◌∷◌}
use Prim.Native.Nat.{ℕ, ◌+◌, ◌≤◌, ◌<◌}
use native.Mathlib.Omega.{arith}
use lib.ListN.{length, length-append}
use Rattle.ground.specs.Answer.{given}
use Rattle.ground.proofs.Putting.{Put}
use Rattle.text.specs.Number.{decimal, hexadecimal}
use Rattle.text.specs.Put.{end_of, put_of}
use Rattle.text.proofs.Putting.{put_told, then_told}
use Rattle.word.specs.declared.repair.Repaired.{Repaired}
use Rattle.list_repairs.specs.Text.{bit_text, outcome}
use Rattle.list_repairs.proofs.Lines.{Short, index_most, line_start}

-- what a call that puts a text promises
abbrev Told : List ℕ → List ℕ → ℕ → ℕ → List ℕ → Type 0
Told o p at end x = (end ≡ end_of (length o) at x) × (p ≡ put_of o at x)

module _ {o p q r s : List ℕ} {at a b c d : ℕ} where
  -- the index and the word
  pub start_put : (index w : ℕ) → index < 65536 → at + 11 ≤ length o → Told o p at a (decimal index) → Told p q a b (32 ∷ [])
      → Told q r b c (hexadecimal w) → Told r s c d (32 ∷ []) → Put o s at d (line_start index w)
  start_put index w h room t₁ t₂ t₃ t₄ =
      let most = index_most index h in
      let f₁ : Put o p at a (decimal index) = put_told (decimal index) (omega arith) t₁.0 t₁.1 in
      let f₂ = then_told (32 ∷ []) f₁ (omega arith) t₂.0 t₂.1 in
      let f₃ = then_told (hexadecimal w) f₂ (simp length-append (omega arith)) t₃.0 t₃.1 in
      then_told (32 ∷ []) f₃ (simp length-append (omega arith)) t₄.0 t₄.1

module _ {o p q r s t u : List ℕ} {at a b c d e f : ℕ} where
  -- the repaired word, the distance and the bit
  pub repaired_put : (v : Repaired) → Short v → at + 10 ≤ length o → Told o p at a (hexadecimal v.word) → Told p q a b (32 ∷ [])
      → Told q r b c (decimal v.distance) → Told r s c d (32 ∷ []) → Told s t d e (bit_text v.bit) → Told t u e f (10 ∷ [])
      → Put o u at f (outcome (given v))
  repaired_put v short room t₁ t₂ t₃ t₄ t₅ t₆ =
      let one = short.distance in
      let two = short.bit in
      let f₁ : Put o p at a (hexadecimal v.word) = put_told (hexadecimal v.word) (omega arith) t₁.0 t₁.1 in
      let f₂ = then_told (32 ∷ []) f₁ (omega arith) t₂.0 t₂.1 in
      let f₃ = then_told (decimal v.distance) f₂ (omega arith) t₃.0 t₃.1 in
      let f₄ = then_told (32 ∷ []) f₃ (simp length-append (omega arith)) t₄.0 t₄.1 in
      let f₅ = then_told (bit_text v.bit) f₄ (simp length-append (omega arith)) t₅.0 t₅.1 in
      then_told (10 ∷ []) f₅ (simp length-append (omega arith)) t₆.0 t₆.1
