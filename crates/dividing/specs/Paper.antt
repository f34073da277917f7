-- Rows divided and joined, in document 01's own numerals ("Dividing a picture" and its table of refusals); `proofs/Paper` proves each.
-- Assumes nothing.
use Rattle.std.specs.Prelude.{ℕ, ◌≡◌, List, [], ◌∷◌, length}
use Rattle.ground.specs.Answer.{refused}
use Rattle.dividing.specs.Row.{divided, joined, split_of, join_of}

-- two rows of 1920
abbrev pub BothRows : List ℕ → List ℕ → Type 0
BothRows first second = (length first ≡ 1920) × (length second ≡ 1920)

pub record DividingPaper : Type 0 where
  -- even samples go to the first row, odd ones to the second, and come back in their order
  pub even_and_odd : (a b c d : ℕ) → (divided 0 2 (a ∷ b ∷ c ∷ d ∷ []) ≡ a ∷ c ∷ []) × (divided 1 2 (a ∷ b ∷ c ∷ d ∷ []) ≡ b ∷ d ∷ [])
  pub in_order : (a b c d : ℕ) → joined 2 (a ∷ c ∷ []) (b ∷ d ∷ []) ≡ a ∷ b ∷ c ∷ d ∷ []
  -- 3 for an input that has not 3840 samples, or two that have not 1920 each; then 4 for outputs likewise
  pub split_meets3 : (row first second : List ℕ) → (length row ≡ 3840 → ⊥) → split_of row first second ≡ refused 3 0
  pub split_meets4 :
      (row first second : List ℕ) → length row ≡ 3840 → (BothRows first second → ⊥) → split_of row first second ≡ refused 4 0
  pub join_meets3 : (first second row : List ℕ) → (BothRows first second → ⊥) → join_of first second row ≡ refused 3 0
  pub join_meets4 :
      (first second row : List ℕ) → BothRows first second → (length row ≡ 3840 → ⊥) → join_of first second row ≡ refused 4 0
