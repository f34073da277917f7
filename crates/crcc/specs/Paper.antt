-- The error detection code in numerals that polynomial long division gives (004, 6.4 and table 9); `proofs/Paper` proves it.
-- Assumes nothing.
use Rattle.std.specs.Prelude.{ℕ, ◌≡◌, List, [], ◌∷◌, map}
use Rattle.ground.specs.Answer.{Answer, refused, given}
use Rattle.crcc.specs.declared.crcc.CrccWords.{CrccWords}
use Rattle.crcc.specs.Crcc.{crcc_words, crcc_of}

-- the two words of a run of words
abbrev pub as_words : Answer ℕ → Answer CrccWords
as_words (refused number place) = refused number place
as_words (given c) = given (crcc_words c)

infixl 20 ◌then◌
abbrev ◌then◌ : ℕ → ℕ → Answer CrccWords
a then b = given (record { crcc0 = a; crcc1 = b })

pub record CrccPaper : Type 0 where
  -- the remainders of X^18 M for runs of one, two and three words, M from the lowest bit of the first word on: by a program that shares
  -- nothing with the definitions (rust/plain divides; so does any long division by X^18 + X^5 + X^4 + 1 on paper)
  pub long_division :
      map (λ (ws : List ℕ). as_words (crcc_of ws))
      ((0x001 ∷ [])
      ∷ (0x100 ∷ [])
      ∷ (0x800 ∷ [])
      ∷ (0xFFF ∷ [])
      ∷ (0x001 ∷ 0x100 ∷ [])
      ∷ (0xABC ∷ 0xDEF ∷ 0x123 ∷ [])
      ∷ [])
      ≡ (0x918 then 0x800)
      ∷ (0x800 then 0x88C)
      ∷ (0x800 then 0x460)
      ∷ (0x708 then 0x7BC)
      ∷ (0x850 then 0x8AC)
      ∷ (0x59C then 0xBEC)
      ∷ []
