-- What a call answers, in the paper's terms, and how its refusals are tested: the part that only loops and proofs use. The rest is in
-- specs/Answer.
-- Assumes nothing.
use Rattle.std.specs.Prelude.{◌≡◌}

-- a reading of answers that tells any two of them apart, so that a contract about the reading fixes the answer
abbrev pub Injective : {A B : Type 0} → (A → B) → Type 0
Injective {A} f = (a b : A) → f a ≡ f b → a ≡ b
