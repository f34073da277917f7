-- The running disparity: the part that only loops and proofs use. The rest is in specs/Disparity.
-- Assumes nothing.
use Rattle.std.specs.Prelude.{Bool, cond}
use Rattle.symbol.specs.declared.disparity.Disparity.{Disparity}
use Rattle.symbol.specs.declared.disparity.Disparity.TheVariants.{Negative, Positive}

abbrev pub opposite : Disparity → Disparity
opposite Negative = Positive
opposite Positive = Negative

-- the opposite of d if it flips, else d
abbrev pub flipped_if : Bool → Disparity → Disparity
flipped_if flips d = cond flips (opposite d) d
