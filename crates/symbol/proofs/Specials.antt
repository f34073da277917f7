-- The twelve special characters: their numbers are 256 to 267, and each is told again from its number.
-- Assumes nothing.
use mathlib.Core.Path.{◌≡◌, refl}
use Prim.Native.Nat.{◌-◌, ◌≤◌, ◌<◌}
use lib.Dec.{lit≤, lit<}
use Rattle.ground.specs.Inside.Answer.{Injective}
use Rattle.ground.proofs.Answers.{told_again}
use Rattle.symbol.specs.declared.special.Special.{Special}
use Rattle.symbol.specs.declared.special.Special.TheVariants.{K28_0, K28_1, K28_2, K28_3, K28_4, K28_5, K28_6, K28_7, K23_7, K27_7, K29_7, K30_7}
use Rattle.symbol.specs.Character.{characters, number_of, nth}

pub record Known (k : Special) : Type 0 where
  pub low : 256 ≤ number_of k
  pub high : number_of k < characters
  pub again : nth (number_of k - 256) ≡ k

pub known : (k : Special) → Known k
unfolding nth
known K28_0 = record { low = lit≤ tt; high = lit< tt; again = refl }
known K28_1 = record { low = lit≤ tt; high = lit< tt; again = refl }
known K28_2 = record { low = lit≤ tt; high = lit< tt; again = refl }
known K28_3 = record { low = lit≤ tt; high = lit< tt; again = refl }
known K28_4 = record { low = lit≤ tt; high = lit< tt; again = refl }
known K28_5 = record { low = lit≤ tt; high = lit< tt; again = refl }
known K28_6 = record { low = lit≤ tt; high = lit< tt; again = refl }
known K28_7 = record { low = lit≤ tt; high = lit< tt; again = refl }
known K23_7 = record { low = lit≤ tt; high = lit< tt; again = refl }
known K27_7 = record { low = lit≤ tt; high = lit< tt; again = refl }
known K29_7 = record { low = lit≤ tt; high = lit< tt; again = refl }
known K30_7 = record { low = lit≤ tt; high = lit< tt; again = refl }

-- The numbers tell the special characters apart.
pub number_one_to_one : Injective number_of
number_one_to_one = told_again (λ n. nth (n - 256)) (λ k. (known k).again)
