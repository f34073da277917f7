-- A timing word as received: with one wrong bit it is taken for the legal word near it (document 01, "Words of a stream"; 004, 6.2).
-- Assumes nothing.
use Rattle.std.specs.Prelude.{ℕ, ◌/◌, ◌%◌, Bool, false, cond, eqb, ltb, get_or}
use Rattle.std.proofs.Math.Option
use Rattle.std.proofs.Math.Option.{Option, none, some}
use Rattle.word.specs.Repair.{distance, differs_at, legal_word, nearest}
use Rattle.word.specs.Timing.{timing_code}
use Rattle.ground.specs.Bit.{bit}

-- H of the near legal word is h
abbrev pub has_h : Bool → Option ℕ → Bool
has_h h none = false
has_h h (some vh) = eqb (vh % 2) (bit h)

-- word j of a timing code with this H: FFF 000 000, and XYZ, which may have one wrong bit
abbrev pub is_timing : Bool → ℕ → ℕ → Bool
is_timing h j w = cond (ltb j 3) (eqb w (get_or (timing_code false h) j 0)) (has_h h (nearest w))

-- XYZ as repaired, V in it, how many bits were wrong, and whether bit k was: 1 or 0
abbrev pub repaired : ℕ → ℕ
repaired w = legal_word (Option.get_or (nearest w) 0)

abbrev pub v_in : ℕ → Bool
v_in w = eqb (Option.get_or (nearest w) 0 / 2) 1

abbrev pub wrong_bits : ℕ → ℕ
wrong_bits w = distance w (repaired w)

abbrev pub bit_wrong : ℕ → ℕ → ℕ
bit_wrong k w = differs_at k w (repaired w)
