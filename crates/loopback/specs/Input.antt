-- The knock that the input asks for: its place and its length, four bytes each, the low byte first. What follows is ignored.
-- Assumes nothing.
use Rattle.std.specs.Prelude.{ℕ, ◌+◌, ◌*◌, cond, List, ltb, length, get_or}
use Rattle.rig.specs.declared.knock.Knock.{Knock}

-- the number whose bytes begin at place i
abbrev pub number_at : List ℕ → ℕ → ℕ
number_at bytes i =
    get_or bytes i 0 + get_or bytes (i + 1) 0 * 256 + get_or bytes (i + 2) 0 * 65536 + get_or bytes (i + 3) 0 * 16777216

-- if fewer than eight bytes are given: one millisecond of the link, as long before as after the middle of the span that carries the middle
-- of the test picture's rings, where the picture is brightest and lost lines are seen
abbrev pub millisecond : Knock
millisecond = record { place = 7078104; long = 1069200 }

abbrev pub knock_in : List ℕ → Knock
knock_in input =
    cond (ltb (length input) 8) millisecond (record { place = number_at input 0; long = number_at input 4 })
