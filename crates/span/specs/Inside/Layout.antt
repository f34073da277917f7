-- Where the parts of a span begin: the part that only loops and proofs use. The rest is in specs/Layout.
-- Assumes nothing.
use Rattle.std.specs.Prelude.{ℕ}

-- ---- in the symbols of one pair of streams, three for two words
abbrev pub picture_symbol : ℕ
picture_symbol = 12

abbrev pub eav_symbol : ℕ
eav_symbol = 5772

abbrev pub ancillary_symbol : ℕ
ancillary_symbol = 5796
