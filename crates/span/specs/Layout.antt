-- Where the parts of a span begin (document 01, "A span"; 004, 6.1 and table 4): SAV, picture, EAV, line number, CRCC, ancillary area.
-- Assumes nothing.
use Rattle.std.specs.Prelude.{ℕ}

-- ---- in the words of one stream, the first of the SAV being word 0

-- after four words of SAV
abbrev pub picture_start : ℕ
picture_start = 4

-- after 1,920 words of the picture
abbrev pub eav_start : ℕ
eav_start = 1924

-- after four words of EAV: the line number, LN0 and LN1
abbrev pub line_start : ℕ
line_start = 1928

-- CRCC0 and CRCC1
abbrev pub crcc_start : ℕ
crcc_start = 1930

abbrev pub ancillary_start : ℕ
ancillary_start = 1932

-- XYZ is the fourth word of a timing code: of the SAV, and of the EAV
abbrev pub sav_xyz : ℕ
sav_xyz = 3

abbrev pub eav_xyz : ℕ
eav_xyz = 1927
