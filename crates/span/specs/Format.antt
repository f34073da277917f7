-- The formats (document 01, "A span": its table; 004, tables 2, 3, 4, 11 and 14).
-- Assumes nothing.
use Rattle.std.specs.Prelude.{ℕ, ◌+◌, ◌*◌, ◌/◌, Bool, ◌&&◌, ◌||◌, List, [], ◌∷◌, eqb, get_or}
use Rattle.ground.specs.Range.{within}
use Rattle.span.specs.declared.format.Format.{Format}
use Rattle.span.specs.declared.format.Shape.{Shape}
use Rattle.span.specs.Layout.{ancillary_start}

-- a format as a caller writes it: number (1, 2, 3: 120, 100, 50 Hz), depth, component (1 G', 2 B', 3 R', 4 Y', 5 C'B, 6 C'R), structure (1:
-- 4:4:4) and size (1: 4K). 0 is unknown in every field. This is the one place where its record is made.
abbrev pub format_from : ℕ → ℕ → ℕ → ℕ → ℕ → Format
format_from number depth component structure size =
    record { number = number; depth = depth; component = component; structure = structure; size = size }

-- that of document 01's base: G', 4:4:4, 4K
abbrev pub plain_format : ℕ → ℕ → Format
plain_format number depth = format_from number depth 1 1 1

-- 120, 100 and 50 Hz; 10 and 12 bits; G', B', R', Y', C'B and C'R; 4:4:4; 4K
abbrev pub is_number : ℕ → Bool
is_number number = within 1 3 number

abbrev pub is_depth : ℕ → Bool
is_depth depth = eqb depth 10 || eqb depth 12

abbrev pub is_component : ℕ → Bool
is_component component = within 1 6 component

abbrev pub is_structure : ℕ → Bool
is_structure structure = eqb structure 1

abbrev pub is_size : ℕ → Bool
is_size size = eqb size 1

-- the formats that there are: U1.1, .2, .4 and U1.8, .9, .11 of 004's table 2
abbrev pub is_known : Format → Bool
is_known f =
    is_number f.number
    && (is_depth f.depth && (is_component f.component && (is_structure f.structure && is_size f.size)))

-- the link carries a colour difference, C'B or C'R
abbrev pub is_difference : Format → Bool
is_difference f = within 5 6 f.component

-- a row of the table: s, the ancillary words per stream, the fill words. s and the fill are even and kept as pairs, since the link
-- takes words two at a time.
abbrev pub table_row : ℕ → ℕ → ℕ → Shape
table_row s a g = record { stream_pairs = s / 2; ancillary = a; fill_pairs = g / 2 }

-- the table, from format 1 on; anything that is not a format has no streams
abbrev pub formats : List Shape
formats = table_row 0 0 0 ∷ table_row 2 268 880 ∷ table_row 2 708 1056 ∷ table_row 4 708 2112 ∷ []

abbrev pub numbered : ℕ → Shape
numbered n = get_or formats n (table_row 0 0 0)

unfoldable pub shape_of : Format → Shape
shape_of f = numbered f.number

-- the number s of streams
abbrev pub streams : Shape → ℕ
streams p = 2 * p.stream_pairs

-- the samples that a span carries: 1920 of each stream
abbrev pub samples_in : Shape → ℕ
samples_in p = 1920 * streams p

-- the words of one stream from one SAV up to the next, without the fill
abbrev pub words_per_stream : Shape → ℕ
words_per_stream p = ancillary_start + p.ancillary

-- the pairs of words of a span
abbrev pub pairs_in : Shape → ℕ
pairs_in p = p.stream_pairs * words_per_stream p + p.fill_pairs

-- its symbols: two words give three
abbrev pub symbols_in : Shape → ℕ
symbols_in p = 3 * pairs_in p

-- the symbol at which the EAV begins
abbrev pub eav_at : Shape → ℕ
eav_at p = 2886 * streams p
