-- A span in the papers' own numerals (document 01, "A span"; 004, 6.1 to 6.8 and 7.1, tables 4, 11 and 14); `proofs/Paper` proves each.
-- Streams count from 0 here, so the paper's stream 1 is stream 0.
-- Assumes nothing.
use Rattle.std.specs.Prelude.{ℕ, ◌+◌, ◌*◌, ◌≤◌, ◌<◌, ◌≡◌, true, List, [], ◌∷◌, ◌++◌, length, get_or, take, replicate}
use Rattle.ground.specs.Answer.{refused, given}
use Rattle.ground.specs.Written.{table}
use Rattle.symbol.specs.declared.disparity.Disparity.{Disparity}
use Rattle.symbol.specs.declared.disparity.Disparity.TheVariants.{Negative}
use Rattle.symbol.specs.declared.special.Special.TheVariants.{K28_5, K29_7}
use Rattle.symbol.specs.Character.{number_of}
use Rattle.symbol.specs.Code.{symbol_of}
use Rattle.packing.specs.Bytes.{bytes_of}
use Rattle.crcc.specs.Crcc.{crc, crcc_words}
use Rattle.word.specs.LineNumber.{ln0, ln1}
use Rattle.std.specs.Prelude.{None as NoneNamed, Some as Named}
use Rattle.span.specs.declared.content.ContentBytes.{ContentBytes}
use Rattle.span.specs.declared.format.Format.{Format}
use Rattle.span.specs.Blanking.{fill_of, blank_row}
use Rattle.span.specs.Content.{content_of}
use Rattle.span.specs.Encoding.{symbols_from, after_run}
use Rattle.span.specs.Format.{format_from, plain_format, shape_of, streams, samples_in, pairs_in, symbols_in}
use Rattle.span.specs.Image.{image_of}
use Rattle.span.specs.Length.{lengths_of}
use Rattle.span.specs.Numbers.{IsFormat, Blank}
use Rattle.span.specs.Sample.{blank_word, allowed}
use Rattle.span.specs.Span.{bytes_listed, span_words, span_chars, span_symbols, signal}
use Rattle.span.specs.Stream.{Request}

-- a row of document 01's table: s, the ancillary words per stream, the fill words, the symbols, the samples
abbrev pub columns : Format → List ℕ
columns f =
    let p = shape_of f in streams p ∷ p.ancillary ∷ 2 * p.fill_pairs ∷ symbols_in p ∷ samples_in p ∷ []

-- the images of two streams, and of four
abbrev two : Format → ℕ → List ℕ
two f pair = image_of f pair 0 ∷ image_of f pair 1 ∷ []

abbrev four : Format → ℕ → List ℕ
four f pair = image_of f pair 0 ∷ image_of f pair 1 ∷ image_of f pair 2 ∷ image_of f pair 3 ∷ []

-- word j of stream t, at its interleaved place
abbrev pub word_of : Format → Request → ℕ → ℕ → ℕ
word_of f a j t = get_or (span_words f a) (streams (shape_of f) * j + t) 0

-- the characters of spans one after the other
abbrev pub all_chars : Format → List Request → List ℕ
all_chars f [] = []
all_chars f (a ∷ more) = span_chars f a ++ all_chars f more

-- line n is one of those that carry the picture, 42 to 1121
abbrev pub Active : ℕ → Type 0
Active n = (42 ≤ n) × (n ≤ 1121)

pub record SpanPaper : Type 0 where
  -- a format has its fields as they were given, and the plain one is of G', 4:4:4 and 4K
  pub fields_as_given :
      (number depth component structure size : ℕ)
      → let f = format_from number depth component structure size in
      (f.number ≡ number) × (f.depth ≡ depth) × (f.component ≡ component) × (f.structure ≡ structure) × (f.size ≡ size)
  pub plain_is : (number depth : ℕ) → plain_format number depth ≡ format_from number depth 1 1 1
  -- document 01's table of formats: s, the ancillary words per stream, the fill words, the symbols; and 1920 samples a stream
  pub table_of_formats :
      (f : Format)
      → (f.number ≡ 1 → columns f ≡ 2 ∷ 268 ∷ 880 ∷ 7920 ∷ 3840 ∷ [])
      × (f.number ≡ 2 → columns f ≡ 2 ∷ 708 ∷ 1056 ∷ 9504 ∷ 3840 ∷ [])
      × (f.number ≡ 3 → columns f ≡ 4 ∷ 708 ∷ 2112 ∷ 19008 ∷ 7680 ∷ [])
  -- the lengths call answers these for every known format
  pub lengths120 : (f : Format) → IsFormat f → f.number ≡ 1 → lengths_of f ≡ given (record { samples = 3840; symbols = 7920 })
  pub lengths100 : (f : Format) → IsFormat f → f.number ≡ 2 → lengths_of f ≡ given (record { samples = 3840; symbols = 9504 })
  pub lengths50 : (f : Format) → IsFormat f → f.number ≡ 3 → lengths_of f ≡ given (record { samples = 7680; symbols = 19008 })
  -- any other format is refused with 1; so it is by the call that fills a row with blanking, which refuses any other length with 4
  pub lengths_meets1 : (f : Format) → (IsFormat f → ⊥) → lengths_of f ≡ refused 1 0
  pub fill_meets1 : (f : Format) (row : List ℕ) → (IsFormat f → ⊥) → fill_of f row ≡ refused 1 0
  pub fill_meets4 :
      (f : Format) (row : List ℕ) → IsFormat f → (length row ≡ samples_in (shape_of f) → ⊥) → fill_of f row ≡ refused 4 0
  -- and a span has that many symbols
  pub symbols_of_span :
      (d : Disparity) (f : Format) (a : Request) → IsFormat f → length (span_symbols d f a) ≡ symbols_in (shape_of f)
  -- the images that the streams carry: 1 and 2, or 3 and 4, at 120 and 100 Hz; 1 to 4 at 50 Hz (document 01, "Dividing a picture")
  pub images120 : (f : Format) → f.number ≡ 1 → (two f 1 ≡ 1 ∷ 2 ∷ []) × (two f 2 ≡ 3 ∷ 4 ∷ [])
  pub images100 : (f : Format) → f.number ≡ 2 → (two f 1 ≡ 1 ∷ 2 ∷ []) × (two f 2 ≡ 3 ∷ 4 ∷ [])
  pub images50 : (f : Format) → f.number ≡ 3 → (pair : ℕ) → four f pair ≡ 1 ∷ 2 ∷ 3 ∷ 4 ∷ []
  -- the content bytes are those that a call names, and zeros if it names none (document 01, "Sending")
  pub named_as_given : (f : Format) (c : ContentBytes) → content_of f (Named c) ≡ c
  pub none_named_zeros : (f : Format) → content_of f NoneNamed ≡ record { sav1 = 0; sav2 = 0; eav1 = 0; eav2 = 0 }
  -- 6.8: the blanking word is 100 for G', B', R' and Y', and 800 for C'B and C'R, at both depths; so is each sample that may be sent on a
  -- blanking line, and no other may; and a row of blanking is that word throughout, as long as the samples of a span (document 01, "Sending")
  pub blank_word_is : (f : Format) → IsFormat f → Blank f (blank_word f)
  pub blank_allowed : (f : Format) → IsFormat f → (n t x : ℕ) → (Active n → ⊥) → Blank f x → allowed f n t x ≡ true
  pub blank_alone : (f : Format) → IsFormat f → (n t x : ℕ) → (Active n → ⊥) → allowed f n t x ≡ true → Blank f x
  pub blank_row_is : (f : Format) → IsFormat f → (m w : ℕ) → m ≡ samples_in (shape_of f) → Blank f w → blank_row f ≡ replicate m w
  -- the words of each stream: FFF 000 000, then XYZ of a SAV, 800 on lines 42 to 1121 and AB0 on any other,
  pub sav_words :
      (f : Format) (a : Request) (t : ℕ)
      → t < streams (shape_of f)
      → (word_of f a 0 t ≡ 0xFFF) × (word_of f a 1 t ≡ 0x000) × (word_of f a 2 t ≡ 0x000)
  pub sav_active : (f : Format) (a : Request) (t : ℕ) → t < streams (shape_of f) → Active a.line → word_of f a 3 t ≡ 0x800
  pub sav_blanking : (f : Format) (a : Request) (t : ℕ) → t < streams (shape_of f) → (Active a.line → ⊥) → word_of f a 3 t ≡ 0xAB0
  -- the picture: a ten-bit sample shifted by two, a twelve-bit one as it is, and on a blanking line the word as it was given,
  pub picture_ten :
      (f : Format) (a : Request) (t i x : ℕ)
      → t < streams (shape_of f)
      → i < 1920
      → get_or a.samples (1920 * t + i) 0 ≡ x
      → f.depth ≡ 10
      → Active a.line
      → x ≤ 1023
      → word_of f a (4 + i) t ≡ 4 * x
  pub picture_twelve :
      (f : Format) (a : Request) (t i x : ℕ)
      → t < streams (shape_of f)
      → i < 1920
      → get_or a.samples (1920 * t + i) 0 ≡ x
      → f.depth ≡ 12
      → Active a.line
      → x ≤ 4095
      → word_of f a (4 + i) t ≡ x
  pub picture_blanking :
      (f : Format) (a : Request) (t i x : ℕ)
      → t < streams (shape_of f)
      → i < 1920
      → get_or a.samples (1920 * t + i) 0 ≡ x
      → (Active a.line → ⊥)
      → word_of f a (4 + i) t ≡ x
  -- FFF 000 000, then XYZ of an EAV, with V of the line after: 9D0 or B60,
  pub eav_words :
      (f : Format) (a : Request) (t : ℕ)
      → t < streams (shape_of f)
      → (word_of f a 1924 t ≡ 0xFFF) × (word_of f a 1925 t ≡ 0x000) × (word_of f a 1926 t ≡ 0x000)
  pub eav_active :
      (f : Format) (a : Request) (t : ℕ) → t < streams (shape_of f) → 41 ≤ a.line → a.line ≤ 1120 → word_of f a 1927 t ≡ 0x9D0
  pub eav_blanking :
      (f : Format) (a : Request) (t : ℕ)
      → t < streams (shape_of f)
      → (41 ≤ a.line → a.line ≤ 1120 → ⊥)
      → word_of f a 1927 t ≡ 0xB60
  -- the number of the line after; line 1, which is 810 800, follows 1125,
  pub line_number_words :
      (f : Format) (a : Request) (t : ℕ)
      → t < streams (shape_of f)
      → a.line ≤ 1124
      → (word_of f a 1928 t ≡ ln0 (a.line + 1)) × (word_of f a 1929 t ≡ ln1 (a.line + 1))
  pub line_number_last :
      (f : Format) (a : Request) (t : ℕ)
      → t < streams (shape_of f)
      → a.line ≡ 1125
      → (word_of f a 1928 t ≡ 0x810) × (word_of f a 1929 t ≡ 0x800)
  -- the CRCC words of the 1,926 words before them, from the first after the SAV to the last line-number word (6.4),
  pub crcc_pair :
      (f : Format) (a : Request) (t : ℕ)
      → t < streams (shape_of f)
      → let c = crc 0 (table 1926 (λ i. word_of f a (4 + i) t)) in
      (word_of f a 1930 t ≡ (crcc_words c).crcc0) × (word_of f a 1931 t ≡ (crcc_words c).crcc1)
  -- the ancillary area, blanking words throughout (6.8), and after all streams the fill, 100 whatever the link carries (7.1)
  pub ancillary_blank :
      (f : Format) (a : Request) (t : ℕ)
      → IsFormat f
      → t < streams (shape_of f)
      → (i : ℕ)
      → i < (shape_of f).ancillary
      → Blank f (word_of f a (1932 + i) t)
  pub fill_words :
      (f : Format) (a : Request) (i : ℕ)
      → i < 2 * (shape_of f).fill_pairs
      → get_or (span_words f a) (streams (shape_of f) * (1932 + (shape_of f).ancillary) + i) 0 ≡ 0x100
  -- the characters: K28.5 twice and two content bytes first, K29.7 twice and two content bytes from 2886s on,
  pub sav_chars :
      (f : Format) (a : Request)
      → (get_or (span_chars f a) 0 0 ≡ number_of K28_5)
      × (get_or (span_chars f a) 1 0 ≡ number_of K28_5)
      × (get_or (span_chars f a) 2 0 ≡ (content_of f a.content).sav1)
      × (get_or (span_chars f a) 3 0 ≡ (content_of f a.content).sav2)
  pub eav_chars :
      (f : Format) (a : Request)
      → IsFormat f
      → let k = 2886 * streams (shape_of f) in
      (get_or (span_chars f a) k 0 ≡ number_of K29_7)
      × (get_or (span_chars f a) (k + 1) 0 ≡ number_of K29_7)
      × (get_or (span_chars f a) (k + 2) 0 ≡ (content_of f a.content).eav1)
      × (get_or (span_chars f a) (k + 3) 0 ≡ (content_of f a.content).eav2)
  -- and everywhere else byte i of the three that words 2q and 2q + 1 make
  pub byte_chars :
      (f : Format) (a : Request)
      → IsFormat f
      → (q i : ℕ)
      → q < pairs_in (shape_of f)
      → i < 3
      → 4 ≤ 3 * q + i
      → (2886 * streams (shape_of f) ≤ 3 * q + i → 2886 * streams (shape_of f) + 4 ≤ 3 * q + i)
      → get_or (span_chars f a) (3 * q + i) 0
      ≡ get_or (bytes_listed (bytes_of (get_or (span_words f a) (2 * q) 0) (get_or (span_words f a) (2 * q + 1) 0))) i 0
  -- so with two streams, whose first picture words are ABC and DEF, characters 12 to 14 are BC FA DE
  pub abcdef :
      (f : Format) (a : Request)
      → IsFormat f
      → f.number ≤ 2
      → word_of f a 4 0 ≡ 0xABC
      → word_of f a 4 1 ≡ 0xDEF
      → (get_or (span_chars f a) 12 0 ≡ 0xBC) × (get_or (span_chars f a) 13 0 ≡ 0xFA) × (get_or (span_chars f a) 14 0 ≡ 0xDE)
  -- each symbol is that of its character, at the disparity left by those before it
  pub symbol_at :
      (f : Format) (a : Request)
      → IsFormat f
      → (d : Disparity) (i : ℕ)
      → i < symbols_in (shape_of f)
      → get_or (span_symbols d f a) i 0 ≡ symbol_of (after_run d (take i (span_chars f a))) (get_or (span_chars f a) i 0)
  -- a fresh signal is its spans' characters encoded as one run from negative disparity (004, 7.1.1 and 7.1.2)
  pub signal_is : (f : Format) (spans : List Request) → signal f spans ≡ symbols_from Negative (all_chars f spans)
