-- Which word stands at each interleaved place of a span, and which character at each of its symbols.
-- Assumes nothing.
use mathlib.Core.Path.{◌≡◌, refl, sym, ap, ◌∙◌}
use mathlib.Core.Bool.{true, false}
use mathlib.Core.List.{List, ◌++◌}
use Prim.Native.Nat.{ℕ, ◌+◌, ◌-◌, ◌*◌, ◌/◌, ◌%◌, ◌≤◌, ◌<◌}
use native.Mathlib.Nat.{mul-le-mul_left}
use native.Mathlib.Omega.{arith}
use lib.ListN.{get_or, take, get_or-replicate}
use Rattle.ground.proofs.Writing.{get_d_table, get_d_first, get_d_second}
use Rattle.line.specs.Stream.{v_of, line_after}
use Rattle.symbol.specs.declared.disparity.Disparity.{Disparity}
use Rattle.symbol.specs.declared.special.Special.TheVariants.{K28_5, K29_7}
use Rattle.symbol.specs.Character.{number_of}
use Rattle.symbol.specs.Code.{symbol_of}
use Rattle.symbol.specs.Inside.Code.{TwoForms}
use Rattle.symbol.proofs.Forms.{two_forms}
use Rattle.packing.specs.Bytes.{bytes_of}
use Rattle.crcc.specs.Crcc.{crcc_words}
use Rattle.word.specs.LineNumber.{ln0, ln1}
use Rattle.word.specs.Timing.{timing}
use Rattle.span.specs.declared.content.ContentBytes.{ContentBytes}
use Rattle.span.specs.declared.format.Format.{Format}
use Rattle.span.specs.Content.{content_of}
use Rattle.span.specs.Encoding.{symbols_from, after_run}
use Rattle.span.specs.Format.{shape_of, streams, pairs_in, symbols_in, eav_at}
use Rattle.span.specs.Sample.{blank_word, sample_word}
use Rattle.span.specs.Span.{interleaved, bytes, bytes_listed, words_from_sav, words_from_eav, span_words, chars_from_sav, chars_from_eav, span_chars, span_symbols, fill_word}
use Rattle.span.specs.Stream.{Request, sav, picture, eav, line_number, crcc, register, ancillary, from_sav, from_eav}
use Rattle.span.specs.Layout.{eav_start, line_start, crcc_start, ancillary_start, eav_xyz}
use Rattle.span.proofs.Encoding.{symbol_at_lem}
use Rattle.span.proofs.Interleaving.{length_interleaved, interleaved_at}
use Rattle.span.proofs.Lengths.{length_words_sav, length_words, length_bytes_sav, length_chars}
use Rattle.span.proofs.Packing.{bytes_append, byte_at_lem}
use Rattle.span.proofs.Synchronised.{in_second, kept_byte}

-- ---- words

-- word j of stream t, at its interleaved place
abbrev pub word_at : Format → Request → ℕ → ℕ → ℕ
word_at f a j t = get_or (span_words f a) (streams (shape_of f) * j + t) 0

-- word j of n, of stream t of s, stands among the first s * n
pub inside : (s n j t : ℕ) → j < n → t < s → s * j + t < s * n
inside s n j t h l = omega (arith, mul-le-mul_left s h)

module _ (f : Format) (a : Request) where
  -- after what stands from the SAV on stands what stands from the EAV on
  after_sav : (i : ℕ) → get_or (span_words f a) (streams (shape_of f) * eav_start + i) 0 ≡ get_or (words_from_eav f a) i 0
  unfolding span_words
  after_sav i = get_d_second (words_from_sav f a) (words_from_eav f a) (streams (shape_of f) * eav_start) i 0 (length_words_sav f a)

  -- the fill stands after all streams' words
  pub fill_word_lem :
      (i : ℕ)
      → i < 2 * (shape_of f).fill_pairs
      → get_or (span_words f a) (streams (shape_of f) * (ancillary_start + (shape_of f).ancillary) + i) 0 ≡ fill_word
  unfolding words_from_eav
  fill_word_lem i h =
      let s = streams (shape_of f) in
      let n = 8 + (shape_of f).ancillary in
      let g = 2 * (shape_of f).fill_pairs in
      let e : s * (ancillary_start + (shape_of f).ancillary) + i ≡ s * eav_start + (s * n + i) = omega arith in
      ap (λ (k : ℕ). get_or (span_words f a) k 0) e
      ∙ after_sav (s * n + i)
      ∙ get_d_second (interleaved s n (from_eav f a)) _ (s * n) i 0 (length_interleaved s n (from_eav f a))
      ∙ get_or-replicate g i _ 0 h

  module _ (t : ℕ) (l : t < streams (shape_of f)) where
    -- word j from the SAV on
    pub word_at_sav : (j : ℕ) → j < eav_start → word_at f a j t ≡ get_or (from_sav f a t) j 0
    unfolding span_words words_from_sav
    word_at_sav j h =
        let s = streams (shape_of f) in
        get_d_first (words_from_sav f a) (words_from_eav f a) (s * eav_start) (s * j + t) 0 (length_words_sav f a) (inside s eav_start j t h l)
        ∙ interleaved_at s eav_start (from_sav f a) j t h l

    -- word j from the EAV on
    pub word_at_eav : (j : ℕ) → j < 8 + (shape_of f).ancillary → word_at f a (eav_start + j) t ≡ get_or (from_eav f a t) j 0
    unfolding words_from_eav
    word_at_eav j h =
        let s = streams (shape_of f) in
        let n = 8 + (shape_of f).ancillary in
        let g = 2 * (shape_of f).fill_pairs in
        let e : s * (eav_start + j) + t ≡ s * eav_start + (s * j + t) = omega arith in
        ap (λ (k : ℕ). get_or (span_words f a) k 0) e
        ∙ after_sav (s * j + t)
        ∙ get_d_first (interleaved s n (from_eav f a)) _ (s * n) (s * j + t) 0
        (length_interleaved s n (from_eav f a)) (inside s n j t h l)
        ∙ interleaved_at s n (from_eav f a) j t h l

    -- the SAV, with V of the line
    pub sav_words :
        (word_at f a 0 t ≡ 0xFFF)
        × (word_at f a 1 t ≡ 0x000)
        × (word_at f a 2 t ≡ 0x000)
        × (word_at f a 3 t ≡ timing (v_of a.line) false)
    sav_words =
        (word_at_sav 0 (omega arith), word_at_sav 1 (omega arith), word_at_sav 2 (omega arith), word_at_sav 3 (omega arith))

    -- the picture
    pub picture_word_lem :
        (i : ℕ) → i < 1920 → word_at f a (4 + i) t ≡ sample_word f a.line t (get_or a.samples (1920 * t + i) 0)
    unfolding picture
    picture_word_lem i h =
        word_at_sav (4 + i) (omega arith)
        ∙ get_d_second (sav a) (picture f a t) 4 i 0 refl
        ∙ get_d_table 1920 (λ j. sample_word f a.line t (get_or a.samples (1920 * t + j) 0)) i 0 h

    -- the EAV, with V of the line after
    pub eav_words :
        (word_at f a eav_start t ≡ 0xFFF)
        × (word_at f a (eav_start + 1) t ≡ 0x000)
        × (word_at f a (eav_start + 2) t ≡ 0x000)
        × (word_at f a eav_xyz t ≡ timing (v_of (line_after a.line)) true)
    eav_words =
        (word_at_eav 0 (omega arith), word_at_eav 1 (omega arith), word_at_eav 2 (omega arith), word_at_eav 3 (omega arith))

    -- that line's number
    pub line_number_words :
        (word_at f a line_start t ≡ ln0 (line_after a.line)) × (word_at f a (line_start + 1) t ≡ ln1 (line_after a.line))
    line_number_words = (word_at_eav 4 (omega arith), word_at_eav 5 (omega arith))

    -- the CRCC
    pub crcc_words_lem :
        (word_at f a crcc_start t ≡ (crcc_words (register f a t)).crcc0) × (word_at f a (crcc_start + 1) t ≡ (crcc_words (register f a t)).crcc1)
    crcc_words_lem = (word_at_eav 6 (omega arith), word_at_eav 7 (omega arith))

    -- the ancillary area
    pub ancillary_word :
        (i : ℕ) → i < (shape_of f).ancillary → word_at f a (ancillary_start + i) t ≡ get_or (ancillary f a.line t) i 0
    ancillary_word i h =
        let e : ancillary_start + i ≡ eav_start + (8 + i) = omega arith in
        ap (λ (j : ℕ). word_at f a j t) e
        ∙ word_at_eav (8 + i) (omega arith)
        ∙ get_d_second (eav a ++ (line_number a ++ crcc f a t)) (ancillary f a.line t) 8 i 0 refl

    pub ancillary_blank : (i : ℕ) → i < (shape_of f).ancillary → word_at f a (ancillary_start + i) t ≡ blank_word f
    unfolding ancillary
    ancillary_blank i h = ancillary_word i h ∙ get_or-replicate (shape_of f).ancillary i _ 0 h

-- ---- characters

-- the SAV's special characters and content bytes stand first
pub char_at_sync_sav :
    (f : Format) (a : Request)
    → (get_or (span_chars f a) 0 0 ≡ number_of K28_5)
    × (get_or (span_chars f a) 1 0 ≡ number_of K28_5)
    × (get_or (span_chars f a) 2 0 ≡ (content_of f a.content).sav1)
    × (get_or (span_chars f a) 3 0 ≡ (content_of f a.content).sav2)
unfolding span_chars chars_from_sav
char_at_sync_sav f a = (refl, refl, refl, refl)

-- so the first symbol is that of K28.5
pub first_symbol : (d : Disparity) (f : Format) (a : Request) → get_or (span_symbols d f a) 0 0 ≡ symbol_of d (number_of K28_5)
unfolding span_symbols span_chars chars_from_sav symbols_from
first_symbol d f a = refl

module _ (f : Format) (a : Request) (some : 1 ≤ (shape_of f).stream_pairs) where
  abbrev content : ContentBytes
  content = content_of f a.content

  -- the bytes before the EAV, and those from it on
  abbrev sav_bytes : List ℕ
  sav_bytes = bytes (words_from_sav f a)

  abbrev eav_bytes : List ℕ
  eav_bytes = bytes (words_from_eav f a)

  -- the characters from the EAV on stand after those from the SAV on
  behind_chars : (i : ℕ) → get_or (span_chars f a) (eav_at (shape_of f) + i) 0 ≡ get_or (chars_from_eav f a) i 0
  unfolding span_chars chars_from_sav chars_from_eav
  behind_chars = in_second content sav_bytes eav_bytes (eav_at (shape_of f)) (length_bytes_sav f a) (omega arith)

  -- the EAV's
  pub char_at_sync_eav :
      (get_or (span_chars f a) (eav_at (shape_of f)) 0 ≡ number_of K29_7)
      × (get_or (span_chars f a) (eav_at (shape_of f) + 1) 0 ≡ number_of K29_7)
      × (get_or (span_chars f a) (eav_at (shape_of f) + 2) 0 ≡ (content_of f a.content).eav1)
      × (get_or (span_chars f a) (eav_at (shape_of f) + 3) 0 ≡ (content_of f a.content).eav2)
  unfolding chars_from_eav
  char_at_sync_eav =
      let e : eav_at (shape_of f) ≡ eav_at (shape_of f) + 0 = omega arith in
      (ap (λ (k : ℕ). get_or (span_chars f a) k 0) e ∙ behind_chars 0, behind_chars 1, behind_chars 2, behind_chars 3)

  -- the bytes of the words, in the same two parts
  bytes_parts : bytes (span_words f a) ≡ sav_bytes ++ eav_bytes
  unfolding span_words
  bytes_parts =
      bytes_append ((shape_of f).stream_pairs * eav_start) (words_from_sav f a) (words_from_eav f a) (length_words_sav f a ∙ omega arith)

  -- every other character k is byte k of the words
  pub char_is_byte :
      (k : ℕ)
      → 4 ≤ k
      → (eav_at (shape_of f) ≤ k → eav_at (shape_of f) + 4 ≤ k)
      → get_or (span_chars f a) k 0 ≡ get_or (bytes (span_words f a)) k 0
  unfolding span_chars chars_from_sav chars_from_eav
  char_is_byte k p q =
      kept_byte content sav_bytes eav_bytes (eav_at (shape_of f)) (length_bytes_sav f a) (omega arith) k p q
      ∙ ap (λ (l : List ℕ). get_or l k 0) (sym bytes_parts)

  -- byte i of pair q
  pub char_at_lem :
      (q i : ℕ)
      → q < pairs_in (shape_of f)
      → i < 3
      → 4 ≤ 3 * q + i
      → (eav_at (shape_of f) ≤ 3 * q + i → eav_at (shape_of f) + 4 ≤ 3 * q + i)
      → get_or (span_chars f a) (3 * q + i) 0
      ≡ get_or (bytes_listed (bytes_of (get_or (span_words f a) (2 * q) 0) (get_or (span_words f a) (2 * q + 1) 0))) i 0
  char_at_lem q i h l p e = char_is_byte (3 * q + i) p e ∙ byte_at_lem (pairs_in (shape_of f)) (span_words f a) (length_words f a) q h i l

  -- each symbol is that of its character, at the disparity that those before it leave
  pub span_symbol_at :
      (d : Disparity) (i : ℕ)
      → i < symbols_in (shape_of f)
      → get_or (span_symbols d f a) i 0 ≡ symbol_of (after_run d (take i (span_chars f a))) (get_or (span_chars f a) i 0)
  unfolding span_symbols
  span_symbol_at d i h = symbol_at_lem d (span_chars f a) i (rw (length_chars f a some) h)

  -- the last character is the last byte of two fill words, and has two forms
  module _ (filled : 1 ≤ (shape_of f).fill_pairs) where
    -- the last word
    last_word : get_or (span_words f a) (2 * (pairs_in (shape_of f) - 1) + 1) 0 ≡ fill_word
    last_word =
        let e :
        2 * (pairs_in (shape_of f) - 1) + 1
        ≡ streams (shape_of f) * (ancillary_start + (shape_of f).ancillary) + (2 * (shape_of f).fill_pairs - 1) = omega arith in
        rw e (fill_word_lem f a (2 * (shape_of f).fill_pairs - 1) (omega arith))

    pub last_char : get_or (span_chars f a) (symbols_in (shape_of f) - 1) 0 ≡ 0x10
    unfolding bytes_of
    last_char =
        let e : symbols_in (shape_of f) - 1 ≡ 3 * (pairs_in (shape_of f) - 1) + 2 = omega arith in
        rw e
        (char_at_lem (pairs_in (shape_of f) - 1) 2 (omega arith) (omega arith) (omega arith) (λ h. omega arith)
        ∙ ap (λ (w : ℕ). w / 16 % 256) last_word)

    pub last_two_forms : TwoForms (get_or (span_chars f a) (symbols_in (shape_of f) - 1) 0)
    last_two_forms = rw last_char two_forms.2
