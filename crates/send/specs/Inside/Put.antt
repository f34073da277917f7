-- What the sender's loops put into the symbol buffer, with the running disparity kept as its offset in the encoder's tables. Only private
-- functions use this. Law `whole_is`: all of it together is the characters of the span.
-- Assumes nothing.
use Rattle.std.specs.Prelude.{◌≡◌, ℕ, zero, suc, ◌+◌, ◌-◌, ◌*◌, ◌/◌, ◌%◌, ◌<◌, true, false, cond, List, [], ◌∷◌, ◌++◌, length, drop, ◌==◌, slice_index, slice_set}
use Rattle.std.proofs.lemmas.List.Edits.{sets}
use Rattle.ground.specs.Written.{upto, table}
use Rattle.symbol.specs.declared.disparity.Disparity.{Disparity}
use Rattle.symbol.specs.declared.special.Special.TheVariants.{K28_5, K29_7}
use Rattle.symbol.specs.Character.{number_of}
use Rattle.symbol.specs.Code.{symbol_of, after_of}
use Rattle.encoder.specs.Inside.Tables.{offset_of, of_offset}
use Rattle.packing.specs.Bytes.{bytes_of}
use Rattle.line.specs.Stream.{v_of, line_after}
use Rattle.crcc.specs.declared.crcc.CrccWords.{CrccWords}
use Rattle.crcc.specs.declared.sums.Sums.{Sums}
use Rattle.crcc.specs.Crcc.{crc, crcc_words}
use Rattle.crcc.specs.Inside.Sums.{sum_in}
use Rattle.row_crc.specs.Inside.Sums.{sums_in}
use Rattle.word.specs.declared.line_number.LineWords.{LineWords}
use Rattle.word.specs.LineNumber.{line_words}
use Rattle.word.specs.Timing.{timing}
use Rattle.span.specs.Content.{Content, content_of}
use Rattle.span.specs.declared.content.ContentBytes.{ContentBytes}
use Rattle.span.specs.declared.format.Format.{Format}
use Rattle.span.specs.declared.format.Shape.{Shape}
use Rattle.span.specs.Encoding.{symbols_from, after_run}
use Rattle.span.specs.Format.{shape_of}
use Rattle.span.specs.Sample.{blank_word}
use Rattle.span.specs.Span.{interleaved, bytes_listed, bytes, fill_word}
use Rattle.send.specs.declared.coder.Coded.{Coded}
use Rattle.send.specs.declared.coder.Three.{Three}
use Rattle.send.specs.declared.picture_words.Passed.{Passed}

-- a character
abbrev pub coded : Disparity → ℕ → Coded
coded e c = record { symbol = symbol_of e c; offset = offset_of (after_of e c) }

-- the offset after a run of characters from an offset on, and the buffer with their symbols put at a place
unfoldable pub offset_after : ℕ → List ℕ → ℕ
unfolding after_run
offset_after d cs = offset_of (after_run (of_offset d) cs)

unfoldable pub put : ℕ → List ℕ → ℕ → List ℕ → List ℕ
unfolding symbols_from
put d cs at out = sets out at (symbols_from (of_offset d) cs)

-- the symbols of three characters
unfoldable pub three_of : Disparity → ℕ → ℕ → ℕ → Three
unfolding symbols_from after_run
three_of e x y z =
    let s = symbols_from e (x ∷ y ∷ z ∷ []) in
    record { first = slice_index s 0; second = slice_index s 1; third = slice_index s 2; offset = offset_of (after_run e (x ∷ y ∷ z ∷ [])) }

-- the characters of a pair of words
abbrev pub pair_chars : ℕ → ℕ → List ℕ
pair_chars a b = bytes_listed (bytes_of a b)

-- the characters of one word of each stream
unfoldable pub group_chars : ℕ → (ℕ → ℕ) → List ℕ
group_chars pairs w = upto pairs (λ u. pair_chars (w (2 * u)) (w (2 * u + 1)))

-- the first two pairs of a timing code, with the special character and the content bytes put in; w is the word of the second pair
abbrev pub sync_chars : ℕ → ℕ → ℕ → ℕ → List ℕ
sync_chars k content1 content2 w =
    let t = bytes_of w w in k ∷ k ∷ content1 ∷ content2 ∷ t.second ∷ t.third ∷ []

-- the word of the second pair of a timing code: FFF on four streams, and on two already 000
abbrev pub second_word : ℕ → ℕ
second_word pairs = cond (pairs == 1) 0x000 0xFFF

-- a timing code of all streams, with the special character and the content bytes put in
unfoldable pub timing_chars : ℕ → ℕ → ℕ → ℕ → ℕ → List ℕ
timing_chars pairs k content1 content2 xyz =
    k ∷ k ∷ content1 ∷ content2 ∷ drop 4 (bytes (interleaved (2 * pairs) 4 (λ t. 0xFFF ∷ 0x000 ∷ 0x000 ∷ xyz ∷ [])))

-- each sample by the factor that makes it a word
unfoldable pub scaled_words : ℕ → List ℕ → List ℕ
scaled_words factor xs = table (length xs) (λ i. slice_index xs i * factor)

-- word j of stream t of the picture
abbrev pub picture_word : List ℕ → ℕ → ℕ → ℕ
picture_word ws t j = slice_index ws (1920 * t + j)

-- the characters of a word of each of two streams, of the first the one at place i
abbrev pub pair_chars_at : List ℕ → ℕ → List ℕ
pair_chars_at ws i = pair_chars (slice_index ws i) (slice_index ws (i + 1920))

-- where pair m of those sent, word by word, has its first word
abbrev pub pair_place : ℕ → ℕ → ℕ
pair_place pairs m = 3840 * (m % pairs) + m / pairs

-- the characters of the first n words of all streams
unfoldable pub picture_chars : ℕ → ℕ → (ℕ → ℕ → ℕ) → List ℕ
picture_chars pairs n w = upto n (λ j. group_chars pairs (λ t. w t j))

-- what is known after the picture: the offset, and the CRC of each stream
abbrev pub passed_at : ℕ → ℕ → List ℕ → Passed
passed_at pairs d ws = record { offset = offset_after d (picture_chars pairs 1920 (picture_word ws)); sums = sums_in ws }

-- what the CRC runs over after the picture: the EAV and the line number
abbrev pub tail_words : ℕ → LineWords → List ℕ
tail_words xyz n = 0xFFF ∷ 0x000 ∷ 0x000 ∷ xyz ∷ n.ln0 ∷ n.ln1 ∷ []

-- the CRCC words of a stream whose picture words leave the CRC c
abbrev pub crcc_after : ℕ → ℕ → LineWords → CrccWords
crcc_after c xyz n = crcc_words (crc c (tail_words xyz n))

-- the characters of the CRCC words of all streams
unfoldable pub crcc_chars : ℕ → Sums → ℕ → LineWords → List ℕ
crcc_chars pairs s xyz n =
    group_chars pairs (λ t. (crcc_after (sum_in s t) xyz n).crcc0) ++ group_chars pairs (λ t. (crcc_after (sum_in s t) xyz n).crcc1)

-- those of EAV, line number and CRCC, for the given next line
unfoldable pub after_picture_chars : ℕ → Sums → ℕ → ContentBytes → List ℕ
after_picture_chars pairs s next content =
    let n = line_words next in
    let xyz = timing (v_of next) true in
    timing_chars pairs (number_of K29_7) content.eav1 content.eav2 xyz
    ++ (group_chars pairs (λ _. n.ln0) ++ (group_chars pairs (λ _. n.ln1) ++ crcc_chars pairs s xyz n))

-- a run of pairs of one word
unfoldable pub run_chars : ℕ → ℕ → List ℕ
run_chars n w = upto n (λ _. pair_chars w w)

-- n symbols from a place on, each of them the one 96 before it
unfoldable pub repeated : ℕ → ℕ → List ℕ → List ℕ
repeated zero from out = out
repeated (suc n) from out = slice_set (repeated n from out) (from + n) (slice_index (repeated n from out) (from + n - 96))

-- the ancillary area, of the blanking word blank, and the fill
abbrev pub blanking_chars : Shape → ℕ → List ℕ
blanking_chars p blank = run_chars (p.stream_pairs * p.ancillary) blank ++ run_chars p.fill_pairs fill_word

-- all parts of the span of line n, where its picture words are ws and the blanking word is blank
unfoldable pub whole_chars : Shape → ℕ → List ℕ → ℕ → ContentBytes → List ℕ
whole_chars p blank ws n content =
    let pairs = p.stream_pairs in
    timing_chars pairs (number_of K28_5) content.sav1 content.sav2 (timing (v_of n) false)
    ++ (picture_chars pairs 1920 (picture_word ws)
    ++ (after_picture_chars pairs (sums_in ws) (line_after n) content
    ++ blanking_chars p blank))

-- those of a span of words
abbrev pub span_put : Format → ℕ → Content → List ℕ → List ℕ
span_put f n content ws = whole_chars (shape_of f) (blank_word f) ws n (content_of f content)

-- a pair of the word leaves each disparity as it was
pub record KeepsDisparity (w : ℕ) : Type 0 where
  pub keeps : (e : Disparity) → after_run e (pair_chars w w) ≡ e

-- each is a word
pub record AreWords (xs : List ℕ) : Type 0 where
  pub below : (i : ℕ) → i < length xs → slice_index xs i < 4096

-- each sample by the factor is one
pub record Fits (factor : ℕ) (xs : List ℕ) : Type 0 where
  pub fits : (i : ℕ) → i < length xs → slice_index xs i * factor < 4096
