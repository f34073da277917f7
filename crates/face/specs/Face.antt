-- What a caller from C has, in numerals, for all numbers: which number is which refusal, and each field of each answer. With the demands
-- it says what the exported calls do; `proofs/Face` proves each.
-- Assumes nothing.
use Rattle.std.specs.Prelude.{ℕ, ◌+◌, ◌*◌, ◌≤◌, ◌<◌, ◌≡◌, Bool, true, false, List, [], ◌∷◌, sum, length, get_or, take, drop}
use Rattle.std.proofs.Math.Option.{none, some}
use Rattle.ground.specs.Answer.{given}
use Rattle.ground.specs.Bit.{inverted}
use Rattle.boundary.specs.declared.numbers.FormatNumbers.{FormatNumbers}
use Rattle.boundary.specs.declared.numbers.PictureLineNumber.{PictureLineNumber}
use Rattle.boundary.specs.declared.numbers.SendRequest.{SendRequest}
use Rattle.boundary.specs.declared.numbers.StreamLineNumber.{StreamLineNumber}
use Rattle.boundary.specs.Numbers.{format_given}
use Rattle.boundary.specs.Laws.{Says, BoundaryLaws}
use Rattle.span_answers.specs.Laws.{AreValues, SaysNothing}
use Rattle.symbol.specs.declared.disparity.Disparity.{Disparity}
use Rattle.symbol.specs.declared.disparity.Disparity.TheVariants.{Negative, Positive}
use Rattle.symbol.specs.Code.{symbol_of, after_of}
use Rattle.word.specs.LineNumber.{ln0, ln1}
use Rattle.word.specs.Repair.{repair_of}
use Rattle.word.specs.Timing.{timing}
use Rattle.word.specs.declared.repair.Repaired.{Repaired}
use Rattle.crcc.specs.Crcc.{crcc_words, crcc_of}
use Rattle.dividing.specs.Row.{divided, joined, split_of, join_of}
use Rattle.picture.specs.Division.{line_from, sample_from}
use Rattle.std.specs.Prelude.{None as NoneNamed, Some as Named}
use Rattle.span.specs.declared.content.ContentBytes.{ContentBytes}
use Rattle.span.specs.Blanking.{fill_of, blank_row}
use Rattle.span.specs.Format.{shape_of, streams, symbols_in}
use Rattle.span.specs.Stream.{Request}
use Rattle.span.specs.declared.format.Format.{Format}
use Rattle.span.specs.Numbers.{IsFormat, Symbols, Samples}
use Rattle.span.specs.Span.{span_symbols, span_after}
use Rattle.request.specs.Send.{request}
use Rattle.way_back.specs.declared.back.ImageLine.{ImageLine}
use Rattle.way_back.specs.Back.{back_of}
use Rattle.window.specs.declared.delivery.Delivery.{Delivery}
use Rattle.window.specs.Read.{judge_of, read_of, picture_of}
use Rattle.recording.specs.declared.answer.Spanned.{Spanned}
use Rattle.recording.specs.Call.{find_of, next_of, after_next}
use Rattle.span_answers.specs.declared.spans.SendAnswer.{SendAnswer}
use Rattle.span_answers.specs.declared.spans.Values.{Values}
use Rattle.demands.specs.Form.{Refusal, rule, Lent, Rows}
use Rattle.demands.specs.Rules.{repair_rules, read_line_words_rules, crcc_rules, back_rules, split_rules, join_rules, fill_rules, send_rules, judge_rules, read_rules, find_rules, next_rules}
use Rattle.face.specs.Refusals.{RefusalNumbers}
use Rattle.face.specs.Calls.{decode·answer, encode·answer, line_words·answer, read_line_words·answer, repair·answer, crcc·answer, place·answer, way_back·answer, split·answer, split·first, split·second, join·answer, join·row, carries_picture·answer, lengths·answer, send·answer, send·symbols, version·answer, fill_blanking·answer, fill_blanking·row, read·answer, read·rows, judge·answer, find·answer, next·answer, next·rows}

-- ---- the number and the place of an answer

-- by the rows of the table of refusals, in the order tried: those of the first that the call is not good for; 0 and 0 if it is good for all
abbrev pub Told : ℕ → ℕ → List Refusal → Type 0
Told number place [] = (number ≡ 0) × (place ≡ 0)
Told number place (x ∷ xs) = ((x.good → ⊥) → (number ≡ x.number) × x.place place) × (x.good → Told number place xs)

-- what the sender is asked for, from a disparity: with no content bytes named, whatever stands in their place, and with these
abbrev pub unnamed : StreamLineNumber → Bool → ContentBytes → SendRequest
unnamed line positive content = record { line = line; positive = positive; named = false; content = content }

abbrev pub naming : StreamLineNumber → Bool → ContentBytes → SendRequest
naming line positive content = record { line = line; positive = positive; named = true; content = content }

-- a call of the sender, its answer, the buffer that was lent, and the buffer afterwards: the span and the disparity after it if the answer is
-- 0, else the buffer as it was
pub record SentFrom (d : Disparity) (f : Format) (a : Request) (answer : SendAnswer) (entry exit : List ℕ) : Type 0 where
  pub put : answer.number ≡ 0 → exit ≡ span_symbols d f a
  pub after : answer.number ≡ 0 → Says answer.positive_after (span_after d f a)
  pub untouched : (answer.number ≡ 0 → ⊥) → exit ≡ entry

-- the repairs of the twelve bits of a delivery are together all its repairs
abbrev pub AddUp : Values → Type 0
AddUp v =
    sum v.repairs_of_bit ≡ v.repairs

-- symbol i is the symbol of byte c, at one of the two disparities
abbrev pub Stands : List ℕ → ℕ → ℕ → Type 0
Stands r i c = (d : Disparity) × (get_or r i 0 ≡ symbol_of d c)

pub record Face : Type 1 where
  pub crossing : BoundaryLaws
  -- the interface that the header's number is compared with: 3, and in it release 0
  pub version : version·answer ≡ 4 * 65536 + 0
  -- which number is which refusal, by the names that the library's answers have
  pub refusals : RefusalNumbers
  -- ---- the code: true is positive, a character is its number
  pub decode_negative : (c : ℕ) → c < 268 → (decode·answer false (symbol_of Negative c)).character ≡ c
  pub decode_positive : (c : ℕ) → c < 268 → (decode·answer true (symbol_of Positive c)).character ≡ c
  pub decode_after : (c : ℕ) → c < 268 → Says (decode·answer false (symbol_of Negative c)).positive_after (after_of Negative c)
  pub decode_after_positive : (c : ℕ) → c < 268 → Says (decode·answer true (symbol_of Positive c)).positive_after (after_of Positive c)
  pub decode_told :
      (symbol : ℕ)
      → Told (decode·answer false symbol).number 0 (rule 7 (symbol ≤ 1023) ∷ rule 20 ((c : ℕ) × (c < 268) × (symbol_of Negative c ≡ symbol)) ∷ [])
  pub decode_told_positive :
      (symbol : ℕ)
      → Told (decode·answer true symbol).number 0 (rule 7 (symbol ≤ 1023) ∷ rule 20 ((c : ℕ) × (c < 268) × (symbol_of Positive c ≡ symbol)) ∷ [])
  pub encode_negative :
      (c : ℕ) → c < 268 → ((encode·answer false c).known ≡ true) × ((encode·answer false c).symbol ≡ symbol_of Negative c)
  pub encode_positive :
      (c : ℕ) → c < 268 → ((encode·answer true c).known ≡ true) × ((encode·answer true c).symbol ≡ symbol_of Positive c)
  pub encode_after :
      (c : ℕ)
      → c < 268
      → Says (encode·answer false c).positive_after (after_of Negative c) × Says (encode·answer true c).positive_after (after_of Positive c)
  pub encode_none : (positive : Bool) (c : ℕ) → 268 ≤ c → (encode·answer positive c).known ≡ false
  -- ---- words
  pub line_words_told :
      (line : StreamLineNumber)
      → Told (line_words·answer line).number 0 (rule 2 ((1 ≤ line.number) × (line.number ≤ 1125)) ∷ [])
  pub line_words :
      (line : StreamLineNumber)
      → 1 ≤ line.number
      → line.number ≤ 1125
      → ((line_words·answer line).ln0 ≡ ln0 line.number) × ((line_words·answer line).ln1 ≡ ln1 line.number)
  pub read_line_words_told : (a b : ℕ) → Told (read_line_words·answer a b).number 0 (read_line_words_rules a b)
  pub read_line_words : (line : ℕ) → 1 ≤ line → line ≤ 1125 → (read_line_words·answer (ln0 line) (ln1 line)).line.number ≡ line
  pub repair_told : (word : ℕ) → Told (repair·answer word).number 0 (repair_rules word)
  pub repair :
      (word : ℕ) (r : Repaired)
      → repair_of word ≡ given r
      → ((repair·answer word).word ≡ r.word) × ((repair·answer word).distance ≡ r.distance)
  -- the bit, from 0 to 11: inverted in the given word it gives the answered word; and 12 where none was wrong, and in every refusal
  pub repair_right : (v h : Bool) → repair·answer (timing v h) ≡ record { number = 0; word = timing v h; distance = 0; bit = 12 }
  pub repair_wrong :
      (v h : Bool) (k : ℕ)
      → k < 12
      → repair·answer (inverted k (timing v h)) ≡ record { number = 0; word = timing v h; distance = 1; bit = k }
  pub repair_bit :
      (word : ℕ)
      → (repair·answer word).number ≡ 0
      → (repair·answer word).bit < 12
      → inverted (repair·answer word).bit word ≡ (repair·answer word).word
  pub repair_no_bit :
      (word : ℕ) → (repair·answer word).number ≡ 0 → 12 ≤ (repair·answer word).bit → word ≡ (repair·answer word).word
  pub repair_refused : (word : ℕ) → ((repair·answer word).number ≡ 0 → ⊥) → (repair·answer word).bit ≡ 12
  pub crcc_told : (words : List ℕ) → Told (crcc·answer words).number 0 (crcc_rules words)
  pub crcc :
      (words : List ℕ) (c : ℕ)
      → crcc_of words ≡ given c
      → ((crcc·answer words).crc ≡ c)
      × ((crcc·answer words).crcc0 ≡ (crcc_words c).crcc0)
      × ((crcc·answer words).crcc1 ≡ (crcc_words c).crcc1)
  -- ---- pictures
  pub place_told :
      (line : PictureLineNumber) (sample : ℕ)
      → Told (place·answer line sample).number 0 (rule 2 ((1 ≤ line.number) × (line.number ≤ 2160) × (sample ≤ 3839)) ∷ [])
  pub place :
      (u l j : ℕ)
      → 1 ≤ u
      → u ≤ 4
      → 1 ≤ l
      → l ≤ 1080
      → j ≤ 1919
      → let a = place·answer (record { number = line_from u l }) (sample_from u j) in
      (a.image ≡ u) × (a.image_line ≡ l) × (a.stream_line.number ≡ l + 41) × (a.sample ≡ j)
  pub way_back_told :
      (format : FormatNumbers) (link stream : ℕ) (line : StreamLineNumber)
      → Told (way_back·answer format link stream line).number 0 (back_rules (format_given format) link stream line.number)
  pub way_back :
      (format : FormatNumbers) (link stream : ℕ) (line : StreamLineNumber) (x : ImageLine)
      → back_of (format_given format) link stream line.number ≡ given x
      → let a = way_back·answer format link stream line in
      (a.image ≡ x.image) × (a.line.number ≡ x.line.0)
  pub split_told : (row first second : List ℕ) → Told (split·answer row first second) 0 (split_rules row first second)
  pub split_lent :
      (row first second : List ℕ)
      → Lent (split_of row first second) first (divided 0 1920 row) (split·first row first second)
      × Lent (split_of row first second) second (divided 1 1920 row) (split·second row first second)
  pub join_told : (first second row : List ℕ) → Told (join·answer first second row) 0 (join_rules first second row)
  pub join_lent :
      (first second row : List ℕ) → Lent (join_of first second row) row (joined 1920 first second) (join·row first second row)
  pub carries_picture : (line : StreamLineNumber) → 42 ≤ line.number → line.number ≤ 1121 → carries_picture·answer line ≡ true
  pub carries_blanking :
      (line : StreamLineNumber) → (42 ≤ line.number → line.number ≤ 1121 → ⊥) → carries_picture·answer line ≡ false
  -- ---- one span
  pub lengths_told : (format : FormatNumbers) → Told (lengths·answer format).number 0 (rule 1 (IsFormat (format_given format)) ∷ [])
  pub lengths :
      (format : FormatNumbers)
      → IsFormat (format_given format)
      → Samples (format_given format) (lengths·answer format).samples
      × Symbols (format_given format) (lengths·answer format).symbols
  -- the sender, asked with no content bytes named and with content bytes named
  pub send_told :
      (format : FormatNumbers) (line : StreamLineNumber) (positive : Bool) (content : ContentBytes) (samples symbols : List ℕ)
      → let a = send·answer format (unnamed line positive content) samples symbols in
      Told a.number a.place (send_rules (format_given format) (request line.number NoneNamed samples) (length symbols))
  pub send_named_told :
      (format : FormatNumbers) (line : StreamLineNumber) (positive : Bool) (content : ContentBytes) (samples symbols : List ℕ)
      → let a = send·answer format (naming line positive content) samples symbols in
      Told a.number a.place (send_rules (format_given format) (request line.number (Named content) samples) (length symbols))
  -- what is sent, from negative disparity where false is given and from positive where true is, and the disparity after it
  pub sent :
      (format : FormatNumbers) (line : StreamLineNumber) (content : ContentBytes) (samples symbols : List ℕ)
      → let f = format_given format in
      let a = request line.number NoneNamed samples in
      let negative = unnamed line false content in
      let positive = unnamed line true content in
      SentFrom Negative f a (send·answer format negative samples symbols) symbols (send·symbols format negative samples symbols)
      × SentFrom Positive f a (send·answer format positive samples symbols) symbols (send·symbols format positive samples symbols)
  pub sent_named :
      (format : FormatNumbers) (line : StreamLineNumber) (content : ContentBytes) (samples symbols : List ℕ)
      → let f = format_given format in
      let a = request line.number (Named content) samples in
      let negative = naming line false content in
      let positive = naming line true content in
      SentFrom Negative f a (send·answer format negative samples symbols) symbols (send·symbols format negative samples symbols)
      × SentFrom Positive f a (send·answer format positive samples symbols) symbols (send·symbols format positive samples symbols)
  -- the content bytes that are named: SAV 1 and 2 at symbols 2 and 3, EAV 1 and 2 at 2886s + 2 and 2886s + 3
  pub content_sent :
      (format : FormatNumbers) (line : StreamLineNumber) (positive : Bool) (content : ContentBytes) (samples symbols : List ℕ)
      → let asked = naming line positive content in
      (send·answer format asked samples symbols).number ≡ 0
      → let r = send·symbols format asked samples symbols in
      let k = 2886 * streams (shape_of (format_given format)) in
      Stands r 2 content.sav1 × Stands r 3 content.sav2 × Stands r (k + 2) content.eav1 × Stands r (k + 3) content.eav2
  pub fill_blanking_told :
      (format : FormatNumbers) (row : List ℕ) → Told (fill_blanking·answer format row) 0 (fill_rules (format_given format) (length row))
  pub fill_blanking_lent :
      (format : FormatNumbers) (row : List ℕ)
      → Lent (fill_of (format_given format) row) row (blank_row (format_given format)) (fill_blanking·row format row)
  pub read_told :
      (format : FormatNumbers) (symbols rows : List ℕ)
      → let a = read·answer format symbols rows in
      Told a.number a.place (read_rules (format_given format) symbols (length rows))
  pub read_lent :
      (format : FormatNumbers) (symbols rows : List ℕ)
      → let f = format_given format in
      Rows (read_of f symbols (length rows)) rows (picture_of f symbols) (read·rows format symbols rows)
  pub read :
      (format : FormatNumbers) (symbols rows : List ℕ) (d : Delivery)
      → read_of (format_given format) symbols (length rows) ≡ given d
      → AreValues (read·answer format symbols rows).delivery d × AddUp (read·answer format symbols rows).delivery
  -- a refusal says nothing of a span, and no repair of any bit
  pub read_nothing :
      (format : FormatNumbers) (symbols rows : List ℕ)
      → ((read·answer format symbols rows).number ≡ 0 → ⊥)
      → SaysNothing (read·answer format symbols rows).delivery
  pub judge_nothing :
      (format : FormatNumbers) (symbols : List ℕ)
      → ((judge·answer format symbols).number ≡ 0 → ⊥)
      → SaysNothing (judge·answer format symbols).delivery
  pub judge_told :
      (format : FormatNumbers) (symbols : List ℕ)
      → let a = judge·answer format symbols in
      Told a.number a.place (judge_rules (format_given format) symbols)
  pub judge :
      (format : FormatNumbers) (symbols : List ℕ) (d : Delivery)
      → judge_of (format_given format) symbols ≡ given d
      → AreValues (judge·answer format symbols).delivery d × AddUp (judge·answer format symbols).delivery
  -- ---- recordings: whether there is a span is `found`, since place 0 is a place
  pub find_told :
      (format : FormatNumbers) (symbols : List ℕ) (start : ℕ)
      → Told (find·answer format symbols start).number 0 (find_rules (format_given format) symbols start)
  pub find_at :
      (format : FormatNumbers) (symbols : List ℕ) (start place : ℕ)
      → find_of (format_given format) symbols start ≡ given (some place)
      → ((find·answer format symbols start).found ≡ true) × ((find·answer format symbols start).place ≡ place)
  pub find_none :
      (format : FormatNumbers) (symbols : List ℕ) (start : ℕ)
      → find_of (format_given format) symbols start ≡ given none
      → (find·answer format symbols start).found ≡ false
  pub next_told :
      (format : FormatNumbers) (symbols : List ℕ) (start : ℕ) (rows : List ℕ)
      → Told (next·answer format symbols start rows).number 0 (next_rules (format_given format) symbols start (length rows))
  pub next_at :
      (format : FormatNumbers) (symbols : List ℕ) (start : ℕ) (rows : List ℕ) (s : Spanned)
      → let f = format_given format in
      let a = next·answer format symbols start rows in
      next_of f symbols start (length rows) ≡ given (some s)
      → (a.found ≡ true) × (a.place ≡ s.place) × AreValues a.delivery s.delivery × AddUp a.delivery
  pub next_none :
      (format : FormatNumbers) (symbols : List ℕ) (start : ℕ) (rows : List ℕ)
      → next_of (format_given format) symbols start (length rows) ≡ given none
      → (next·answer format symbols start rows).found ≡ false
  pub next_nothing :
      (format : FormatNumbers) (symbols : List ℕ) (start : ℕ) (rows : List ℕ)
      → (next·answer format symbols start rows).found ≡ false
      → SaysNothing (next·answer format symbols start rows).delivery
  -- with what to keep of a link that goes on: everything from the start on, or the last symbols, one fewer than a span has, if they are fewer
  pub next_kept :
      (format : FormatNumbers) (symbols : List ℕ) (start : ℕ) (rows : List ℕ) (n : ℕ)
      → next_of (format_given format) symbols start (length rows) ≡ given none
      → Symbols (format_given format) n
      → let a = next·answer format symbols start rows in
      (length symbols + 1 ≤ start + n → a.resume ≡ start) × (start + n ≤ length symbols + 1 → a.resume + n ≡ length symbols + 1)
  -- the rows: the picture of the span, else as they were
  pub next_rows :
      (format : FormatNumbers) (symbols : List ℕ) (start : ℕ) (rows : List ℕ)
      → let f = format_given format in
      let a = next·answer format symbols start rows in
      (a.found ≡ true → next·rows format symbols start rows ≡ picture_of f (take (symbols_in (shape_of f)) (drop a.place symbols)))
      × (a.found ≡ false → next·rows format symbols start rows ≡ rows)
  pub next_resume :
      (format : FormatNumbers) (symbols : List ℕ) (start : ℕ) (rows : List ℕ)
      → (next·answer format symbols start rows).resume ≡ after_next (format_given format) symbols start (length rows)
