-- The customer's three demands, in their order, and what is proved beyond them. Each is a proposition about the definitions that the
-- contracts of the public calls name, so that what is proved of these is promised of the calls. `proofs/Demands` proves each.
-- Assumes nothing.
use Rattle.std.specs.Prelude.{ℕ, ◌+◌, ◌-◌, ◌*◌, ◌/◌, ◌%◌, ◌≤◌, ◌<◌, ◌≡◌, Bool, true, false, List, [], ◌∷◌, ◌++◌, map, length, get_or, take, drop, replicate}
use Rattle.std.proofs.Math.Option.{none, some}
use Rattle.ground.specs.Answer.{refused, given}
use Rattle.ground.specs.Bit.{inverted}
use Rattle.ground.specs.Written.{table}
use Rattle.symbol.specs.declared.disparity.Disparity.{Disparity}
use Rattle.symbol.specs.Character.{character_of}
use Rattle.symbol.specs.Paper.{SymbolPaper}
use Rattle.decoder.specs.Paper.{DecoderPaper}
use Rattle.line.specs.Paper.{LinePaper}
use Rattle.picture.specs.Paper.{PicturePaper}
use Rattle.dividing.specs.Paper.{DividingPaper}
use Rattle.word.specs.Paper.{WordPaper}
use Rattle.crcc.specs.Paper.{CrccPaper}
use Rattle.packing.specs.Paper.{PackingPaper}
use Rattle.span.specs.Paper.{word_of, SpanPaper}
use Rattle.symbol.specs.Code.{symbol_of, after_of}
use Rattle.decoder.specs.Decode.{decode_of}
use Rattle.decoder.specs.Meaning.{meaning_of}
use Rattle.packing.specs.Bytes.{packed_of}
use Rattle.crcc.specs.Crcc.{crcc_words, crcc_of}
use Rattle.std.specs.Prelude.{Some}
use Rattle.word.specs.LineNumber.{numbered_of, named_of}
use Rattle.word.specs.Repair.{repair_of}
use Rattle.word.specs.Timing.{timing}
use Rattle.picture.specs.Division.{line_from, sample_from}
use Rattle.picture.specs.Place.{placed_of}
use Rattle.dividing.specs.Row.{divided, joined, split_of, split_first, split_second, join_of, join_row, stream_in}
use Rattle.span.specs.Content.{Content, content_of}
use Rattle.span.specs.declared.content.ContentBytes.{ContentBytes}
use Rattle.span.specs.declared.format.Format.{Format}
use Rattle.span.specs.Encoding.{after_run}
use Rattle.span.specs.Format.{shape_of, streams, pairs_in, symbols_in}
use Rattle.span.specs.Image.{image_of}
use Rattle.span.specs.Length.{lengths_of}
use Rattle.span.specs.Span.{span_words, span_symbols, span_after}
use Rattle.span.specs.Stream.{Request}
use Rattle.span.specs.Numbers.{IsFormat, Symbols, Samples, Blank}
use Rattle.way_back.specs.Back.{back_of}
use Rattle.way_back.specs.Paper.{WayBackPaper}
use Rattle.way_back.specs.Undone.{Undone}
use Rattle.window.specs.declared.delivery.Delivery.{Delivery}
use Rattle.window.specs.Paper.{word_of_window, WindowPaper}
use Rattle.window.specs.Encoded.{request_of, chars_of, AreContent, Encodes, IsXyz, Disturbed, wrong_at, wrong_bit_at}
use Rattle.window.specs.Read.{repairs_of, picture_of, read_span, judge_of, read_of, rows_read}
use Rattle.window.specs.Tests.{sum_of}
use Rattle.delivery.specs.Delivery.{Found, found_from, moved_by, concatenated, placed_from, Each}
use Rattle.delivery.specs.Paper.{DeliveryPaper}
use Rattle.delivery.specs.Marked.{AllAfter}
use Rattle.recording.specs.declared.answer.Spanned.{Spanned}
use Rattle.recording.specs.Call.{find_of, next_of, after_next, rows_next}
use Rattle.recording.specs.Paper.{RecordingPaper}
use Rattle.recording.specs.Recording.{limit, Reading, reading, accepts, delivery_from}
use Rattle.recording.specs.Steps.{run_from, span_step, end_step, last_rows}
use Rattle.span.specs.Blanking.{fill_of, blank_row, filled_row}
use Rattle.request.specs.Send.{request, send_of, sent_buffer}
use Rattle.demands.specs.Rules.{meaning_rules, decode_rules, repair_rules, line_words_rules, read_line_words_rules, crcc_rules, pack_rules, place_rules, back_rules, split_rules, join_rules, lengths_rules, fill_rules, send_rules, judge_rules, read_rules, find_rules, next_rules}
use Rattle.demands.specs.Form.{Tried, Lent, Rows, Sending, WasSent, sent_symbols, with_wrong_bit, reading_of, steps_from, DeliveredFrom, Delivered, words_for}

-- ==== 1 ====

-- Every public call ends with a defined answer for all input. A bad call, and no good one, returns its refusal number, that of the first
-- rule of the table that applies, and touches no lent buffer; a refused span returns its number and place and leaves its rows all zero.
-- What is good is stated in document 01's own numbers (`Rules`). These are all calls of the library that refuse. The others refuse nothing:
-- the disparity before a fresh signal, encoding a character, the tables, a timing word, the line on which a line travels and back, the CRCC
-- words of a register, three bytes as words, the choice between two rows, and making a reader of a recording and asking its place. What the
-- programs are made of (the test picture, the link with a plug, the receiving end) refuses by its own contracts, as these calls do.
pub record Demand1 : Type 0 where
  -- the meaning of a symbol: 7
  pub meaning : (s : ℕ) → Tried (meaning_of s) (meaning_rules s)
  -- one symbol decoded at a disparity: 7, 20
  pub decode : (d : Disparity) (s : ℕ) → Tried (decode_of d s) (decode_rules d s)
  -- repair of a timing word: 7, 8
  pub repair : (w : ℕ) → Tried (repair_of w) (repair_rules w)
  -- the words of a line: 2
  pub line_words : (n : ℕ) → Tried (numbered_of n) (line_words_rules n)
  -- the line of two words: 7, 22
  pub read_line_words : (a b : ℕ) → Tried (named_of a b) (read_line_words_rules a b)
  -- the CRCC of a run of words: 7
  pub crcc : (ws : List ℕ) → Tried (crcc_of ws) (crcc_rules ws)
  -- two words as three bytes: 7
  pub pack : (a b : ℕ) → Tried (packed_of a b) (pack_rules a b)
  -- the place of a sample: 2
  pub place : (line sample : ℕ) → Tried (placed_of line sample) (place_rules line sample)
  -- the way back to the picture: 1, 2
  pub back : (f : Format) (link stream n : ℕ) → Tried (back_of f link stream n) (back_rules f link stream n)
  -- dividing a row: 3, 4
  pub split :
      (whole first second : List ℕ)
      → Tried (split_of whole first second) (split_rules whole first second)
      × Lent (split_of whole first second) first (divided 0 1920 whole) (split_first whole first second)
      × Lent (split_of whole first second) second (divided 1 1920 whole) (split_second whole first second)
  -- joining two: 3, 4
  pub join :
      (first second whole : List ℕ)
      → Tried (join_of first second whole) (join_rules first second whole)
      × Lent (join_of first second whole) whole (joined 1920 first second) (join_row first second whole)
  -- the lengths of a format: 1
  pub lengths : (f : Format) → Tried (lengths_of f) (lengths_rules f)
  -- a row filled with blanking: 1, 4
  pub fill :
      (f : Format) (entry : List ℕ)
      → Tried (fill_of f entry) (fill_rules f (length entry))
      × Lent (fill_of f entry) entry (blank_row f) (filled_row f entry)
  -- sending a span: 1, 2, 3, 4, 6 with the first index
  pub send :
      (d : Disparity) (f : Format) (a : Request) (entry : List ℕ)
      → Tried (send_of d f a (length entry)) (send_rules f a (length entry))
      × Lent (send_of d f a (length entry)) entry (span_symbols d f a) (sent_buffer d f a entry)
  -- judging a span: 1, 3, 20 to 26
  pub judge : (f : Format) (w : List ℕ) → Tried (judge_of f w) (judge_rules f w)
  -- reading it: 1, 3, 4, 20 to 26
  pub read :
      (f : Format) (w entry : List ℕ)
      → Tried (read_of f w (length entry)) (read_rules f w (length entry))
      × Rows (read_of f w (length entry)) entry (picture_of f w) (rows_read f w entry)
  -- finding a span: 1, 3, 5
  pub find : (f : Format) (r : List ℕ) (start : ℕ) → Tried (find_of f r start) (find_rules f r start)
  -- the next span, and a step of the stepping reader, which answers it from the reader's place: 1, 3, 4, 5; the rows are touched only if a
  -- span is delivered, and a refused call leaves the place
  pub next :
      (f : Format) (r : List ℕ) (start : ℕ) (entry : List ℕ)
      → Tried (next_of f r start (length entry)) (next_rules f r start (length entry))
  pub next_refused :
      (f : Format) (r : List ℕ) (start : ℕ) (entry : List ℕ) (number place : ℕ)
      → next_of f r start (length entry) ≡ refused number place
      → (rows_next f r start entry ≡ entry) × (after_next f r start (length entry) ≡ start)
  -- if there is none, the place is the start, or that of the last symbols, one fewer than a span has, if it is further on (`Live` says why)
  pub next_none :
      (f : Format) (r : List ℕ) (start : ℕ) (entry : List ℕ)
      → next_of f r start (length entry) ≡ given none
      → let n = symbols_in (shape_of f) in
      (rows_next f r start entry ≡ entry)
      × (length r + 1 ≤ start + n → after_next f r start (length entry) ≡ start)
      × (start + n ≤ length r + 1 → after_next f r start (length entry) + n ≡ length r + 1)
  pub next_some :
      (f : Format) (r : List ℕ) (start : ℕ) (entry : List ℕ) (s : Spanned)
      → next_of f r start (length entry) ≡ given (some s)
      → (rows_next f r start entry ≡ picture_of f (take (symbols_in (shape_of f)) (drop s.place r)))
      × (after_next f r start (length entry) ≡ s.place + symbols_in (shape_of f))

-- ==== 2 ====

-- a row of the picture: 3840 samples, each of which may be sent at the depth
pub record IsRow (f : Format) (whole : List ℕ) : Type 0 where
  pub long : length whole ≡ 3840
  pub ten : f.depth ≡ 10 → (i : ℕ) → i < 3840 → (4 ≤ get_or whole i 0) × (get_or whole i 0 ≤ 1019)
  pub twelve : f.depth ≡ 12 → (i : ℕ) → i < 3840 → (16 ≤ get_or whole i 0) × (get_or whole i 0 ≤ 4079)

-- a span of these samples, sent on stream line l + 41, is not refused; wherever it is whole in a recording it is delivered, with that line
-- and these words
pub record Delivers (f : Format) (l : ℕ) (content : Content) (samples words : List ℕ) : Type 0 where
  pub sent :
      (d : Disparity) (entry : List ℕ)
      → Symbols f (length entry)
      → send_of d f (request (l + 41) content samples) (length entry) ≡ given (span_after d f (request (l + 41) content samples))
  pub found :
      (d : Disparity) (before entry after : List ℕ)
      → Symbols f (length entry)
      → let r = before ++ (sent_buffer d f (request (l + 41) content samples) entry ++ after) in
      length r ≤ limit
      → (v : Delivery)
      × (v.line.0 ≡ l + 41)
      × (earlier : List (Found Reading))
      × (later : List (Found Reading))
      × Delivered f r (earlier ++ (record { place = length before; reading = record { values = v; words = words } } ∷ later))

-- What is sent is, symbol for symbol, the standard; what is received is read by the same rules, down to the repair of one wrong bit in a
-- timing word and the refusal of two. Dividing and joining a picture puts each sample back.
pub record Demand2 : Type 1 where
  -- the definitions have the papers' own numerals: the published symbols and what each means, the lines, document 01's values of words, the
  -- CRCC by long division, ABC and DEF as BC FA DE, how a picture is divided, and which word, character and symbol stands at each place of a
  -- span. The fault by which a recital was lost stands in `words` and `windows`: `recital`.
  pub published : SymbolPaper
  pub meanings : DecoderPaper
  pub lines : LinePaper
  pub words : WordPaper
  pub crcc : CrccPaper
  pub packing : PackingPaper
  pub pictures : PicturePaper
  pub ways_back : WayBackPaper
  pub rows : DividingPaper
  pub spans : SpanPaper
  -- a character's symbol is decoded to that character
  pub code :
      (d : Disparity) (c : ℕ)
      → c < 268
      → decode_of d (symbol_of d c) ≡ given (record { character = character_of c; after = after_of d c })
  -- the symbols sent are those of the standard, as `span/specs` writes them down from 004
  pub sent :
      (d e : Disparity) (f : Format) (a : Request) (entry : List ℕ)
      → send_of d f a (length entry) ≡ given e
      → (sent_buffer d f a entry ≡ span_symbols d f a) × (e ≡ span_after d f a)
  -- the CRCC words of a stream are what the call answers for the 1,926 words before them, from the first after the SAV on
  pub crcc_call :
      (f : Format) (x : Sending) (t : ℕ)
      → WasSent f x
      → t < streams (shape_of f)
      → (c : ℕ)
      × (crcc_of (table 1926 (λ i. word_of f x.asked (4 + i) t)) ≡ given c)
      × (word_of f x.asked 1930 t ≡ (crcc_words c).crcc0)
      × (word_of f x.asked 1931 t ≡ (crcc_words c).crcc1)
  -- what was sent is an encoding of its words, with its content bytes put in
  pub encodes :
      (f : Format) (x : Sending)
      → WasSent f x
      → Encodes f (sent_symbols f x) x.before (content_of f x.asked.content) (span_words f x.asked)
  -- what was sent is read as it was sent
  pub back :
      (f : Format) (x : Sending)
      → WasSent f x
      → (read_span f (sent_symbols f x) ≡ given (reading_of f x).values)
      × (picture_of f (sent_symbols f x) ≡ (reading_of f x).words)
  -- what is read are exactly the encodings of words that meet rules 21 to 26, whoever made them, and how; every window that is read has the
  -- words of the span sent for its answer, but for one wrong bit in an XYZ and the ancillary area
  pub windows : WindowPaper
  -- and where its XYZ and its ancillary and blanking areas are as we send them, the answer may be sent, and is sent as the same window
  pub sent_again :
      (f : Format) (w : List ℕ) (r : Delivery)
      → IsFormat f
      → Symbols f (length w)
      → read_span f w ≡ given r
      → let word = word_of_window f w in
      r.repairs.count ≡ 0
      → ((j t : ℕ) → 1932 ≤ j → j < 1932 + (shape_of f).ancillary → t < streams (shape_of f) → Blank f (word j t))
      → ((42 ≤ r.line.0 → r.line.0 ≤ 1121 → ⊥) → (j t : ℕ) → 4 ≤ j → j < 1924 → t < streams (shape_of f) → Blank f (word j t))
      → let a = request_of f r (picture_of f w) in
      (send_of r.before f a (length w) ≡ given r.after) × (w ≡ span_symbols r.before f a)
  -- one wrong bit of a timing word is repaired, and its number told; two are refused: by the single call, and in a span at the first such
  -- word (`windows`);
  pub one_wrong :
      (v h : Bool) (k : ℕ) → k < 12 → repair_of (inverted k (timing v h)) ≡ given (record { word = timing v h; distance = 1; bit = Some k })
  pub two_wrong : (v h : Bool) (j k : ℕ) → j < k → k < 12 → repair_of (inverted j (inverted k (timing v h))) ≡ refused 8 0
  -- in a span, where at most one bit of each is wrong: all is read as it was sent, the repairs are the sum of the distances, and those of
  -- each bit the number of timing words that differ in it from the words sent,
  pub repaired :
      (f : Format) (x : Sending)
      → WasSent f x
      → (words : List ℕ)
      → Disturbed f x.asked words
      → ((k : ℕ) → k < 2 * pairs_in (shape_of f) → IsXyz (k / streams (shape_of f)) → wrong_at f x.asked words k ≤ 1)
      → (w : List ℕ) (d : Disparity) (c : ContentBytes)
      → Encodes f w d c words
      → let s = streams (shape_of f) in
      (read_span f w
      ≡ given (record {
        line = record { 0 = x.asked.line };
        content = c;
        before = d;
        after = after_run d (chars_of (shape_of f) c words);
        repairs =
            repairs_of (sum_of s (λ t. wrong_at f x.asked words (s * 3 + t) + wrong_at f x.asked words (s * 1927 + t)))
            (λ b. sum_of s (λ t. wrong_bit_at f x.asked words b (s * 3 + t) + wrong_bit_at f x.asked words b (s * 1927 + t)));
      }))
      × (picture_of f w ≡ (reading_of f x).words)
  -- joining what was divided gives the row, and dividing what was joined gives the two rows
  pub join_split : (whole : List ℕ) → length whole ≡ 3840 → joined 1920 (divided 0 1920 whole) (divided 1 1920 whole) ≡ whole
  pub split_join :
      (first second : List ℕ)
      → length first ≡ 1920
      → length second ≡ 1920
      → (divided 0 1920 (joined 1920 first second) ≡ first) × (divided 1 1920 (joined 1920 first second) ≡ second)
  -- place and way back undo each other, on whichever link and stream a sample travels
  pub undone : Undone
  -- each sample goes where the place call says
  pub places :
      (whole : List ℕ) (u l j : ℕ)
      → 1 ≤ u
      → u ≤ 4
      → 1 ≤ l
      → l ≤ 1080
      → j ≤ 1919
      → (placed_of (line_from u l) (sample_from u j)
      ≡ given (record { image = u; line = record { 0 = l }; stream = record { 0 = l + 41 }; sample = j }))
      × (get_or (divided ((u + 1) % 2) 1920 whole) j 0 ≡ get_or whole (sample_from u j) 0)
  -- the picture comes back. Formats 1 and 2: picture line 2l - 1 gives images 1 and 2, which one link carries (pair 1), and line 2l gives
  -- images 3 and 4, which the other carries (pair 2). The row is divided, sent on stream line l + 41 of its link, delivered wherever it is
  -- in a recording, and joined: it is the row again.
  pub picture_of_two :
      (f : Format) (content : Content) (whole : List ℕ) (pair l : ℕ)
      → IsFormat f
      → f.number ≤ 2
      → 1 ≤ pair
      → pair ≤ 2
      → 1 ≤ l
      → l ≤ 1080
      → IsRow f whole
      → AreContent (content_of f content)
      → ((t j : ℕ)
      → t < 2
      → j ≤ 1919
      → placed_of (2 * l + pair - 2) (2 * j + t)
      ≡ given (record { image = image_of f pair t; line = record { 0 = l }; stream = record { 0 = l + 41 }; sample = j }))
      × (words : List ℕ)
      × Delivers f l content (divided 0 1920 whole ++ divided 1 1920 whole) words
      × (joined 1920 (stream_in words 0) (stream_in words 1) ≡ words_for f whole)
  -- format 3: the rows of both lines in one span of four streams
  pub picture_of_four :
      (f : Format) (content : Content) (odd even : List ℕ) (l : ℕ)
      → IsFormat f
      → f.number ≡ 3
      → 1 ≤ l
      → l ≤ 1080
      → IsRow f odd
      → IsRow f even
      → AreContent (content_of f content)
      → ((u t j : ℕ)
      → u < 2
      → t < 2
      → j ≤ 1919
      → placed_of (2 * l + u - 1) (2 * j + t)
      ≡ given (record { image = image_of f 1 (2 * u + t); line = record { 0 = l }; stream = record { 0 = l + 41 }; sample = j }))
      × (words : List ℕ)
      × Delivers f l content (divided 0 1920 odd ++ (divided 1 1920 odd ++ (divided 0 1920 even ++ divided 1 1920 even))) words
      × (joined 1920 (stream_in words 0) (stream_in words 1) ≡ words_for f odd)
      × (joined 1920 (stream_in words 2) (stream_in words 3) ≡ words_for f even)

-- ==== 3 ====

-- One format, one sample depth and one component at both ends, the whole record f, and the recording within the finder's limit: a sent span
-- that stands whole anywhere in it is delivered with its line number and exactly its picture words, whatever stands around it. In a
-- recording of sent spans alone with one bit inverted, exactly the other spans are delivered, and nothing else is.
pub record Demand3 : Type 1 where
  -- the finder answers q if and only if q is at or after the start, the reader accepts there, and accepts at no place between
  pub found_if :
      (f : Format) (r : List ℕ) (start q : ℕ)
      → IsFormat f
      → length r ≤ limit
      → start ≤ q
      → accepts f (take (symbols_in (shape_of f)) (drop q r)) ≡ true
      → ((j : ℕ) → start ≤ j → j < q → accepts f (take (symbols_in (shape_of f)) (drop j r)) ≡ false)
      → find_of f r start ≡ given (some q)
  pub found_only_if :
      (f : Format) (r : List ℕ) (start q : ℕ)
      → find_of f r start ≡ given (some q)
      → (start ≤ q)
      × (accepts f (take (symbols_in (shape_of f)) (drop q r)) ≡ true)
      × ((j : ℕ) → start ≤ j → j < q → accepts f (take (symbols_in (shape_of f)) (drop j r)) ≡ false)
  -- and none if and only if it accepts nowhere from the start on
  pub none_if :
      (f : Format) (r : List ℕ) (start : ℕ)
      → IsFormat f
      → length r ≤ limit
      → start ≤ length r
      → ((j : ℕ) → start ≤ j → accepts f (take (symbols_in (shape_of f)) (drop j r)) ≡ false)
      → find_of f r start ≡ given none
  pub none_only_if :
      (f : Format) (r : List ℕ) (start : ℕ)
      → find_of f r start ≡ given none
      → (j : ℕ)
      → start ≤ j
      → accepts f (take (symbols_in (shape_of f)) (drop j r)) ≡ false
  -- a start equal to the length gives none
  pub at_the_end : (f : Format) (r : List ℕ) → IsFormat f → length r ≤ limit → find_of f r (length r) ≡ given none
  -- next span is both at once: the place is the finder's, and the values and the rows are the reader's for the window there
  pub next_is :
      (f : Format) (r : List ℕ) (start : ℕ) (entry : List ℕ) (s : Spanned)
      → next_of f r start (length entry) ≡ given (some s)
      → let w = take (symbols_in (shape_of f)) (drop s.place r) in
      (find_of f r start ≡ given (some s.place))
      × (read_of f w (length entry) ≡ given s.delivery)
      × (rows_next f r start entry ≡ rows_read f w entry)
  pub next_is_none :
      (f : Format) (r : List ℕ) (start : ℕ) (entry : List ℕ)
      → next_of f r start (length entry) ≡ given none
      → find_of f r start ≡ given none
  -- delivery is: find, read, find again from the end of that span, until none
  pub literally :
      (f : Format) (r : List ℕ) (k p : ℕ)
      → IsFormat f
      → length r ≤ p + k
      → found_from (symbols_in (shape_of f)) (reading f) k r p ≡ delivery_from f r p
  -- stepping with next span, or with the stepping reader, gives it, rows included
  pub stepping :
      (f : Format) (r rows : List ℕ) (k p : ℕ)
      → IsFormat f
      → length r ≤ limit
      → Samples f (length rows)
      → p ≤ length r
      → length r ≤ p + k
      → steps_from k f r p rows ≡ delivery_from f r p
  -- a recording is as long as document 01 says, and what is read of a window is what the reader answers
  pub recordings : RecordingPaper
  -- windows stand one after the other as one would say
  pub deliveries : DeliveryPaper Sending Reading
  -- a sent span anywhere
  pub anywhere :
      (f : Format) (x : Sending) (before after : List ℕ)
      → WasSent f x
      → let r = before ++ (sent_symbols f x ++ after) in
      length r ≤ limit
      → Delivered f r
      (delivery_from f before 0
      ++ (record { place = length before; reading = reading_of f x }
      ∷ moved_by (length before + symbols_in (shape_of f)) (delivery_from f after 0)))
  -- sent spans alone: exactly those
  pub alone :
      (f : Format) (xs : List Sending)
      → IsFormat f
      → Each (WasSent f) xs
      → length (concatenated (sent_symbols f) xs) ≤ limit
      → Delivered f (concatenated (sent_symbols f) xs) (placed_from (symbols_in (shape_of f)) (reading_of f) 0 xs)
  -- one of the ten bits of one symbol inverted: exactly the others
  pub one_inverted :
      (f : Format) (xs ys : List Sending) (x : Sending) (i k : ℕ)
      → Each (WasSent f) xs
      → WasSent f x
      → Each (WasSent f) ys
      → i < symbols_in (shape_of f)
      → k < 10
      → let n = symbols_in (shape_of f) in
      let r = concatenated (sent_symbols f) xs ++ (with_wrong_bit f x i k ++ concatenated (sent_symbols f) ys) in
      length r ≤ limit
      → Delivered f r (placed_from n (reading_of f) 0 xs ++ placed_from n (reading_of f) (n * length xs + n) ys)

-- ==== beyond ====

-- Demand 3 beyond its letter. Any symbols in place of one span: delivered are every span before, what these symbols deliver by themselves,
-- and every span after. So nothing after the damage is lost, and at most a span's length of symbols, if not accepted, delivers nothing.
-- Lost and inserted symbols are cases of this.
pub record Beyond : Type 0 where
  -- a window that the reader accepts, repaired or another maker's, anywhere, and from any start before it
  pub accepted :
      (f : Format) (w before after : List ℕ) (x : Reading) (p : ℕ)
      → IsFormat f
      → reading f w ≡ some x
      → p ≤ length before
      → let r = before ++ (w ++ after) in
      length r ≤ limit
      → DeliveredFrom f r p
      (delivery_from f before p
      ++ (record { place = length before; reading = x } ∷ moved_by (length before + symbols_in (shape_of f)) (delivery_from f after 0)))
  pub damaged :
      (f : Format) (xs ys : List Sending) (d : List ℕ)
      → IsFormat f
      → Each (WasSent f) xs
      → Each (WasSent f) ys
      → let n = symbols_in (shape_of f) in
      let r = concatenated (sent_symbols f) xs ++ (d ++ concatenated (sent_symbols f) ys) in
      length r ≤ limit
      → Delivered f r
      (placed_from n (reading_of f) 0 xs
      ++ (moved_by (n * length xs) (delivery_from f d 0) ++ placed_from n (reading_of f) (n * length xs + length d) ys))
  pub nothing :
      (f : Format) (d : List ℕ)
      → IsFormat f
      → length d ≤ symbols_in (shape_of f)
      → accepts f d ≡ false
      → delivery_from f d 0 ≡ []
  -- fewer symbols than a span has in place of one, as when some were lost: exactly the others
  pub fewer :
      (f : Format) (xs ys : List Sending) (d : List ℕ)
      → IsFormat f
      → Each (WasSent f) xs
      → Each (WasSent f) ys
      → length d < symbols_in (shape_of f)
      → let n = symbols_in (shape_of f) in
      let r = concatenated (sent_symbols f) xs ++ (d ++ concatenated (sent_symbols f) ys) in
      length r ≤ limit
      → Delivered f r (placed_from n (reading_of f) 0 xs ++ placed_from n (reading_of f) (n * length xs + length d) ys)
  -- a recording cut short delivers the first of the spans that the whole delivers: those left out end after the cut
  pub cut :
      (f : Format) (r : List ℕ) (m : ℕ)
      → IsFormat f
      → (rest : List (Found Reading))
      × (delivery_from f r 0 ≡ delivery_from f (take m r) 0 ++ rest)
      × AllAfter (symbols_in (shape_of f)) m rest
  -- as many steps as there are spans give them, rows included, and every further step answers none and leaves the rows as they were
  pub for_ever :
      (f : Format) (r rows : List ℕ) (k p : ℕ)
      → IsFormat f
      → length r ≤ limit
      → Samples f (length rows)
      → p ≤ length r
      → let spans = delivery_from f r p in
      run_from (length spans + k) f r p rows ≡ map span_step spans ++ replicate k (end_step (last_rows rows spans))
