-- Examples that meet what the demands ask for, at each known format, with their numbers. Each is derived from the demands alone
-- (`proofs/Examples`), so none of them is empty: not a demand whose good call may be refused, nor one that delivers nothing, nor one
-- with a condition that nothing meets.
-- Assumes nothing.
use Rattle.std.specs.Prelude.{ℕ, ◌+◌, ◌*◌, ◌≤◌, ◌<◌, ◌≡◌, cond, List, [], ◌∷◌, ◌++◌, eqb, ltb, length, get_or, set, take, drop, replicate}
use Rattle.std.proofs.Math.Option.{none, some}
use Rattle.ground.specs.Answer.{refused, given}
use Rattle.ground.specs.Bit.{inverted}
use Rattle.symbol.specs.declared.disparity.Disparity.{Disparity}
use Rattle.symbol.specs.declared.disparity.Disparity.TheVariants.{Negative}
use Rattle.std.specs.Prelude.{None as NoneNamed}
use Rattle.span.specs.declared.format.Format.{Format}
use Rattle.span.specs.Content.{content_of}
use Rattle.span.specs.Encoding.{symbols_from}
use Rattle.span.specs.Format.{format_from, shape_of, streams}
use Rattle.span.specs.Span.{span_words}
use Rattle.window.specs.Encoded.{chars_of, request_of}
use Rattle.dividing.specs.Row.{divided, split_first, split_second}
use Rattle.span.specs.Paper.{word_of}
use Rattle.window.specs.Paper.{word_of_window}
use Rattle.window.specs.Read.{repairs_of, picture_of, read_span, read_of, rows_read}
use Rattle.span.specs.Length.{lengths_of}
use Rattle.span.specs.Numbers.{IsFormat, Symbols, Samples}
use Rattle.window.specs.declared.delivery.Delivery.{Delivery}
use Rattle.recording.specs.Call.{next_of, rows_next}
use Rattle.request.specs.Send.{request, send_of, sent_buffer}
use Rattle.demands.specs.Demands.{IsRow}
use Rattle.demands.specs.Form.{Sending, WasSent, sent_symbols}
use Rattle.demands.specs.Live.{live_from}

-- the lowest sample that may be sent: 4 at ten bits, 16 at twelve. Its word is 16 either way.
abbrev pub lowest_sample : Format → ℕ
lowest_sample f = cond (eqb f.depth 10) 4 16

-- the only sample that may be sent on a blanking line, 100, or 800 on a link of C'B or C'R; and the other of the two
abbrev pub blank_sample : Format → ℕ
blank_sample f = cond (ltb f.component 5) 0x100 0x800

abbrev pub other_sample : Format → ℕ
other_sample f = cond (ltb f.component 5) 0x800 0x100

-- a span of n symbols and m samples on line 42, the first of the picture, every sample the lowest; and one on a blanking line
abbrev pub on_line42 : Format → ℕ → Disparity → Sending
on_line42 f m d = record { before = d; asked = request 42 NoneNamed (replicate m (lowest_sample f)) }

abbrev pub blank_line : Format → ℕ → ℕ → Sending
blank_line f m line = record { before = Negative; asked = request line NoneNamed (replicate m (blank_sample f)) }

-- three spans, of lines 1, 2 and 3, with bit k of symbol i of the second inverted
abbrev pub three_lines : Format → ℕ → ℕ → ℕ → List ℕ
three_lines f m i k =
    let second = sent_symbols f (blank_line f m 2) in
    sent_symbols f (blank_line f m 1) ++ (set second i (inverted k (get_or second i 0)) ++ sent_symbols f (blank_line f m 3))

-- the answer of next span: a span at this place, of this line
pub record IsNext (f : Format) (r : List ℕ) (start room place line : ℕ) : Type 0 where
  pub delivery : Delivery
  pub answer : next_of f r start room ≡ given (some (record { place = place; delivery = delivery }))
  pub names : delivery.line.0 ≡ line

-- the symbols of line 42 with another word for the XYZ of stream 1's SAV, no content bytes named
abbrev pub with_xyz : Format → ℕ → Disparity → ℕ → List ℕ
with_xyz f m d x =
    let words = span_words f (on_line42 f m d).asked in
    symbols_from d (chars_of (shape_of f) (content_of f NoneNamed) (set words (streams (shape_of f) * 3 + 0) x))

-- at format f, where a span has n symbols and m samples
pub record At (f : Format) (n m : ℕ) : Type 0 where
  -- a row of the picture, and calls that were sent
  pub row : IsRow f (replicate 3840 (lowest_sample f))
  pub sent42 : (d : Disparity) → WasSent f (on_line42 f m d)
  pub sent_blank : (line : ℕ) → 1 ≤ line → line ≤ 41 → WasSent f (blank_line f m line)
  -- a sent span among noise, less than a span of it before and after: the calls answer it at its place, with its line and words, and then
  -- that there is none
  pub among_noise :
      (d : Disparity) (before after rows : List ℕ)
      → length before < n
      → length after < n
      → length rows ≡ m
      → let r = before ++ (sent_symbols f (on_line42 f m d) ++ after) in
      IsNext f r 0 m (length before) 42
      × (rows_next f r 0 rows ≡ replicate m 16)
      × (next_of f r (length before + n) m ≡ given none)
  -- and the same on a link that brings these symbols in two pieces, wherever it is cut
  pub cut_in_two :
      (d : Disparity) (before after rows : List ℕ)
      → length before < n
      → length after < n
      → length rows ≡ m
      → (c : ℕ)
      → let r = before ++ (sent_symbols f (on_line42 f m d) ++ after) in
      (v : Delivery)
      × (v.line.0 ≡ 42)
      × (live_from f rows 0 [] (take c r ∷ drop c r ∷ [])
      ≡ record { place = length before; reading = record { values = v; words = replicate m 16 } } ∷ [])
  -- with one bit of the second of three inverted, line 1 is answered at 0 and line 3 at 2n, and then that there is none
  pub one_of_three :
      (i k : ℕ)
      → i < n
      → k < 10
      → IsNext f (three_lines f m i k) 0 m 0 1
      × IsNext f (three_lines f m i k) n m (2 * n) 3
      × (next_of f (three_lines f m i k) (3 * n) m ≡ given none)
  -- XYZ of line 42's SAV is 800. With one bit inverted the span is read, with one repair, of that bit, and with two it is refused with 21 there:
  -- word 3 of stream 1, the seventh interleaved word of two streams and the thirteenth of four
  pub repaired :
      (d : Disparity) (b : ℕ)
      → b < 12
      → (v : Delivery)
      × (read_span f (with_xyz f m d (inverted b 0x800)) ≡ given v)
      × (v.line.0 ≡ 42)
      × (v.repairs ≡ repairs_of 1 (λ k. cond (eqb k b) 1 0))
  pub refused21 :
      (d : Disparity) (b c : ℕ)
      → b < c
      → c < 12
      → read_span f (with_xyz f m d (inverted b (inverted c 0x800))) ≡ refused 21 (streams (shape_of f) * 3)
  -- sample 3, which may be sent at neither depth, is refused with 6 at its index, and the buffer stays as it was
  pub refused6 :
      (d : Disparity) (i : ℕ) (entry : List ℕ)
      → i < m
      → length entry ≡ n
      → let a = request 42 NoneNamed (set (replicate m (lowest_sample f)) i 3) in
      (send_of d f a n ≡ refused 6 i) × (sent_buffer d f a entry ≡ entry)
  -- on a blanking line 800 is refused with 6 at the first sample of a link of G', B', R' or Y', and 100 at that of one of C'B or C'R
  pub exchanged6 :
      (d : Disparity) (line : ℕ) (entry : List ℕ)
      → 1 ≤ line
      → line ≤ 41
      → length entry ≡ n
      → let a = request line NoneNamed (replicate m (other_sample f)) in
      (send_of d f a n ≡ refused 6 0) × (sent_buffer d f a entry ≡ entry)
  -- as many zeros as a span has symbols are refused with 20 at the first, and the rows are zero afterwards
  pub refused20 :
      (rows : List ℕ)
      → length rows ≡ m
      → (read_of f (replicate n 0) m ≡ refused 20 0) × (rows_read f (replicate n 0) rows ≡ replicate m 0)
  -- a window that is read has the first CRCC word of the span sent for its answer, in stream 1
  pub crcc_stands :
      (w : List ℕ) (r : Delivery)
      → read_span f w ≡ given r
      → word_of_window f w 1930 0 ≡ word_of f (request_of f r (picture_of f w)) 1930 0

pub record Examples : Type 0 where
  pub every_format : (f : Format) (n m : ℕ) → IsFormat f → Symbols f n → Samples f m → At f n m
  -- format 4 is unknown, and so is a depth of 11, a component that was forgotten, a structure or a size that there is not
  pub no_format4 : lengths_of (format_from 4 12 1 1 1) ≡ refused 1 0
  pub no_depth11 : lengths_of (format_from 1 11 1 1 1) ≡ refused 1 0
  pub no_component0 : lengths_of (format_from 1 12 0 1 1) ≡ refused 1 0
  pub no_component7 : lengths_of (format_from 1 12 7 1 1) ≡ refused 1 0
  pub no_structure0 : lengths_of (format_from 1 12 1 0 1) ≡ refused 1 0
  pub no_size0 : lengths_of (format_from 1 12 1 1 0) ≡ refused 1 0
  -- a row is divided, and what was in the two rows is gone
  pub divides :
      (whole first second : List ℕ)
      → length whole ≡ 3840
      → length first ≡ 1920
      → length second ≡ 1920
      → (split_first whole first second ≡ divided 0 1920 whole) × (split_second whole first second ≡ divided 1 1920 whole)
