-- Recordings in document 01's own terms and numerals ("Receiving and finding"); `proofs/Paper` proves each.
-- Assumes nothing.
use Rattle.std.specs.Prelude.{◌≡◌, List, ℕ, ◌+◌, ◌≤◌, ◌<◌, length}
use Rattle.std.proofs.Math.Option.{none, some}
use Rattle.ground.specs.Answer.{refused, given}
use Rattle.span.specs.declared.format.Format.{Format}
use Rattle.span.specs.Format.{format_from, shape_of, symbols_in}
use Rattle.span.specs.Numbers.{IsFormat, Samples, Symbols}
use Rattle.window.specs.declared.delivery.Delivery.{Delivery}
use Rattle.window.specs.Read.{picture_of, read_span}
use Rattle.recording.specs.declared.answer.Spanned.{Spanned}
use Rattle.recording.specs.Call.{find_of, next_of, after_next}
use Rattle.recording.specs.Recording.{limit, Reading, reading, delivery_from}

pub record RecordingPaper : Type 0 where
  -- the finder takes a recording of at most 2,097,152 symbols
  pub the_limit : limit ≡ 2097152
  -- symbols are read if and only if there are as many as a span has and the reader accepts them; what is read is its answer and the picture
  pub read_if :
      (f : Format) (w : List ℕ)
      → length w ≡ symbols_in (shape_of f)
      → (d : Delivery)
      → read_span f w ≡ given d
      → reading f w ≡ some (record { values = d; words = picture_of f w })
  pub read_only_if :
      (f : Format) (w : List ℕ) (x : Reading)
      → reading f w ≡ some x
      → (length w ≡ symbols_in (shape_of f)) × (read_span f w ≡ given x.values) × (x.words ≡ picture_of f w)
  pub not_read :
      (f : Format) (w : List ℕ)
      → length w ≡ symbols_in (shape_of f)
      → (number place : ℕ)
      → read_span f w ≡ refused number place
      → reading f w ≡ none
  -- the refusals of finding a span, in the order tried: 1, 3 beyond that many symbols, 5 for a start beyond the recording
  pub find_meets1 : (f : Format) (r : List ℕ) (start : ℕ) → (IsFormat f → ⊥) → find_of f r start ≡ refused 1 0
  pub find_meets3 : (f : Format) (r : List ℕ) (start : ℕ) → IsFormat f → 2097152 < length r → find_of f r start ≡ refused 3 0
  pub find_meets5 :
      (f : Format) (r : List ℕ) (start : ℕ) → IsFormat f → length r ≤ 2097152 → length r < start → find_of f r start ≡ refused 5 0
  -- and of the next span, with 4 for rows of a wrong length before 5
  pub next_meets1 : (f : Format) (r : List ℕ) (start room : ℕ) → (IsFormat f → ⊥) → next_of f r start room ≡ refused 1 0
  pub next_meets3 :
      (f : Format) (r : List ℕ) (start room : ℕ) → IsFormat f → 2097152 < length r → next_of f r start room ≡ refused 3 0
  pub next_meets4 :
      (f : Format) (r : List ℕ) (start room : ℕ)
      → IsFormat f
      → length r ≤ 2097152
      → (Samples f room → ⊥)
      → next_of f r start room ≡ refused 4 0
  pub next_meets5 :
      (f : Format) (r : List ℕ) (start room : ℕ)
      → IsFormat f
      → length r ≤ 2097152
      → Samples f room
      → length r < start
      → next_of f r start room ≡ refused 5 0
  -- the place after: the end of the span; where there is none the start, or that of the last symbols, one fewer than a span has, whichever is
  -- further on; after a refusal the start
  pub after_span :
      (f : Format) (r : List ℕ) (start room n : ℕ) (s : Spanned)
      → Symbols f n
      → next_of f r start room ≡ given (some s)
      → after_next f r start room ≡ s.place + n
  pub after_none :
      (f : Format) (r : List ℕ) (start room n : ℕ)
      → Symbols f n
      → next_of f r start room ≡ given none
      → (length r + 1 ≤ start + n → after_next f r start room ≡ start)
      × (start + n ≤ length r + 1 → after_next f r start room + n ≡ length r + 1)
  pub after_refusal :
      (f : Format) (r : List ℕ) (start room number place : ℕ)
      → next_of f r start room ≡ refused number place
      → after_next f r start room ≡ start
  -- what is delivered does not depend on the component: a recording of C'B is also delivered as one of Y'
  pub component_unread :
      (number depth structure size c e : ℕ) (r : List ℕ) (p : ℕ)
      → delivery_from (format_from number depth c structure size) r p ≡ delivery_from (format_from number depth e structure size) r p
