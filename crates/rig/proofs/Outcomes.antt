-- What comes of a piece: the flags of its lines, and their rows of the picture, which are those of the test picture.
-- Assumes nothing.
use mathlib.Core.Path.{◌≡◌, refl, sym, ap, ap₂, ◌∙◌}
use mathlib.Core.Bool.{Bool, true, false, cond}
use mathlib.Core.List.{List, [], ◌∷◌, ◌++◌, append_assoc, append-nil}
use mathlib.Core.Logic.{inr}
use mathlib.Core.Option.{Option, none, some}
use Prim.Native.Nat.{ℕ, ◌+◌, ◌-◌, ◌*◌, ◌≤◌, ◌<◌}
use native.Mathlib.Omega.{arith}
use lib.ListN.{length, get_or, replicate, length-append, length-replicate, replicate-append-replicate}
use Rattle.ground.specs.Written.{upto, table}
use Rattle.ground.proofs.Cases.{on_test}
use Rattle.ground.proofs.Ranges.{from_low, to_high}
use Rattle.ground.proofs.Writing.{is_table, length_table}
use Rattle.symbol.specs.declared.disparity.Disparity.{Disparity}
use Rattle.line.specs.Picture.{basic_line_of}
use Rattle.line.specs.Stream.{is_active}
use Rattle.line.proofs.Travel.{carries}
use Rattle.picture.specs.Place.{picture_line_on}
use Rattle.picture.proofs.Places.{nothing_on, line_on}
use Rattle.dividing.specs.Row.{divided}
use Rattle.std.specs.Prelude.{None}
use Rattle.span.specs.Format.{shape_of, streams}
use Rattle.span.specs.Numbers.{IsFormat}
use Rattle.span.specs.Stream.{Request, picture}
use Rattle.request.specs.Send.{request}
use Rattle.recording.specs.Recording.{Reading, delivery_from}
use Rattle.demands.specs.Demands.{IsRow}
use Rattle.demands.specs.Form.{reading_of, words_for}
use Rattle.demands.proofs.PictureBack.{four_back}
use Rattle.test_picture.specs.TestPicture.{test_sample, test_row, row_at, test_samples}
use Rattle.test_picture.proofs.Images.{on_four}
use Rattle.test_picture.proofs.Rows.{length_row as length-of-row, row_of_codes, row_ten, row_twelve}
use Rattle.rig.specs.declared.knock.Knock.{Knock}
use Rattle.reception.specs.Link.{link}
use Rattle.rig.specs.Frame.{line_of_piece}
use Rattle.rig.specs.Knock.{lost}
use Rattle.rig.specs.Piece.{black, row_for, sent_rows, rows_at, picture_in, heard_in}
use Rattle.reception.specs.Receiving.{joined_row, both_rows, brings, flag, put_all, receivable, heard_by, shown_by}
use Rattle.rig.specs.Sending.{request_on, after_from}
use Rattle.rig.proofs.Arriving.{sending, place_of}
use Rattle.reception.proofs.Bringing.{length_row}
use Rattle.reception.proofs.Readiness.{is_ready}
use Rattle.rig.specs.Inside.Knock.{knocked}
use Rattle.rig.specs.Inside.Sending.{sent_from}
use Rattle.rig.proofs.Knocking.{length_knocked}
use Rattle.rig.proofs.Lines.{length_sent}
use Rattle.rig.proofs.Pieces.{arrived_from, Slots, piece_put}
use Rattle.rig.proofs.Slots.{padded}

-- ---- the flags

module _ (k : Knock) where
  flags : Slots k 1 flag (λ n. cond (lost k n) 0 1 ∷ [])
  flags = record {
    sized = λ n. refl;
    dark = λ n t. simp t;
    fits = λ d n. omega arith;
    shown = λ d n low high t. simp t;
  }

-- ---- the rows: those of the test picture come back

at_twelve : IsFormat link
at_twelve = record { from = omega arith; to = omega arith; bits = inr refl; component = (omega arith, omega arith); structure = refl; size = refl }

four : (shape_of link).stream_pairs ≡ 2
unfolding shape_of
four = refl

is_row : (line : ℕ) → IsRow link (row_at link line)
is_row line = record { long = length-of-row 1 line; ten = λ e i h. row_ten link line i h e; twelve = λ e i h. row_twelve link line i h e }

-- at twelve bits the words of a row are the row
words_are : (row : List ℕ) → words_for link row ≡ row
words_are row = sym (is_table (length row) (λ i. get_or row i 0) 0 row refl (λ i h. refl))

codes : (line : ℕ) → words_for link (row_at link line) ≡ test_row line
codes line = words_are (row_at link line) ∙ row_of_codes line

-- the rows that are sent: lines 2l - 1 and 2l on stream line l + 41, and black ones in frame blanking
pub sent_on_active : (l n : ℕ) → 1 ≤ l → l ≤ 1080 → l + 41 ≡ n → sent_rows n ≡ test_row (2 * l - 1) ++ test_row (2 * l)
sent_on_active l n p q e =
    let basic : basic_line_of n ≡ some l = ap basic_line_of (sym e) ∙ carries l p q in
    ap₂ (λ (x y : Option ℕ). row_for x ++ row_for y)
    (sym (line_on n 1 l basic (omega arith) (omega arith) {line = 2 * l - 1} (omega arith)))
    (sym (line_on n 3 l basic (omega arith) (omega arith) {line = 2 * l} (omega arith)))

pub sent_in_blanking : (n : ℕ) → is_active n ≡ false → sent_rows n ≡ black
sent_in_blanking n t =
    let nothing : basic_line_of n ≡ none = simp t in
    ap₂ (λ (x y : Option ℕ). row_for x ++ row_for y) (nothing_on n 1 nothing) (nothing_on n 3 nothing)
    ∙ replicate-append-replicate 3840 3840 0

module _ (n : ℕ) (active : is_active n ≡ true) where
  -- the words of its span
  abbrev words : List ℕ
  words = upto (streams (shape_of link)) (picture link (request_on n))

  rows_back : both_rows words ≡ sent_rows n
  unfolding joined_row
  rows_back =
      let l = n - 41 in
      let p : 1 ≤ l = omega (arith, from_low 42 1121 n active) in
      let q : l ≤ 1080 = omega (arith, to_high 42 1121 n active) in
      let line : l + 41 ≡ n = omega (arith, from_low 42 1121 n active) in
      let odd = row_at link (2 * l - 1) in
      let even = row_at link (2 * l) in
      let samples = divided 0 1920 odd ++ (divided 1 1920 odd ++ (divided 0 1920 even ++ divided 1 1920 even)) in
      let carried : samples ≡ test_samples link (l + 41) = sym (on_four link l p q four ∙ simp append_assoc) in
      let is : request (l + 41) None samples ≡ request_on n =
      ap (request (l + 41) None) carried ∙ ap request_on line in
      let back = four_back link odd even l at_twelve refl p q (is_row (2 * l - 1)) (is_row (2 * l)) None in
      ap (λ (a : Request). both_rows (upto (streams (shape_of link)) (picture link a))) (sym is)
      ∙ ap₂ (λ (x y : List ℕ). x ++ y) (back.0 ∙ codes (2 * l - 1)) (back.1 ∙ codes (2 * l))
      ∙ sym (sent_on_active l n p q line)

-- ---- how long they are

length_cond : (b : Bool) (x y : List ℕ) → length x ≡ 7680 → length y ≡ 7680 → length (cond b x y) ≡ 7680
length_cond true x y p q = p
length_cond false x y p q = q

length_black : length black ≡ 7680
length_black = length-replicate {A = ℕ} 7680 0

length_both : (l : List ℕ) → length (both_rows l) ≡ 7680
length_both l = rw (length-append, length_row 0 l, length_row 2 l)

length_for : (line : Option ℕ) → length (row_for line) ≡ 3840
length_for (some line) = length_table 3840 (test_sample line)
length_for none = length-replicate {A = ℕ} 3840 0

length_sent_rows : (n : ℕ) → length (sent_rows n) ≡ 7680
length_sent_rows n =
    omega (arith, length-append (row_for (picture_line_on n 1)) (row_for (picture_line_on n 3)), length_for (picture_line_on n 1), length_for (picture_line_on n 3))

whole_slot : (c : List ℕ) → length c ≡ 7680 → c ≡ padded 7680 c
whole_slot c e =
    let none_left : 7680 - length c ≡ 0 = omega arith in
    rw none_left (sym (append-nil c))

-- ---- the slots

pub length_rows : (k : Knock) (n : ℕ) → length (rows_at k n) ≡ 7680
length_rows k n =
    length_cond (lost k n) black (sent_rows n) length_black (length_sent_rows n)

module _ (k : Knock) where
  rows : Slots k 7680 brings (rows_at k)
  rows = record {
    sized = length_rows k;
    dark = λ n t. ap (λ (b : Bool). cond b black (sent_rows n)) t;
    fits = λ d n.
        on_test (is_active n)
        (λ a. rw a (omega (arith, length_both (reading_of link (sending d n)).words)))
        (λ a. rw a (omega arith));
    shown = λ d n low high t.
        ap (λ (b : Bool). cond b black (sent_rows n)) t
        ∙ on_test (is_active n)
        (λ a.
        sym (rows_back n a)
        ∙ whole_slot (both_rows (words n a)) (length_both (words n a))
        ∙ ap (λ (b : Bool). padded 7680 (cond b (both_rows (words n a)) [])) (sym a))
        (λ a.
        sent_in_blanking n a
        ∙ ap (λ (b : Bool). padded 7680 (cond b (both_rows (reading_of link (sending d n)).words) [])) (sym a));
  }

-- ---- a piece, in the steps of the code: sent, knocked, and received where there is room for it

module _ (k : Knock) (piece : ℕ) (there : piece < 225) (d : Disparity) {first : ℕ} (from : first ≡ 5 * piece + 1) {sent symbols : List ℕ}
    (was_sent : sent ≡ sent_from d first 5) (was-struck : symbols ≡ knocked k (95040 * piece) sent) (heard picture : List ℕ)
    (flags-fit : length heard ≡ 5) (rows_fit : length picture ≡ 38400) where
  symbols_are : symbols ≡ arrived_from k d first 5
  symbols_are =
      let q : 95040 * piece ≡ place_of first = omega arith in
      was-struck ∙ ap₂ (knocked k) q was_sent

  long : length symbols ≡ 95040
  long = ap length was-struck ∙ length_knocked k (95040 * piece) sent ∙ ap length was_sent ∙ length_sent d first 5

  room : receivable first (length symbols) (length heard) (length picture) ≡ true
  room =
      is_ready first (length symbols) (length heard) (length picture)
      (record { line = omega arith; short = omega (arith, long); flags = flags-fit; rows = rows_fit })

  -- the slots of the piece's lines are those of lines from its first on
  lines : {size : ℕ} {what : Reading → List ℕ} {slot : ℕ → List ℕ} → Slots k size what slot
      → put_all size what first (replicate (size * 5) 0) (delivery_from link symbols 0) ≡ upto 5 (λ i. slot (line_of_piece piece i))
  lines {size} {what} {slot} s =
      ap (λ (l : List ℕ). put_all size what first (replicate (size * 5) 0) (delivery_from link l 0)) symbols_are
      ∙ piece_put k s first (omega arith) (omega arith) d
      ∙ ap (λ (n : ℕ). upto 5 (λ i. slot (n + i))) from

  pub heard_is : {out : List ℕ} → out ≡ cond (receivable first (length symbols) (length heard) (length picture)) (heard_by first symbols) heard
      → out ≡ heard_in k piece
  unfolding heard_in table
  heard_is e = e ∙ ap (λ (b : Bool). cond b (heard_by first symbols) heard) room ∙ lines (flags k)

  pub picture_is : {out : List ℕ} → out ≡ cond (receivable first (length symbols) (length heard) (length picture)) (shown_by first symbols) picture
      → out ≡ picture_in k piece
  unfolding picture_in
  picture_is e = e ∙ ap (λ (b : Bool). cond b (shown_by first symbols) picture) room ∙ lines (rows k)

-- and the disparity after it
pub after_is : (piece : ℕ) (d : Disparity) {first : ℕ} → first ≡ 5 * piece + 1 → {after : Disparity} → after ≡ after_from d first 5
    → after ≡ after_from d (line_of_piece piece 0) 5
after_is piece d {first} from e = let q : first ≡ line_of_piece piece 0 = omega arith in e ∙ ap (λ (n : ℕ). after_from d n 5) q
