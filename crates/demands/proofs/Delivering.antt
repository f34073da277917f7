-- Demand 3 and what is held beyond it: what the finder answers, that stepping with next span is delivery, and what is delivered of recordings
-- with sent spans in them.
-- Assumes nothing.
use mathlib.Core.Path.{◌≡◌, refl, sym, ap, ◌∙◌}
use mathlib.Core.Bool.{true}
use mathlib.Core.List.{List, [], ◌∷◌, ◌++◌, map}
use mathlib.Core.Option.{Option, none, some}
use Prim.Native.Nat.{ℕ, zero, suc, ◌+◌, ◌-◌, ◌*◌, ◌≤◌, ◌<◌}
use native.Mathlib.Nat.{add-zero, zero-add}
use native.Mathlib.Omega.{arith}
use lib.ListN.{length, get_or, set, take, drop, replicate, length-drop}
use lib.Seq.{drop-append-le}
use Rattle.ground.specs.Answer.{given, Answer}
use Rattle.ground.specs.Bit.{inverted}
use Rattle.span.specs.declared.format.Format.{Format}
use Rattle.span.specs.Format.{is_known, shape_of, samples_in, symbols_in}
use Rattle.window.proofs.Windows.{read_is}
use Rattle.delivery.specs.Delivery.{Found, deliver, deliver_by as deliver_by, moved_by, concatenated, placed_from, Each}
use Rattle.delivery.specs.Marked.{AllAfter}
use Rattle.delivery.proofs.Cutting.{cut}
use Rattle.delivery.proofs.Spans.{ReadAs, nothing_of, exactly, in_place}
use Rattle.delivery.proofs.Splitting.{split}
use Rattle.delivery.proofs.Steps.{moved, too_few, few}
use Rattle.recording.specs.Call.{spanned, next_of, find_of, next_rows, rows_next}
use Rattle.recording.specs.Recording.{limit, Reading, reading, next_from, delivery_from}
use Rattle.recording.proofs.Calling.{finds_place, finds_none}
use Rattle.recording.proofs.Readings.{reading_told, span_whole, span_marked}
use Rattle.recording.specs.declared.answer.Spanned.{Spanned}
use Rattle.window.specs.declared.delivery.Delivery.{Delivery}
use Rattle.window.specs.Read.{picture_of, read_of, rows_left, rows_read}
use Rattle.window.proofs.Accepting.{row_passed}
use borrow.Author.Tests.{leb-true, eqb-true}
use Rattle.ground.proofs.Answers.{given_is}
use Rattle.window.specs.Inside.Window.{IsWindow}
use Rattle.recording.specs.Inside.Look.{is_comma}
use Rattle.demands.specs.Form.{Sending, WasSent, sent_symbols, reading_of, spans_of, steps_from}
use Rattle.recording.specs.Steps.{span_step, end_step, last_rows}
use Rattle.recording.proofs.Steps.{steps_deliver}
use Rattle.recording.proofs.Nexts.{next_is}
use Rattle.demands.proofs.Sendings.{sent_read, harmed_long, harmed_not_read, row_holds}

module _ (f : Format) (known : is_known f ≡ true) where
  abbrev n : ℕ
  n = symbols_in (shape_of f)

  -- ---- stepping with next span is delivery
  spans_given : (ds : List (Found Reading)) (k : ℕ) (rows : List ℕ) → spans_of (map span_step ds ++ replicate k (end_step rows)) ≡ ds
  spans_given [] zero rows = refl
  spans_given [] (suc k) rows = refl
  spans_given (d ∷ ds) k rows = ap (λ (l : List (Found Reading)). d ∷ l) (spans_given ds k rows)

  module _ (r : List ℕ) (short : length r ≤ limit) where
    pub steps_are : (k p : ℕ) (rows : List ℕ) → length rows ≡ samples_in (shape_of f) → p ≤ length r → length r ≤ p + k
        → steps_from k f r p rows ≡ delivery_from f r p
    steps_are k p rows room inside enough =
        let ds = delivery_from f r p in
        let j = k - length ds in
        let all : k ≡ length ds + j = omega (arith, few n (reading f) r p) in
        ap (λ (m : ℕ). steps_from m f r p rows) all
        ∙ ap spans_of (steps_deliver f known r short p rows room inside j)
        ∙ spans_given ds j (last_rows rows ds)

    pub delivered : (p : ℕ) → p ≤ length r → (list : List (Found Reading)) → delivery_from f r p ≡ list → (rows : List ℕ)
        → length rows ≡ samples_in (shape_of f) → (k : ℕ) → length r ≤ p + k → steps_from k f r p rows ≡ list
    delivered p inside list e rows room k h = steps_are k p rows room inside h ∙ e

  -- ---- what the reader accepts, anywhere, from a start before it
  pub accepted : (w : List ℕ) (x : Reading) → reading f w ≡ some x → (before behind : List ℕ) (p : ℕ) → p ≤ length before
      → delivery_from f (before ++ (w ++ behind)) p
      ≡ delivery_from f before p
      ++ (record { place = length before; reading = x } ∷ moved_by (length before + n) (delivery_from f behind 0))
  unfolding deliver_by
  accepted w x is before behind p inside =
      let there : p + length (drop p before) ≡ length before = omega (arith, length-drop p before) in
      ap (λ (l : List ℕ). deliver n (reading f) p 0 l) (drop-append-le p before (w ++ behind) inside)
      ∙ split n (reading f) is_comma (span_marked f known) w behind x is (drop p before) p
      ∙ rw there
      (ap (λ (l : List (Found Reading)). deliver n (reading f) p 0 (drop p before) ++ (record { place = length before; reading = x } ∷ l))
      (ap (λ (k : ℕ). deliver n (reading f) k 0 behind) (sym (add-zero (length before + n)))
      ∙ moved n (reading f) (length before + n) 0 0 behind))

  -- ---- sent spans
  module _ (x : Sending) (sent : WasSent f x) where
    -- one anywhere
    pub anywhere : (before behind : List ℕ)
        → delivery_from f (before ++ (sent_symbols f x ++ behind)) 0
        ≡ delivery_from f before 0
        ++ (record { place = length before; reading = reading_of f x } ∷ moved_by (length before + n) (delivery_from f behind 0))
    anywhere before behind = accepted (sent_symbols f x) (reading_of f x) (sent_read f x sent) before behind 0 (omega arith)

  -- each of a list is read as it was sent
  each_read : (xs : List Sending) → Each (WasSent f) xs → Each (ReadAs n (reading f) (sent_symbols f) (reading_of f)) xs
  each_read [] each = tt
  each_read (x ∷ xs) (sent, each) = (sent_read f x sent, each_read xs each)

  -- sent spans alone
  pub alone : (xs : List Sending) → Each (WasSent f) xs → delivery_from f (concatenated (sent_symbols f) xs) 0 ≡ placed_from n (reading_of f) 0 xs
  unfolding deliver_by
  alone xs each = exactly n (reading f) (span_whole f known) (sent_symbols f) (reading_of f) xs (each_read xs each) 0

  -- any symbols in the place of one of them
  pub damaged : (xs ys : List Sending) (d : List ℕ) → Each (WasSent f) xs → Each (WasSent f) ys
      → delivery_from f (concatenated (sent_symbols f) xs ++ (d ++ concatenated (sent_symbols f) ys)) 0
      ≡ placed_from n (reading_of f) 0 xs
      ++ (moved_by (n * length xs) (delivery_from f d 0) ++ placed_from n (reading_of f) (n * length xs + length d) ys)
  unfolding deliver_by
  damaged xs ys d before behind =
      in_place n (reading f) is_comma (span_marked f known) (sent_symbols f) (reading_of f) xs ys (each_read xs before) (each_read ys behind) d 0
      ∙ rw (zero-add (n * length xs))
      (ap (λ (l : List (Found Reading)). placed_from n (reading_of f) 0 xs ++ (l ++ placed_from n (reading_of f) (n * length xs + length d) ys))
      (ap (λ (k : ℕ). deliver n (reading f) k 0 d) (sym (add-zero (n * length xs))) ∙ moved n (reading f) (n * length xs) 0 0 d))

  -- what is not accepted, and no longer than a span, delivers nothing
  pub nothing : (d : List ℕ) → length d ≤ n → reading f d ≡ none → delivery_from f d 0 ≡ []
  unfolding deliver_by
  nothing d h e = nothing_of n (reading f) (span_whole f known) 0 d h e

  -- so what stands in the place of one of them and delivers nothing costs it alone
  alone_lost : (xs ys : List Sending) (d : List ℕ) → Each (WasSent f) xs → Each (WasSent f) ys → length d ≤ n → reading f d ≡ none
      → delivery_from f (concatenated (sent_symbols f) xs ++ (d ++ concatenated (sent_symbols f) ys)) 0
      ≡ placed_from n (reading_of f) 0 xs ++ placed_from n (reading_of f) (n * length xs + length d) ys
  unfolding moved_by
  alone_lost xs ys d before behind h e = damaged xs ys d before behind ∙ rw (nothing d h e)

  -- fewer symbols than a span has
  pub fewer : (xs ys : List Sending) (d : List ℕ) → Each (WasSent f) xs → Each (WasSent f) ys → length d < n
      → delivery_from f (concatenated (sent_symbols f) xs ++ (d ++ concatenated (sent_symbols f) ys)) 0
      ≡ placed_from n (reading_of f) 0 xs ++ placed_from n (reading_of f) (n * length xs + length d) ys
  fewer xs ys d before behind h =
      alone_lost xs ys d before behind (omega arith) (too_few n (reading f) (span_whole f known) d h)

  -- one inverted bit
  pub one_inverted : (xs ys : List Sending) (x : Sending) (i k : ℕ) → Each (WasSent f) xs → WasSent f x → Each (WasSent f) ys → i < n → k < 10
      → let harmed = set (sent_symbols f x) i (inverted k (get_or (sent_symbols f x) i 0)) in
      delivery_from f (concatenated (sent_symbols f) xs ++ (harmed ++ concatenated (sent_symbols f) ys)) 0
      ≡ placed_from n (reading_of f) 0 xs ++ placed_from n (reading_of f) (n * length xs + n) ys
  one_inverted xs ys x i k before sent behind h l =
      let harmed = set (sent_symbols f x) i (inverted k (get_or (sent_symbols f x) i 0)) in
      let long = harmed_long f x sent i k h l in
      alone_lost xs ys harmed before behind (omega (arith, long)) (harmed_not_read f x sent i k h l) ∙ rw long

  -- the beginning of a recording
  pub beginning : (r : List ℕ) (m : ℕ)
      → (rest : List (Found Reading)) × (delivery_from f r 0 ≡ delivery_from f (take m r) 0 ++ rest) × AllAfter n m rest
  unfolding deliver_by
  beginning r m =
      let (rest, e, behind) = cut n (reading f) (span_whole f known) m 0 r in
      (rest, e, rw (zero-add m) at behind)

-- ---- next span is finding and reading at once
module _ (f : Format) (r : List ℕ) (start : ℕ) (entry : List ℕ) (o : Option Spanned) (e : next_of f r start (length entry) ≡ given o) where
  passed : (i : ℕ) → (get_or (next_rows f r start (length entry)) i (record { number = 0; fails = none })).fails ≡ none
  passed = row_passed (next_rows f r start (length entry)) (spanned (next_from f r start)) o e

  pub known_asked : is_known f ≡ true
  known_asked = row_holds _ (passed 0)

  short : length r ≤ limit
  short = leb-true (length r) limit (row_holds _ (passed 1))

  room : length entry ≡ samples_in (shape_of f)
  room = eqb-true (length entry) (samples_in (shape_of f)) (row_holds _ (passed 2))

  pub start_asked : start ≤ length r
  start_asked = leb-true start (length r) (row_holds _ (passed 3))

  pub next_asked : spanned (next_from f r start) ≡ o
  next_asked = given_is (next_rows f r start (length entry)) (spanned (next_from f r start)) o e

pub found_none : (f : Format) (r : List ℕ) (start : ℕ) (entry : List ℕ) → next_of f r start (length entry) ≡ given none
    → find_of f r start ≡ given none
found_none f r start entry e =
    sym (finds_none f r start (known_asked f r start entry none e) (short f r start entry none e) (start_asked f r start entry none e)
    (sym (next_asked f r start entry none e)))

pub found_and_read : (f : Format) (r : List ℕ) (start : ℕ) (entry : List ℕ) (s : Spanned) → next_of f r start (length entry) ≡ given (some s)
    → let w = take (symbols_in (shape_of f)) (drop s.place r) in
    (find_of f r start ≡ given (some s.place))
    × (read_of f w (length entry) ≡ given s.delivery)
    × (rows_next f r start entry ≡ rows_read f w entry)
found_and_read f r start entry s e = go (next_from f r start) refl
  where
    k : is_known f ≡ true
    k = known_asked f r start entry (some s) e

    w : List ℕ
    w = take (symbols_in (shape_of f)) (drop s.place r)

    size : length entry ≡ samples_in (shape_of f)
    size = room f r start entry (some s) e

    place : find_of f r start ≡ given (some s.place)
    place = sym (finds_place f r start k (short f r start entry (some s) e) (start_asked f r start entry (some s) e) (sym (next_asked f r start entry (some s) e)))

    go : (x : Option (Found Reading)) → next_from f r start ≡ x
        → (find_of f r start ≡ given (some s.place))
        × (read_of f w (length entry) ≡ given s.delivery)
        × (rows_next f r start entry ≡ rows_read f w entry)
    go none x = let z : ◌≡◌ {A = ℕ} 0 1 = cc (sym (ap spanned x) ∙ next_asked f r start entry (some s) e) in absurd (omega arith)
    go (some a) x =
        let same : some (record { place = a.place; delivery = a.reading.values }) ≡ some s = sym (ap spanned x) ∙ next_asked f r start entry (some s) e in
        let s-is : record { place = a.place; delivery = a.reading.values } ≡ s = cc same in
        let at : a.place ≡ s.place = ap (λ (y : Spanned). y.place) s-is in
        let told = reading_told f w a.reading (rw at at (next_is f k r start a x).read) in
        let window : IsWindow f w = record { known = k; long = told.long } in
        let read : read_of f w (length entry) ≡ given s.delivery =
        read_is f w window (length entry) size ∙ told.values ∙ ap (λ (y : Spanned). given y.delivery) s-is in
        let rows : rows_next f r start entry ≡ picture_of f w = rw (e, x) told.words in
        (place, read, rows ∙ sym (ap (λ (y : Answer Delivery). rows_left y entry (picture_of f w)) read))
