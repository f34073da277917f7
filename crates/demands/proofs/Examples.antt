-- The examples, derived from the demands.
-- Assumes nothing.
use mathlib.Core.Path.{◌≡◌, refl, sym, ap, ◌∙◌}
use mathlib.Core.List.{List, [], ◌∷◌, ◌++◌, append-nil}
use mathlib.Core.Logic.{⊎_elim}
use mathlib.Core.Option.{Option, none, some}
use Prim.Native.Nat.{ℕ, suc, ◌+◌, ◌*◌, ◌/◌, ◌%◌, ◌≤◌, ◌<◌}
use native.Mathlib.Nat.{zero-add}
use native.Mathlib.Omega.{arith}
use lib.Dec.{eqb, ltb}
use lib.ListN.{length, get_or, set, take, drop, replicate, length-replicate, get_or-replicate, length-append, length-set, length-take, length-drop, take-append-drop}
use lib.Seq.{ext_get_or, get_or-set_same, get_or-set_other}
use borrow.Author.Tests.{eq-eqb, ne_eqb, eqb-true, eqb-false, lt-ltb, le-ltb, ltb-true, ltb-false}
use Rattle.ground.specs.Answer.{Answer, refused, given}
use Rattle.ground.specs.Bit.{inverted}
use Rattle.ground.specs.Range.{within}
use Rattle.ground.specs.Written.{upto}
use Rattle.ground.proofs.Cases.{on_test}
use Rattle.ground.proofs.Writing.{get_d_table, length_upto, get_d_upto}
use Rattle.symbol.specs.declared.disparity.Disparity.{Disparity}
use Rattle.symbol.specs.declared.disparity.Disparity.TheVariants.{Negative}
use Rattle.std.specs.Prelude.{None as NoneNamed}
use Rattle.span.specs.declared.format.Format.{Format}
use Rattle.span.specs.Format.{format_from, shape_of, streams, symbols_in}
use Rattle.span.specs.Sample.{sample_word}
use Rattle.span.specs.Stream.{Request, picture}
use Rattle.window.specs.declared.delivery.Delivery.{Delivery}
use Rattle.delivery.specs.Delivery.{Found, moved_by, concatenated, placed_from, Each}
use Rattle.recording.specs.declared.answer.Spanned.{Spanned}
use Rattle.recording.specs.Call.{next_of, after_next, rows_next}
use Rattle.recording.specs.Recording.{limit, Reading, reading, delivery_from}
use Rattle.recording.proofs.Readings.{span_whole}
use Rattle.delivery.proofs.Steps.{too_few}
use Rattle.recording.specs.Steps.{run_from}
use Rattle.span.specs.Length.{lengths_of}
use Rattle.span.specs.Numbers.{IsFormat, Symbols, Samples, Blank}
use Rattle.request.specs.Send.{request, send_of, sent_buffer}
use Rattle.demands.specs.Demands.{IsRow}
use Rattle.demands.specs.Examples.{lowest_sample, blank_sample, other_sample, on_line42, blank_line, three_lines, IsNext, At, Examples}
use Rattle.demands.specs.Form.{MaySend, Sending, WasSent, sent_symbols, reading_of, span_found, onward, steps_from, DeliveredFrom}
use Rattle.demands.specs.Live.{arrived, live_from, PieceFits}
use Rattle.demands.proofs.Demands.{demand_1, demand_3}
use Rattle.demands.proofs.Refusing.{known_says, symbols_say, samples_say}
use Rattle.demands.proofs.Delivering.{nothing}
use Rattle.demands.proofs.Live.{live}
use Rattle.demands.proofs.PictureBack.{length_picture}
use Rattle.demands.proofs.Sendings.{sent_long}
use Rattle.demands.proofs.Used.{refused_20, crcc_stands, divides}
use Rattle.demands.proofs.WrongBits.{one_wrong, two_wrong}

-- what a step that is not refused adds to the spans
record Added (o : Option Spanned) (words : List ℕ) (more : List (Found Reading)) (e : Found Reading) (list : List (Found Reading)) : Type 0 where
  is_answer : o ≡ some (record { place = e.place; delivery = e.reading.values })
  are_words : words ≡ e.reading.words
  is_more : more ≡ list

added : (o : Option Spanned) (words : List ℕ) (more : List (Found Reading)) (e : Found Reading) (list : List (Found Reading))
    → span_found o words more ≡ e ∷ list → Added o words more e list
added none words more e list x = let z : ◌≡◌ {A = ℕ} 0 1 = cc x in absurd (omega arith)
added (some s) words more e list x =
    let head : record { place = s.place; reading = record { values = s.delivery; words = words } } ≡ e = cc x in
    record {
      is_answer = ap (λ (y : Found Reading). some (record { place = y.place; delivery = y.reading.values })) head;
      are_words = ap (λ (y : Found Reading). y.reading.words) head;
      is_more = cc x;
    }

nothing_added : (o : Option Spanned) (words : List ℕ) (more : List (Found Reading)) → span_found o words more ≡ [] → o ≡ none
nothing_added none words more x = refl
nothing_added (some s) words more x = let z : ◌≡◌ {A = ℕ} 0 1 = cc x in absurd (omega arith)

module _ (f : Format) (n m : ℕ) (known : IsFormat f) (symbols : Symbols f n) (samples : Samples f m) where
  -- the lowest sample may be sent
  at_ten : f.depth ≡ 10 → lowest_sample f ≡ 4
  at_ten e = simp (eq-eqb f.depth 10 e)

  at_twelve : f.depth ≡ 12 → lowest_sample f ≡ 16
  at_twelve e = simp (ne_eqb f.depth 10 (λ z. omega arith))

  row : IsRow f (replicate 3840 (lowest_sample f))
  row = record {
    long = length-replicate 3840 (lowest_sample f);
    ten = λ e i h. rw (get_or-replicate 3840 i (lowest_sample f) 0 h) (omega (arith, at_ten e), omega (arith, at_ten e));
    twelve = λ e i h. rw (get_or-replicate 3840 i (lowest_sample f) 0 h) (omega (arith, at_twelve e), omega (arith, at_twelve e));
  }

  -- a call of a line with as many samples as a span has, equal to one that may be sent there, is answered (demand 1)
  answered : (d : Disparity) (line x : ℕ) → 1 ≤ line → line ≤ 1125 → MaySend f line x
      → WasSent f (record { before = d; asked = request line NoneNamed (replicate m x) })
  answered d line x p q may =
      let a = request line NoneNamed (replicate m x) in
      let size : length (replicate m x) ≡ m = length-replicate m x in
      let room : length (replicate n x) ≡ n = length-replicate n x in
      let tried = (demand_1.send d f a (replicate n x)).0 in
      let (after, e) =
      ((((tried.1 known).1 (p, q)).1 (rw size samples)).1 (rw room symbols)
      ).1 (λ i h. rw (get_or-replicate m i x 0 (omega (arith, size))) may) in
      record {
        room = length (replicate n x);
        after = after;
        sent = e;
        content = record { sav1 = omega arith; sav2 = omega arith; eav1 = omega arith; eav2 = omega arith };
      }

  lowest_may : MaySend f 42 (lowest_sample f)
  lowest_may = record {
    ten = λ e _ _. (omega (arith, at_ten e), omega (arith, at_ten e));
    twelve = λ e _ _. (omega (arith, at_twelve e), omega (arith, at_twelve e));
    blanking = λ out. absurd (out (omega arith) (omega arith));
  }

  sent_42 : (d : Disparity) → WasSent f (on_line42 f m d)
  sent_42 d = answered d 42 (lowest_sample f) (omega arith) (omega arith) lowest_may

  blank_may : Blank f (blank_sample f)
  blank_may = record {
    is100 = λ h. simp (lt-ltb f.component 5 (omega arith));
    is800 = λ h. simp (le-ltb f.component 5 h);
  }

  sent_blank : (line : ℕ) → 1 ≤ line → line ≤ 41 → WasSent f (blank_line f m line)
  sent_blank line p q =
      answered Negative line (blank_sample f) p (omega arith)
      (record { ten = λ _ h _. absurd (omega arith); twelve = λ _ h _. absurd (omega arith); blanking = λ _. blank_may })

  -- ---- the calls, out of what the demands say of steps

  -- a span has between 7920 and 19008 symbols, and that many by the table of formats
  of_a_span : (7920 ≤ n) × (n ≤ 19008)
  of_a_span =
      ⊎_elim (λ x. (omega (arith, x.1), omega (arith, x.1)))
      (⊎_elim (λ x. (omega (arith, x.1), omega (arith, x.1))) (λ x. (omega (arith, x.1), omega (arith, x.1)))) symbols

  n_is : n ≡ symbols_in (shape_of f)
  n_is = eqb-true n (symbols_in (shape_of f)) ((symbols_say f known n).holds symbols)

  -- a recording of at most three spans is within the limit (demand 3)
  within_limit : (r : List ℕ) → length r ≤ 3 * n → length r ≤ limit
  within_limit r h = omega (arith, demand_3.recordings.the_limit, of_a_span.1)

  module _ (r : List ℕ) (short : length r ≤ 3 * n) where
    -- a call with rows of the right length, that starts within the recording, is answered (demand 1)
    not_refused : (p : ℕ) (rows : List ℕ) → length rows ≡ m → p ≤ length r → (o : Option Spanned) × (next_of f r p (length rows) ≡ given o)
    not_refused p rows size inside =
        ((((demand_1.next f r p rows).1 known).1 (omega (arith, of_a_span.1))).1 (rw size samples)).1 inside

    -- where the steps give a span first, the call answers it, the rows are its words, and the other steps go on behind it
    record First (p : ℕ) (rows : List ℕ) (k : ℕ) (e : Found Reading) (list : List (Found Reading)) : Type 0 where
      answer : next_of f r p (length rows) ≡ given (some (record { place = e.place; delivery = e.reading.values }))
      words : rows_next f r p rows ≡ e.reading.words
      more : steps_from k f r (e.place + n) (rows_next f r p rows) ≡ list

    first : (p : ℕ) (rows : List ℕ) (k : ℕ) (e : Found Reading) (list : List (Found Reading)) → length rows ≡ m → p ≤ length r
        → steps_from (suc k) f r p rows ≡ e ∷ list → First p rows k e list
    unfolding run_from
    first p rows k e list size inside steps =
        let (o, is) = not_refused p rows size inside in
        let words = rows_next f r p rows in
        let others = steps_from k f r (after_next f r p (length rows)) words in
        let x = added o words others e list (sym (ap (λ (a : Answer (Option Spanned)). onward a words others) is) ∙ steps) in
        let answer = is ∙ ap given x.is_answer in
        let place : after_next f r p (length rows) ≡ e.place + n = (demand_1.next_some f r p rows _ answer).1 ∙ rw n_is refl in
        record { answer = answer; words = x.are_words; more = ap (λ (q : ℕ). steps_from k f r q words) (sym place) ∙ x.is_more }

    -- where they give none, so does the call
    last : (p : ℕ) (rows : List ℕ) (k : ℕ) → length rows ≡ m → p ≤ length r → steps_from (suc k) f r p rows ≡ []
        → next_of f r p (length rows) ≡ given none
    unfolding run_from
    last p rows k size inside steps =
        let (o, is) = not_refused p rows size inside in
        let words = rows_next f r p rows in
        let others = steps_from k f r (after_next f r p (length rows)) words in
        is ∙ ap given (nothing_added o words others (sym (ap (λ (a : Answer (Option Spanned)). onward a words others) is) ∙ steps))

  -- ---- a span among noise

  -- less than a span delivers nothing
  quiet : (d : List ℕ) → length d < n → delivery_from f d 0 ≡ []
  quiet d h =
      let short : length d < symbols_in (shape_of f) = omega (arith, n_is) in
      let k = (known_says f).holds known in
      nothing f k d (omega arith) (too_few (symbols_in (shape_of f)) (reading f) (span_whole f k) d short)

  -- a sent span has n symbols
  sent_n : (x : Sending) → WasSent f x → length (sent_symbols f x) ≡ n
  sent_n x sent = sent_long f x sent ∙ sym n_is

  -- it has m words of the picture
  m_is : m ≡ 1920 * streams (shape_of f)
  m_is = eqb-true m (1920 * streams (shape_of f)) ((samples_say f known m).holds samples)

  as_many_words : (x : Sending) → length (reading_of f x).words ≡ m
  as_many_words x =
      length_upto 1920 (picture f x.asked) (length_picture f x.asked) (streams (shape_of f)) ∙ sym m_is

  -- the words of line 42 are 16
  lowest_word : (t : ℕ) → sample_word f 42 t (lowest_sample f) ≡ 16
  unfolding within
  lowest_word t =
      ⊎_elim
      (λ e. ap (sample_word f 42 t) (at_ten e) ∙ simp (eq-eqb f.depth 10 e))
      (λ e. ap (sample_word f 42 t) (at_twelve e) ∙ simp (ne_eqb f.depth 10 (λ z. omega arith)))
      known.bits

  dark_word : (t j : ℕ) → j < 1920 → 1920 * t + j < m → get_or (picture f (request 42 NoneNamed (replicate m (lowest_sample f))) t) j 0 ≡ 16
  unfolding picture
  dark_word t j h inside =
      get_d_table 1920 (λ k. sample_word f 42 t (get_or (replicate m (lowest_sample f)) (1920 * t + k) 0)) j 0 h
      ∙ ap (sample_word f 42 t) (get_or-replicate m (1920 * t + j) (lowest_sample f) 0 inside)
      ∙ lowest_word t

  dark : (d : Disparity) → (reading_of f (on_line42 f m d)).words ≡ replicate m 16
  dark d =
      let s = streams (shape_of f) in
      let a = request 42 NoneNamed (replicate m (lowest_sample f)) in
      let words = upto s (picture f a) in
      let long : length words ≡ m = as_many_words (on_line42 f m d) in
      ext_get_or 0 words (replicate m 16) (long ∙ sym (length-replicate m 16))
      (λ i h.
      let inside : i < 1920 * s = omega (arith, long, m_is) in
      let t = i / 1920 in
      let j = i % 1920 in
      let place : i ≡ 1920 * t + j = omega arith in
      ap (λ (k : ℕ). get_or words k 0) place
      ∙ get_d_upto 1920 (picture f a) (length_picture f a) s t j 0 (omega arith) (omega arith)
      ∙ dark_word t j (omega arith) (omega (arith, m_is))
      ∙ sym (get_or-replicate m i 16 0 (omega (arith, m_is))))

  module _ (d : Disparity) (before behind rows : List ℕ) (p : length before < n) (q : length behind < n) (size : length rows ≡ m) where
    abbrev x : Sending
    x = on_line42 f m d

    abbrev r : List ℕ
    r = before ++ (sent_symbols f x ++ behind)

    all : length r ≡ length before + (n + length behind)
    all =
        length-append before (sent_symbols f x ++ behind)
        ∙ ap (λ (l : ℕ). length before + l) (length-append (sent_symbols f x) behind ∙ ap (λ (l : ℕ). l + length behind) (sent_n x (sent_42 d)))

    short : length r ≤ 3 * n
    short = omega (arith, all, p, q)

    abbrev here : Found Reading
    here = record { place = length before; reading = reading_of f x }

    alone_here : DeliveredFrom f r 0 (here ∷ [])
    unfolding moved_by
    alone_here = rw (quiet before p, quiet behind q) at (demand_3.anywhere f x before behind (sent_42 d) (within_limit r short))

    found_42 : First r short 0 rows (suc (length r)) here []
    found_42 =
        first r short 0 rows (suc (length r)) here [] size (omega arith)
        (alone_here rows (rw size samples) (suc (suc (length r))) (omega arith))

    after_42 : next_of f r (length before + n) m ≡ given none
    after_42 =
        let words = rows_next f r 0 rows in
        let room : length words ≡ m = ap length (found_42.words ∙ dark d) ∙ length-replicate m 16 in
        rw room at (last r short (length before + n) words (length r) room (omega (arith, all)) found_42.more)

    among_noise :
        IsNext f r 0 m (length before) 42
        × (rows_next f r 0 rows ≡ replicate m 16)
        × (next_of f r (length before + n) m ≡ given none)
    among_noise = (
      record { delivery = (reading_of f x).values; answer = rw size at found_42.answer; names = refl },
      found_42.words ∙ dark d,
      after_42,
    )

    -- in two pieces
    module _ (c : ℕ) where
      abbrev pieces : List (List ℕ)
      pieces = take c r ∷ drop c r ∷ []

      fits : (piece : List ℕ) → length piece ≤ length r → PieceFits f piece
      fits piece h = omega (arith, short, h, n_is, demand_3.recordings.the_limit, of_a_span.1)

      joined : arrived pieces ≡ r
      unfolding concatenated
      joined = ap (λ (l : List ℕ). take c r ++ l) (append-nil (drop c r)) ∙ take-append-drop c r

      cut_in_two :
          (v : Delivery)
          × (v.line.0 ≡ 42)
          × (live_from f rows 0 [] pieces ≡ record { place = length before; reading = record { values = v; words = replicate m 16 } } ∷ [])
      unfolding moved_by
      cut_in_two =
          let each : Each (PieceFits f) pieces = (fits (take c r) (omega (arith, length-take c r)), (fits (drop c r) (omega (arith, length-drop c r)), tt)) in
          let found = live.anywhere f x before behind (sent_42 d) rows (rw size samples) pieces each joined in
          let one : live_from f rows 0 [] pieces ≡ here ∷ [] = rw (quiet before p, quiet behind q) at found in
          ((reading_of f x).values, refl, one ∙ ap (λ (words : List ℕ). record { place = length before; reading = record { values = (reading_of f x).values; words = words } } ∷ []) (dark d))

  -- ---- three spans, with a bit of the second inverted
  module _ (i k : ℕ) (h : i < n) (l : k < 10) where
    abbrev line : ℕ → Sending
    line = blank_line f m

    abbrev three : List ℕ
    three = three_lines f m i k

    sent_line : (j : ℕ) → 1 ≤ j → j ≤ 41 → length (sent_symbols f (line j)) ≡ n
    sent_line j p q = sent_n (line j) (sent_blank j p q)

    abbrev harmed : List ℕ
    harmed = set (sent_symbols f (line 2)) i (inverted k (get_or (sent_symbols f (line 2)) i 0))

    three_long : length three ≡ 3 * n
    three_long =
        length-append (sent_symbols f (line 1)) (harmed ++ sent_symbols f (line 3))
        ∙ omega (arith, length-append harmed (sent_symbols f (line 3)), length-set (sent_symbols f (line 2)) i (inverted k (get_or (sent_symbols f (line 2)) i 0)), sent_line 1 (omega arith) (omega arith), sent_line 2 (omega arith) (omega arith), sent_line 3 (omega arith) (omega arith))

    three_short : length three ≤ 3 * n
    three_short = omega (arith, three_long)

    abbrev at : ℕ → ℕ → Found Reading
    at place j = record { place = place; reading = reading_of f (line j) }

    -- one span alone is its symbols, and its reading at its place
    one_alone : (j : ℕ) → concatenated (sent_symbols f) (line j ∷ []) ≡ sent_symbols f (line j)
    unfolding concatenated
    one_alone j = append-nil (sent_symbols f (line j))

    both_others : DeliveredFrom f three 0 (at 0 1 ∷ at (2 * n) 3 ∷ [])
    unfolding placed_from
    both_others =
        let place : symbols_in (shape_of f) * 1 + symbols_in (shape_of f) ≡ 2 * n = omega (arith, n_is) in
        rw (one_alone 1, one_alone 3, place)
        at (demand_3.one_inverted f (line 1 ∷ []) (line 3 ∷ []) (line 2) i k
        (sent_blank 1 (omega arith) (omega arith), tt) (sent_blank 2 (omega arith) (omega arith)) (sent_blank 3 (omega arith) (omega arith), tt)
        (omega (arith, n_is)) l (rw (one_alone 1, one_alone 3) (within_limit three three_short)))

    -- so the calls answer line 1 at 0, line 3 at 2n, and then none, whatever rows are lent
    one_of_three : IsNext f three 0 m 0 1 × IsNext f three n m (2 * n) 3 × (next_of f three (3 * n) m ≡ given none)
    one_of_three =
        let K = length three in
        let rows : List ℕ = replicate m 0 in
        let size : length rows ≡ m = length-replicate m 0 in
        let one =
        first three three_short 0 rows (suc (suc K)) (at 0 1) (at (2 * n) 3 ∷ []) size (omega arith)
        (both_others rows (rw size samples) (suc (suc (suc K))) (omega arith)) in
        let rows-1 = rows_next f three 0 rows in
        let size-1 : length rows-1 ≡ m = ap length one.words ∙ as_many_words (line 1) in
        let two =
        first three three_short (0 + n) rows-1 (suc K) (at (2 * n) 3) [] size-1 (omega (arith, three_long)) one.more in
        let rows-2 = rows_next f three (0 + n) rows-1 in
        let size-2 : length rows-2 ≡ m = ap length two.words ∙ as_many_words (line 3) in
        let none_left = last three three_short (2 * n + n) rows-2 K size-2 (omega (arith, three_long)) two.more in
        let end : 2 * n + n ≡ 3 * n = omega arith in (
          record { delivery = (reading_of f (line 1)).values; answer = rw size at one.answer; names = refl },
          record { delivery = (reading_of f (line 3)).values; answer = rw (size-1, zero-add n) at two.answer; names = refl },
          rw (size-2, end) at none_left,
        )

  -- ---- a sample that may not be sent
  module _ (d : Disparity) (i : ℕ) (entry : List ℕ) (h : i < m) (room : length entry ≡ n) where
    abbrev wrong : Request
    wrong = request 42 NoneNamed (set (replicate m (lowest_sample f)) i 3)

    abbrev given_there : ℕ → ℕ
    given_there k = get_or wrong.samples k 0

    size : length wrong.samples ≡ m
    size = length-set (replicate m (lowest_sample f)) i 3 ∙ length-replicate m (lowest_sample f)

    -- at its index, and at no other, is a sample that may not be sent
    not_there : MaySend f 42 (given_there i) → ⊥
    not_there may =
        let three : given_there i ≡ 3 = get_or-set_same (replicate m (lowest_sample f)) i 3 0 (omega (arith, length-replicate m (lowest_sample f))) in
        ⊎_elim
        (λ e. absurd (omega (arith, (may.ten e (omega arith) (omega arith)).0, three)))
        (λ e. absurd (omega (arith, (may.twelve e (omega arith) (omega arith)).0, three)))
        known.bits

    elsewhere : (k : ℕ) → k < m → (k ≡ i → ⊥) → MaySend f 42 (given_there k)
    elsewhere k b other =
        let same : given_there k ≡ lowest_sample f = get_or-set_other (replicate m (lowest_sample f)) i k 3 0 other ∙ get_or-replicate m k (lowest_sample f) 0 b in
        rw same lowest_may

    refused_6 : (send_of d f wrong n ≡ refused 6 i) × (sent_buffer d f wrong entry ≡ entry)
    refused_6 =
        let send = demand_1.send d f wrong entry in
        let bad : ((k : ℕ) → k < length wrong.samples → MaySend f 42 (given_there k)) → ⊥ =
        λ all. not_there (all i (omega (arith, size))) in
        let (k, (b, out, before), e) =
        ((((send.0.1 known).1 (omega arith, omega arith)).1 (rw size samples)).1 (rw room symbols)).0 bad in
        let first : k ≡ i =
        on_test (eqb k i) (eqb-true k i)
        (λ t. absurd (out (elsewhere k (omega (arith, size)) (eqb-false k i t)))) in
        let e-i : send_of d f wrong (length entry) ≡ refused 6 i = e ∙ ap (λ (j : ℕ). refused 6 j) first in
        (rw room at e-i, send.1.untouched 6 i e-i)

  -- ---- the blanking words exchanged
  other_blank : (line : ℕ) → line ≤ 41 → MaySend f line (other_sample f) → ⊥
  other_blank line q may =
      let blank = may.blanking (λ a b. omega arith) in
      on_test (ltb f.component 5)
      (λ t.
      let is : other_sample f ≡ 0x800 = simp t in
      let h = ltb-true f.component 5 t in
      omega (arith, is, blank.is100 (omega arith)))
      (λ t.
      let is : other_sample f ≡ 0x100 = simp t in
      omega (arith, is, blank.is800 (ltb-false f.component 5 t)))

  module _ (d : Disparity) (line : ℕ) (entry : List ℕ) (p : 1 ≤ line) (q : line ≤ 41) (room : length entry ≡ n) where
    abbrev exchanged : Request
    exchanged = request line NoneNamed (replicate m (other_sample f))

    exchanged_long : length exchanged.samples ≡ m
    exchanged_long = length-replicate m (other_sample f)

    never : (k : ℕ) → k < m → MaySend f line (get_or exchanged.samples k 0) → ⊥
    never k h may = other_blank line q (rw (get_or-replicate m k (other_sample f) 0 h) at may)

    exchanged_6 : (send_of d f exchanged n ≡ refused 6 0) × (sent_buffer d f exchanged entry ≡ entry)
    exchanged_6 =
        let some : 0 < m = ⊎_elim (λ x. omega (arith, x.1)) (⊎_elim (λ x. omega (arith, x.1)) (λ x. omega (arith, x.1))) samples in
        let send = demand_1.send d f exchanged entry in
        let (k, (b, out, before), e) =
        ((((send.0.1 known).1 (p, omega arith)).1 (rw exchanged_long samples)).1 (rw room symbols)).0
        (λ all. never 0 some (all 0 (omega (arith, exchanged_long)))) in
        let first : k ≡ 0 =
        on_test (eqb k 0) (eqb-true k 0)
        (λ t. absurd (never 0 some (before 0 (omega (arith, eqb-false k 0 t))))) in
        let e-0 : send_of d f exchanged (length entry) ≡ refused 6 0 = e ∙ ap (λ (j : ℕ). refused 6 j) first in
        (rw room at e-0, send.1.untouched 6 0 e-0)

  at_format : At f n m
  at_format = record {
    exchanged6 = exchanged_6;
    row = row;
    sent42 = sent_42;
    sent_blank = sent_blank;
    among_noise = among_noise;
    cut_in_two = cut_in_two;
    one_of_three = one_of_three;
    refused6 = refused_6;
    refused20 = refused_20 f n m known symbols samples;
    crcc_stands = crcc_stands f known;
    repaired = λ d b h. one_wrong f m known d (sent_42 d) b h;
    refused21 = λ d b c h l. two_wrong f m known d (sent_42 d) b c h l;
  }

-- what is no format is refused with 1
no_format : (f : Format) → (IsFormat f → ⊥) → lengths_of f ≡ refused 1 0
no_format f never = let (k, p, e) = (demand_1.lengths f).0 never in e ∙ ap (λ (j : ℕ). refused 1 j) p

pub examples : Examples
examples = record {
  every_format = at_format;
  no_format4 = no_format (format_from 4 12 1 1 1) (λ k. omega (arith, k.to));
  no_depth11 = no_format (format_from 1 11 1 1 1) (λ k. ⊎_elim (λ x. omega (arith, x)) (λ x. omega (arith, x)) k.bits);
  no_component0 = no_format (format_from 1 12 0 1 1) (λ k. omega (arith, k.component.0));
  no_component7 = no_format (format_from 1 12 7 1 1) (λ k. omega (arith, k.component.1));
  no_structure0 = no_format (format_from 1 12 1 0 1) (λ k. omega (arith, k.structure));
  no_size0 = no_format (format_from 1 12 1 1 0) (λ k. omega (arith, k.size));
  divides = divides;
}
