-- A window that is read has the words of the span sent for its answer, XYZ and ancillary area apart; with no repair, and with blanking where
-- blanking is sent, it is that span.
-- Assumes nothing.
use mathlib.Core.Path.{◌≡◌, sym, ap, ◌∙◌}
use mathlib.Core.Bool.{true, false}
use mathlib.Core.List.{List, map}
use mathlib.Core.Logic.{inl, inr, ⊎_elim}
use Prim.Native.Nat.{ℕ, ◌+◌, ◌-◌, ◌*◌, ◌/◌, ◌%◌, ◌≤◌, ◌<◌}
use native.Mathlib.Nat.{div-lt_iff_lt-mul, le-div_iff_mul-le}
use native.Mathlib.Omega.{arith}
use lib.ListN.{length, get_or, length-map, get_or-map}
use borrow.Author.Tests.{eq-eqb}
use Rattle.ground.specs.Answer.{given}
use Rattle.ground.specs.Written.{table}
use Rattle.ground.proofs.Cases.{on_test}
use Rattle.ground.proofs.Writing.{length_table, get_d_table, is_table, get_d_upto}
use Rattle.line.specs.Stream.{is_line, is_active}
use Rattle.line.proofs.Lines.{before_is_line}
use Rattle.std.specs.Prelude.{Some as Named}
use Rattle.span.specs.declared.content.ContentBytes.{ContentBytes}
use Rattle.span.specs.declared.format.Format.{Format}
use Rattle.span.specs.Encoding.{symbols_from}
use Rattle.span.specs.Format.{is_known, shape_of, streams, samples_in, pairs_in, symbols_in}
use Rattle.span.specs.Sample.{blank_word, allowed, sample_word}
use Rattle.span.specs.Span.{span_words, span_symbols}
use Rattle.span.specs.Stream.{Request, register}
use Rattle.span.specs.Layout.{picture_start, eav_start, line_start, ancillary_start, sav_xyz, eav_xyz}
use Rattle.span.proofs.Formats.{known_told}
use Rattle.span.proofs.Lengths.{known_has_streams, length_words}
use Rattle.span.proofs.Places.{sav_words, picture_word_lem, eav_words, line_number_words, crcc_words_lem, ancillary_blank, fill_word_lem}
use Rattle.crcc.specs.Crcc.{crcc_words}
use Rattle.packing.specs.Sample.{allowed_word}
use Rattle.packing.proofs.Samples.{received_ten, received_twelve}
use Rattle.word.specs.Repair.{distance}
use Rattle.window.specs.declared.delivery.Delivery.{Delivery}
use Rattle.window.specs.Encoded.{chars_of, AreContent, word_in, IsXyz, sample_of, request_of, SentBut}
use Rattle.window.specs.Read.{content_in, delivery_of, picture_of, read_span}
use Rattle.window.specs.Scan.{start_of}
use Rattle.window.specs.Tests.{may_bring, word_of, column, rows, next_line, line_read, register_of, repair_count}
use Rattle.window.specs.Words.{word_at}
use Rattle.window.specs.Inside.Encoded.{Passes, Sendable, samples_read, request_for, request_again}
use Rattle.window.proofs.Accepting.{Accepted, accepted_told, delivers}
use Rattle.window.proofs.Bytes.{word_below}
use Rattle.window.proofs.Exact.{encoded_again, accepted_encodes}
use Rattle.window.proofs.Meeting.{sav_told, eav_told, fill_told, ln0_told, ln1_told, sav_near, eav_near, eav_repaired, sav_xyz_lem, eav_xyz_lem, crcc0_told, crcc1_told, picture_told}
use Rattle.window.proofs.Placing.{place_again, stream_below, split, four, each_of_two}
use Rattle.window.proofs.RoundTrip.{sent_chars}
use Rattle.window.proofs.Sent.{register_is}
use Rattle.window.proofs.Windows.{length_rows}

-- ---- samples

-- a word that stream t of line n may bring is the one sent for its sample
module _ (f : Format) (known : is_known f ≡ true) (n t x : ℕ) (may : may_bring f n t x ≡ true) where
  sample_back : sample_word f n t (sample_of f n x) ≡ x
  sample_back =
      on_test (is_active n)
      (λ active.
      let ok : allowed_word f.depth x ≡ true = rw active at may in
      ⊎_elim
      (λ e. rw active (rw e (received_ten x (rw e at ok)).1))
      (λ e. rw active (rw e (received_twelve x (rw e at ok)).1))
      (known_told f known).bits)
      (λ b. rw b)

  -- which may be sent, if it is blanking on a blanking line
  sample_allowed : (is_active n ≡ false → x ≡ blank_word f) → allowed f n t (sample_of f n x) ≡ true
  sample_allowed blanking =
      on_test (is_active n)
      (λ active.
      let ok : allowed_word f.depth x ≡ true = rw active at may in
      ⊎_elim
      (λ e. rw active (rw e (received_ten x (rw e at ok)).0))
      (λ e. rw active (rw e (received_twelve x (rw e at ok)).0))
      (known_told f known).bits)
      (λ b. rw b (eq-eqb x (blank_word f) (blanking b)))

-- ---- words

module _ (f : Format) (known : is_known f ≡ true) (word : ℕ → ℕ) (m : Passes f word) (c : ContentBytes) where
  abbrev s : ℕ
  s = streams (shape_of f)

  abbrev a : Request
  a = request_for f c word

  has_streams : 1 ≤ s
  has_streams = omega (arith, known_has_streams f known)

  -- sample i
  sample_at : (i : ℕ) → i < samples_in (shape_of f)
      → get_or a.samples i 0 ≡ sample_of f a.line (word_of s word (picture_start + i % 1920) (i / 1920))
  sample_at i h = get_d_table (samples_in (shape_of f)) _ i 0 h

  -- words of stream t: as they are, and as they are sent
  module _ (t : ℕ) (l : t < s) where
    abbrev at : ℕ → ℕ
    at j = word_of s word j t

    abbrev sent : ℕ → ℕ
    sent j = get_or (span_words f a) (s * j + t) 0

    -- the first three words of the SAV
    sav_same : (j : ℕ) → j < 3 → sent j ≡ at j
    sav_same j h =
        let is = sav_words f a t l in
        let told = sav_told f word t l m.timing in
        four (λ j. j < 3 → sent j ≡ at j)
        (λ _. is.0 ∙ sym told.0)
        (λ _. is.1 ∙ sym told.1)
        (λ _. is.2 ∙ sym told.2)
        (λ x. absurd (omega arith)) j (omega arith) h

    -- the picture, sample by sample
    sample_of_lem : (i : ℕ) → i < 1920 → get_or a.samples (1920 * t + i) 0 ≡ sample_of f a.line (at (picture_start + i))
    sample_of_lem i h =
        let q : (1920 * t + i) / 1920 ≡ t = omega arith in
        let r : (1920 * t + i) % 1920 ≡ i = omega arith in
        sample_at (1920 * t + i) (omega arith) ∙ rw (q, r)

    sample_same : (i : ℕ) → i < 1920 → sample_word f a.line t (get_or a.samples (1920 * t + i) 0) ≡ at (picture_start + i)
    sample_same i h =
        ap (sample_word f a.line t) (sample_of_lem i h)
        ∙ sample_back f known a.line t (at (picture_start + i)) (picture_told f word m t l i h)

    picture_same : (i : ℕ) → i < 1920 → sent (picture_start + i) ≡ at (picture_start + i)
    picture_same i h = picture_word_lem f a t l i h ∙ sample_same i h

    -- the register: over the same words
    register_same : register_of s word t ≡ register f a t
    register_same =
        let told = eav_told f word t l m.timing in
        register_is f a word t (λ i h. sym (sample_same i h)) (told.0, told.1, told.2) (eav_repaired f word m t l)
        (ln0_told f word m t l, ln1_told f word m t l)

    -- from the EAV to the CRCC, XYZ apart
    eav_same : (i : ℕ) → i < 3 → sent (eav_start + i) ≡ at (eav_start + i)
    eav_same i h =
        let is = eav_words f a t l in
        let told = eav_told f word t l m.timing in
        four (λ i. i < 3 → sent (eav_start + i) ≡ at (eav_start + i))
        (λ _. is.0 ∙ sym told.0)
        (λ _. is.1 ∙ sym told.1)
        (λ _. is.2 ∙ sym told.2)
        (λ x. absurd (omega arith)) i (omega arith) h

    number_same : (i : ℕ) → i < 4 → sent (line_start + i) ≡ at (line_start + i)
    number_same =
        four (λ i. sent (line_start + i) ≡ at (line_start + i))
        ((line_number_words f a t l).0 ∙ sym (ln0_told f word m t l))
        ((line_number_words f a t l).1 ∙ sym (ln1_told f word m t l))
        ((crcc_words_lem f a t l).0 ∙ ap (λ (r : ℕ). (crcc_words r).crcc0) (sym register_same) ∙ sym (crcc0_told f word m t l))
        ((crcc_words_lem f a t l).1 ∙ ap (λ (r : ℕ). (crcc_words r).crcc1) (sym register_same) ∙ sym (crcc1_told f word m t l))

    -- every word before the ancillary area that is not an XYZ
    early_same : (j : ℕ) → j < ancillary_start → (IsXyz j → ⊥) → sent j ≡ at j
    early_same j h x =
        split j 4 (λ b. sav_same j (let n : j ≡ 3 → ⊥ = λ e. x (inl e) in omega arith))
        (λ i e.
        split j eav_start (λ b. rw e (picture_same i (omega arith)))
        (λ i e.
        split j line_start
        (λ b.
        let n : j ≡ 1927 → ⊥ = λ q. x (inr q) in
        rw e (eav_same i (omega arith)))
        (λ i e. rw e (number_same i (omega arith)))))

    -- each XYZ is near the one sent
    xyz_near : (j : ℕ) → IsXyz j → distance (at j) (sent j) ≤ 1
    xyz_near j =
        ⊎_elim
        (λ e. rw (e, (sav_words f a t l).3) (sav_near f word m t l))
        (λ e. rw (e, (eav_words f a t l).3) (eav_near f word m t l))

  -- a place by word and stream
  place : (k : ℕ) → k ≡ s * (k / s) + k % s
  place k = sym (place_again s has_streams k)

  -- the fill
  fill_same : (k : ℕ) → k < 2 * pairs_in (shape_of f) → s * (ancillary_start + (shape_of f).ancillary) ≤ k → get_or (span_words f a) k 0 ≡ word k
  fill_same k h past =
      let i = k - s * (ancillary_start + (shape_of f).ancillary) in
      let e : k ≡ s * (ancillary_start + (shape_of f).ancillary) + i = omega arith in
      ap (λ (i : ℕ). get_or (span_words f a) i 0) e ∙ fill_word_lem f a i (omega arith) ∙ sym (fill_told f word m has_streams k past h)

  -- so all words are those that are sent, XYZ and ancillary area apart
  sent_but : SentBut f a word
  sent_but = record { same = same; near = near }
    where
      same : (k : ℕ) → k < 2 * pairs_in (shape_of f) → (IsXyz (k / streams (shape_of f)) → ⊥)
          → (1932 ≤ k / streams (shape_of f) → k / streams (shape_of f) < 1932 + (shape_of f).ancillary → ⊥)
          → word k ≡ word_in (span_words f a) k
      same k h x out =
          split (k / s) ancillary_start
          (λ b.
          sym
          (ap (λ (i : ℕ). get_or (span_words f a) i 0) (place k)
          ∙ early_same (k % s) (stream_below s has_streams k) (k / s) b x
          ∙ ap word (sym (place k))))
          (λ i e.
          split (k / s) (ancillary_start + (shape_of f).ancillary) (λ b. absurd (out (omega arith) b))
          (λ i e.
          let past : ancillary_start + (shape_of f).ancillary ≤ k / s = omega arith in
          sym (fill_same k h (omega (arith, (le-div_iff_mul-le has_streams).0 past)))))

      near : (k : ℕ) → k < 2 * pairs_in (shape_of f) → IsXyz (k / streams (shape_of f)) → distance (word k) (word_in (span_words f a) k) ≤ 1
      near k h x =
          rw (place_again s has_streams k) at (xyz_near (k % s) (stream_below s has_streams k) (k / s) x)

  -- ---- where nothing was repaired, and blanking is where it is sent
  module _ (small : (k : ℕ) → word k < 4096) (none_wrong : repair_count (streams (shape_of f)) word ≡ 0)
      (blankAncillary : (j t : ℕ) → ancillary_start ≤ j → j < ancillary_start + (shape_of f).ancillary → t < streams (shape_of f)
      → word_of (streams (shape_of f)) word j t ≡ blank_word f)
      (blank_line : is_active (line_read (streams (shape_of f)) word) ≡ false → (j t : ℕ) → picture_start ≤ j → j < eav_start → t < streams (shape_of f)
      → word_of (streams (shape_of f)) word j t ≡ blank_word f) where
    -- all words of a stream
    stream_same : (t : ℕ) (l : t < s) (j : ℕ) → j < ancillary_start + (shape_of f).ancillary → sent t l j ≡ at t l j
    stream_same t l =
        each_of_two sav_xyz eav_xyz
        (λ h. (sav_words f a t l).3 ∙ sym (sav_xyz_lem f word m t l small none_wrong))
        (λ h. (eav_words f a t l).3 ∙ sym (eav_xyz_lem f word m t l small none_wrong))
        (λ j x y h.
        split j ancillary_start (λ b. early_same t l j b (⊎_elim x y))
        (λ i e.
        rw e (ancillary_blank f a t l i (omega arith) ∙ sym (blankAncillary (ancillary_start + i) t (omega arith) (omega arith) l))))

    -- all words
    word_same : (k : ℕ) → k < 2 * pairs_in (shape_of f) → get_or (span_words f a) k 0 ≡ word k
    word_same k h =
        split k (s * (ancillary_start + (shape_of f).ancillary))
        (λ b.
        ap (λ (i : ℕ). get_or (span_words f a) i 0) (place k)
        ∙ stream_same (k % s) (stream_below s has_streams k) (k / s) ((div-lt_iff_lt-mul has_streams).1 (omega arith))
        ∙ ap word (sym (place k)))
        (λ i e. fill_same k h (omega arith))

    -- as lists
    words_same : span_words f a ≡ table (2 * pairs_in (shape_of f)) word
    words_same = is_table (2 * pairs_in (shape_of f)) word 0 (span_words f a) (length_words f a) word_same

    -- every sample is allowed
    all_allowed_lem : (i : ℕ) → i < samples_in (shape_of f) → allowed f a.line (i / 1920) (get_or a.samples i 0) ≡ true
    all_allowed_lem i h =
        let l : i / 1920 < s = omega arith in
        let b : i % 1920 < 1920 = omega arith in
        rw (sample_at i h)
        (sample_allowed f known a.line (i / 1920) (at (i / 1920) l (picture_start + i % 1920))
        (picture_told f word m (i / 1920) l (i % 1920) b)
        (λ x. blank_line x (picture_start + i % 1920) (i / 1920) (omega arith) (omega arith) l))

    -- the line is one
    line_is_line : is_line a.line ≡ true
    unfolding line_read
    line_is_line = before_is_line (next_line s word)

    -- so all of it may be sent
    sendable : AreContent c → Sendable f a
    sendable ok =
        let long : length a.samples ≡ samples_in (shape_of f) = length_table (samples_in (shape_of f)) _ in
        record {
          known = known;
          line = line_is_line;
          content = ok;
          long = long;
          allowed = λ i h. all_allowed_lem i (rw long at h);
        }

-- ---- a window that is read

-- its answer as a request: the samples are those of its picture words, in their order
module _ (f : Format) (w : List ℕ) where
  abbrev st : ℕ
  st = streams (shape_of f)

  abbrev line : ℕ
  line = line_read st (word_at (shape_of f) w)

  picture_at : (i : ℕ) → i < 1920 * st
      → get_or (picture_of f w) i 0 ≡ word_of st (word_at (shape_of f) w) (picture_start + i % 1920) (i / 1920)
  unfolding picture_of rows
  picture_at i h =
      let col = column st (word_at (shape_of f) w) picture_start 1920 in
      let e : i ≡ 1920 * (i / 1920) + i % 1920 = omega arith in
      let l : i % 1920 < 1920 = omega arith in
      ap (λ (k : ℕ). get_or (picture_of f w) k 0) e
      ∙ get_d_upto 1920 col (λ t. length_table 1920 _) st (i / 1920) (i % 1920) 0 (omega arith) l
      ∙ get_d_table 1920 (λ k. word_of st (word_at (shape_of f) w) (picture_start + k) (i / 1920)) (i % 1920) 0 l

  same_samples : map (sample_of f line) (picture_of f w) ≡ samples_read f (word_at (shape_of f) w)
  unfolding picture_of
  same_samples =
      is_table (samples_in (shape_of f)) _ (sample_of f line 0) (map (sample_of f line) (picture_of f w))
      (length-map (picture_of f w) (sample_of f line) ∙ length_rows st (word_at (shape_of f) w))
      (λ i h. get_or-map (sample_of f line) (picture_of f w) i 0 ∙ ap (sample_of f line) (picture_at i h))

  request_again_lem : (r : Delivery) → read_span f w ≡ given r → request_again f w ≡ request_of f r (picture_of f w)
  unfolding delivery_of
  request_again_lem r e =
      let q : request_of f r (picture_of f w) ≡ request_of f (delivery_of f w) (picture_of f w) =
      ap (λ (r : Delivery). request_of f r (picture_of f w)) (delivers f w r e) in
      ap (λ (l : List ℕ). record { line = line; content = Named (content_in (shape_of f) w); samples = l }) (sym same_samples) ∙ sym q

module _ (f : Format) (w : List ℕ) (known : is_known f ≡ true) (r : Delivery) (e : read_span f w ≡ given r) where
  -- every word is that of the span sent for its answer, XYZ and ancillary area apart
  pub strict : SentBut f (request_of f r (picture_of f w)) (word_at (shape_of f) w)
  strict =
      rw (request_again_lem f w r e)
      at (sent_but f known (word_at (shape_of f) w) (accepted_told f w r e).words (content_in (shape_of f) w))

  -- ---- where nothing was repaired, and blanking is where it is sent
  module _ (long : length w ≡ symbols_in (shape_of f)) (none_wrong : repair_count (streams (shape_of f)) (word_at (shape_of f) w) ≡ 0)
      (blankAncillary : (j t : ℕ) → ancillary_start ≤ j → j < ancillary_start + (shape_of f).ancillary → t < streams (shape_of f)
      → word_of (streams (shape_of f)) (word_at (shape_of f) w) j t ≡ blank_word f)
      (blank_line : is_active (line_read (streams (shape_of f)) (word_at (shape_of f) w)) ≡ false → (j t : ℕ) → picture_start ≤ j → j < eav_start
      → t < streams (shape_of f) → word_of (streams (shape_of f)) (word_at (shape_of f) w) j t ≡ blank_word f) where
    abbrev acc : Accepted f w
    acc = accepted_told f w r e

    -- its answer may be sent
    pub sendable_again : Sendable f (request_of f r (picture_of f w))
    sendable_again =
        let p = shape_of f in
        rw (request_again_lem f w r e)
        at (sendable f known (word_at p w) acc.words (content_in p w) (word_below p w) none_wrong blankAncillary blank_line
        (accepted_encodes f w known long acc).content)

    -- and is sent as the window
    sent_as : w ≡ span_symbols (start_of w) f (request_again f w)
    unfolding span_symbols
    sent_as =
        let p = shape_of f in
        encoded_again f w known long acc
        ∙ ap (λ (l : List ℕ). symbols_from (start_of w) (chars_of p (content_in p w) l))
        (sym (words_same f known (word_at p w) acc.words (content_in p w) (word_below p w) none_wrong blankAncillary blank_line))
        ∙ ap (symbols_from (start_of w)) (sym (sent_chars f (request_again f w)))

    pub sent_again_lem : w ≡ span_symbols (start_of w) f (request_of f r (picture_of f w))
    sent_again_lem = sent_as ∙ ap (span_symbols (start_of w) f) (request_again_lem f w r e)
