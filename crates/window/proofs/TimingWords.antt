-- Wrong bits in timing words: with at most one in each XYZ the span is given as it was sent, and the first with two is where it is refused.
-- Assumes nothing.
use mathlib.Core.Path.{◌≡◌, refl, sym, ap, ap₂, ◌∙◌, fun_ext}
use mathlib.Core.Bool.{true, false}
use mathlib.Core.List.{List}
use mathlib.Core.Logic.{inl, inr, ⊎_elim}
use Prim.Native.Nat.{ℕ, ◌+◌, ◌*◌, ◌/◌, ◌%◌, ◌≤◌, ◌<◌}
use native.Mathlib.Omega.{arith}
use Rattle.ground.specs.Answer.{Answer, refused, given}
use Rattle.ground.specs.Range.{within}
use Rattle.ground.specs.Written.{upto}
use Rattle.symbol.specs.declared.disparity.Disparity.{Disparity}
use Rattle.line.specs.Stream.{v_of, line_after}
use Rattle.word.specs.Repair.{distance}
use Rattle.word.specs.Timing.{timing}
use Rattle.span.specs.declared.content.ContentBytes.{ContentBytes}
use Rattle.span.specs.declared.format.Format.{Format}
use Rattle.span.specs.Encoding.{symbols_from, after_run}
use Rattle.span.specs.Format.{is_known, shape_of, streams, pairs_in}
use Rattle.span.specs.Span.{span_words}
use Rattle.span.specs.Stream.{Request, picture}
use Rattle.span.proofs.Lengths.{known_has_streams}
use Rattle.span.proofs.Places.{word_at as sentAt, sav_words, eav_words}
use Rattle.window.specs.declared.delivery.Delivery.{Delivery}
use Rattle.window.specs.declared.delivery.Repairs.{Repairs}
use Rattle.window.specs.Encoded.{chars_of, AreContent, Encodes, word_in, IsXyz, Disturbed, wrong_at, wrong_bit_at, DisturbedBefore}
use Rattle.window.specs.Read.{placed, picture_of, read_span, repairs_of}
use Rattle.window.specs.Tests.{over_xyz, holds21}
use Rattle.window.specs.Words.{word_at}
use Rattle.window.specs.Inside.Encoded.{Restored, answered, Sendable}
use Rattle.window.proofs.Accepting.{passes_given}
use Rattle.window.proofs.Encoded.{Begins, encoded_scan, encoded_word, early_word, restored_sav, restored_words, encoded_read, encoded_picture}
use Rattle.window.proofs.Nearest.{none_near}
use Rattle.window.proofs.Placing.{word_of_place, place_again, stream_below, at_place}
use Rattle.window.proofs.Refusals.{meets_21}
use Rattle.window.proofs.Repaired.{timing_holds, disturbed_restored, near_line, near_rows, near_repairs, near_repairs_at, near_passes}

-- words that are those of a span that is sent, apart from its XYZ, have an encoding, with any content bytes
pub disturbed_encodes :
    (f : Format) (a : Request) (words : List ℕ)
    → Disturbed f a words
    → (d : Disparity) (c : ContentBytes)
    → AreContent c
    → Encodes f (symbols_from d (chars_of (shape_of f) c words)) d c words
disturbed_encodes f a words x d c good = record { symbols = refl; content = good; long = x.long; small = x.small }

-- an XYZ with two wrong bits does not pass
timing_fails :
    (f : Format) (a : Request) (word : ℕ → ℕ) (t : ℕ)
    → t < streams (shape_of f)
    → (j : ℕ)
    → IsXyz j
    → distance (word (streams (shape_of f) * j + t)) (sentAt f a j t) ≡ 2
    → holds21 (streams (shape_of f)) word j t ≡ false
unfolding holds21 within
timing_fails f a word t l j (inl e) d =
    let w = word (streams (shape_of f) * 3 + t) in
    let two : distance w (timing (v_of a.line) false) ≡ 2 = rw (e, (sav_words f a t l).3) at d in
    rw (e, none_near w (v_of a.line) false two)
timing_fails f a word t l j (inr e) d =
    let w = word (streams (shape_of f) * 1927 + t) in
    let two : distance w (timing (v_of (line_after a.line)) true) ≡ 2 = rw (e, (eav_words f a t l).3) at d in
    rw (e, none_near w (v_of (line_after a.line)) true two)

module _ (f : Format) (a : Request) (good : Sendable f a) (words : List ℕ) (disturbed : Disturbed f a words) where
  abbrev s : ℕ
  s = streams (shape_of f)

  abbrev n : ℕ
  n = 2 * pairs_in (shape_of f)

  has_streams : 1 ≤ s
  has_streams = omega (arith, known_has_streams f good.known)

  module _ (w : List ℕ) (d : Disparity) (c : ContentBytes) (e : Encodes f w d c words) where
    abbrev restored : Restored (shape_of f) words
    restored = disturbed_restored f a good words disturbed

    abbrev deliver : ℕ → Repairs → Answer Delivery
    deliver l r =
        given (record { line = record { 0 = l }; content = c; before = d; after = after_run d (chars_of (shape_of f) c words); repairs = r })

    -- ---- at most one wrong bit in each XYZ
    module _ (near : (k : ℕ) → k < n → IsXyz (k / s) → wrong_at f a words k ≤ 1) where
      -- the span is given with the line and the picture that were sent, and the wrong bits are counted
      pub repaired_delivered :
          (read_span f w
          ≡ given (record {
            line = record { 0 = a.line };
            content = c;
            before = d;
            after = after_run d (chars_of (shape_of f) c words);
            repairs = repairs_of (over_xyz s (wrong_at f a words)) (λ b. over_xyz s (wrong_bit_at f a words b));
          }))
          × (picture_of f w ≡ upto s (picture f a))
      repaired_delivered = (
        encoded_read f good.known w d c words e restored
            ∙ passes_given f (word_in words) (near_passes f a good words disturbed near) (answered f d c words)
            ∙ ap₂ deliver (near_line f a good words disturbed near)
            (ap₂ repairs_of (near_repairs f a good words disturbed near) (fun_ext (near_repairs_at f a good words disturbed near))),
        encoded_picture f good.known w d c words e restored ∙ near_rows f a good words disturbed near,
      )

-- ---- two in one of them, and whatever behind it
module _ (f : Format) (a : Request) (known : is_known f ≡ true) (words : List ℕ) (w : List ℕ) (d : Disparity) (c : ContentBytes)
    (e : Encodes f w d c words) (k : ℕ) (x : IsXyz (k / streams (shape_of f))) (before : DisturbedBefore f a words k) where
  abbrev st : ℕ
  st = streams (shape_of f)

  some : 1 ≤ st
  some = omega (arith, known_has_streams f known)

  -- word j of stream t, if it stands before
  kept : (j t : ℕ) → t < st → st * j + t < k → (IsXyz j → ⊥) → word_in words (st * j + t) ≡ sentAt f a j t
  kept j t l h y = before.same (st * j + t) h (λ z. y (rw (word_of_place st some j t l) at z))

  -- the place of the XYZ
  place : (j : ℕ) → k / st ≡ j → k ≡ st * j + k % st
  place j q = sym (place_again st some k) ∙ ap (λ (i : ℕ). st * i + k % st) q

  -- the SAV begins as it was sent, and so does the EAV, if the XYZ is of the EAV
  sav_begins : st * 3 ≤ k → Begins st words 0
  sav_begins h t l =
      let is = sav_words f a t l in (
        kept 0 t l (omega arith) (⊎_elim (λ q. omega arith) (λ q. omega arith)) ∙ is.0,
        kept 1 t l (omega arith) (⊎_elim (λ q. omega arith) (λ q. omega arith)) ∙ is.1,
      )

  eav_begins : st * 1927 ≤ k → Begins st words 1924
  eav_begins h t l =
      let is = eav_words f a t l in (
        kept 1924 t l (omega arith) (⊎_elim (λ q. omega arith) (λ q. omega arith)) ∙ is.0,
        kept 1925 t l (omega arith) (⊎_elim (λ q. omega arith) (λ q. omega arith)) ∙ is.1,
      )

  -- so the words that are read up to there are these
  read_there : (i : ℕ) → i ≤ k → word_at (shape_of f) w i ≡ word_in words i
  read_there i b =
      ⊎_elim
      (λ q.
      let at = place 3 q in
      let l = stream_below st some k in
      early_word f known w d c words e (restored_sav f known words e.long (sav_begins (omega arith))) i (omega arith))
      (λ q.
      let at = place 1927 q in
      let sav = sav_begins (omega arith) in
      let eav = eav_begins (omega arith) in
      ap (λ (word : ℕ → ℕ). word i) (encoded_word f known w d c words e (restored_words f known words e.long sav eav)))
      x

  -- test 21 does not hold there, and holds at every place before
  abbrev word : ℕ → ℕ
  word = word_at (shape_of f) w

  fails_there : wrong_at f a words k ≡ 2 → placed st (holds21 st word) k ≡ false
  fails_there two =
      timing_fails f a word (k % st) (stream_below st some k) (k / st) x
      (rw (place_again st some k) (ap (λ (y : ℕ). distance y (word_in (span_words f a) k)) (read_there k (omega arith)) ∙ two))

  holds_before : (i : ℕ) → i < k → placed st (holds21 st word) i ≡ true
  holds_before =
      at_place st some k (holds21 st word)
      (λ j t l b.
      let there = read_there (st * j + t) (omega arith) in
      timing_holds f a word t l j
      (λ y z. there ∙ kept j t l b (⊎_elim y z))
      (λ y.
      rw there (before.near (st * j + t) b (rw (word_of_place st some j t l) y))))

  -- the span is refused at it
  pub two_wrong : k < 2 * pairs_in (shape_of f) → wrong_at f a words k ≡ 2 → read_span f w ≡ refused 21 k
  two_wrong h two =
      meets_21 f w (encoded_scan f known w d c words e) k
      (record { place = h; there = fails_there two; before = holds_before })
