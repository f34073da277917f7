-- A span that was sent: it may be sent, in the terms of the reader's laws; it has its length; it is read as it was sent; with one bit inverted
-- it is not read.
-- Assumes nothing.
use mathlib.Core.Path.{◌≡◌, refl, ap, ◌∙◌}
use mathlib.Core.Bool.{Bool, true, false, cond}
use mathlib.Core.List.{List}
use mathlib.Core.Option.{Option, none, some}
use Prim.Native.Nat.{ℕ, ◌+◌, ◌*◌, ◌≤◌, ◌<◌}
use native.Mathlib.Omega.{arith}
use lib.ListN.{length, get_or, set, length-set}
use borrow.Author.Tests.{eqb-true, not-false}
use Rattle.ground.specs.Bit.{inverted}
use Rattle.ground.specs.Answer.{given}
use Rattle.ground.specs.Written.{table}
use Rattle.ground.proofs.Searches.{miss}
use Rattle.ground.proofs.Writing.{length_table, get_d_table}
use Rattle.crcc.specs.Crcc.{crc, crcc_words, crcc_of}
use Rattle.crcc.proofs.Crc.{crcc_good}
use Rattle.span.specs.Paper.{word_of}
use Rattle.span.proofs.Paper.{span_paper}
use Rattle.window.proofs.Placing.{in_span}
use Rattle.span.specs.declared.format.Format.{Format}
use Rattle.span.specs.Format.{shape_of, streams, samples_in, pairs_in, symbols_in}
use Rattle.span.specs.Span.{span_after}
use Rattle.span.specs.Stream.{Request}
use Rattle.span.proofs.Lengths.{known_has_streams, length_of_symbols}
use Rattle.window.specs.Inside.Encoded.{Sendable}
use Rattle.request.specs.Send.{forbidden, first_forbidden, refusals}
use Rattle.window.proofs.Accepting.{row_passed}
use Rattle.window.proofs.Inverted.{inverted_is_refused}
use Rattle.window.proofs.RoundTrip.{sent_encodes, round_trip, picture_back}
use Rattle.recording.specs.Recording.{reading}
use Rattle.recording.proofs.Readings.{is_read, not_read}
use Rattle.demands.specs.Form.{Sending, WasSent, sent_symbols, reading_of}

-- a row that is passed holds
pub row_holds : (b : Bool) → cond {A = Option ℕ} b none (some 0) ≡ none → b ≡ true
row_holds true e = refl
row_holds false e = let z : ◌≡◌ {A = ℕ} 0 1 = cc e in absurd (omega arith)

module _ (f : Format) (x : Sending) (sent : WasSent f x) where
  abbrev a : Request
  a = x.asked

  passed : (i : ℕ) → (get_or (refusals f a sent.room) i (record { number = 0; fails = none })).fails ≡ none
  passed = row_passed (refusals f a sent.room) (span_after x.before f a) sent.after sent.sent

  -- what was sent might be sent
  pub sendable : Sendable f a
  unfolding first_forbidden
  sendable = record {
    known = row_holds _ (passed 0);
    line = row_holds _ (passed 1);
    content = sent.content;
    long = eqb-true (length a.samples) (samples_in (shape_of f)) (row_holds _ (passed 2));
    allowed = λ i h. not-false _ ((miss (forbidden f a) (length a.samples) (passed 4)).never i (omega arith) h);
  }

  -- it has a span's length
  pub sent_long : length (sent_symbols f x) ≡ symbols_in (shape_of f)
  sent_long = length_of_symbols f a (known_has_streams f sendable.known) x.before

  -- it is read as it was sent
  pub sent_read : reading f (sent_symbols f x) ≡ some (reading_of f x)
  sent_read =
      is_read f (sent_symbols f x) sent_long (round_trip f a sendable x.before)
      ∙ ap (λ (words : List ℕ). some (record { values = (reading_of f x).values; words = words })) (picture_back f a sendable x.before)

  -- with one bit inverted it is not
  module _ (i k : ℕ) (h : i < symbols_in (shape_of f)) (l : k < 10) where
    abbrev harmed : List ℕ
    harmed = set (sent_symbols f x) i (inverted k (get_or (sent_symbols f x) i 0))

    pub harmed_long : length harmed ≡ symbols_in (shape_of f)
    harmed_long = length-set (sent_symbols f x) i (inverted k (get_or (sent_symbols f x) i 0)) ∙ sent_long

    pub harmed_not_read : reading f harmed ≡ none
    harmed_not_read =
        let (number, place, e) = inverted_is_refused f a sendable x.before i k h l in
        not_read f harmed harmed_long e

  -- the words before its CRCC have one, which is what stands there
  module _ (t : ℕ) (l : t < streams (shape_of f)) where
    abbrev covered : List ℕ
    covered = table 1926 (λ i. word_of f a (4 + i) t)

    small : (i : ℕ) → i < length covered → get_or covered i 0 ≤ 4095
    small i h =
        let b : i < 1926 = omega (arith, length_table 1926 (λ i. word_of f a (4 + i) t)) in
        let encodes = sent_encodes f a sendable x.before in
        let inside : streams (shape_of f) * (4 + i) + t < 2 * pairs_in (shape_of f) = in_span (shape_of f) (4 + i) t (omega arith) l in
        rw (get_d_table 1926 (λ i. word_of f a (4 + i) t) i 0 b)
        (omega (arith, encodes.small (streams (shape_of f) * (4 + i) + t) (omega (arith, encodes.long))))

    pub sent_crcc :
        (c : ℕ)
        × (crcc_of covered ≡ given c)
        × (word_of f a 1930 t ≡ (crcc_words c).crcc0)
        × (word_of f a 1931 t ≡ (crcc_words c).crcc1)
    sent_crcc = let words = span_paper.crcc_pair f a t l in (crc 0 covered, crcc_good 0 covered small, words.0, words.1)
