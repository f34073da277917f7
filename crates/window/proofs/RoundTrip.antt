-- A span that is sent is read back: its line, content bytes, disparities and picture, and nothing repaired.
-- Assumes nothing.
use mathlib.Core.Path.{◌≡◌, refl, ap₂, ◌∙◌, fun_ext}
use mathlib.Core.List.{List}
use Prim.Native.Nat.{ℕ, ◌*◌}
use native.Mathlib.Omega.{arith}
use lib.ListN.{length}
use lib.Seq.{take_at, drop_at}
use Rattle.ground.specs.Answer.{given}
use Rattle.ground.specs.Written.{upto}
use Rattle.symbol.specs.declared.disparity.Disparity.{Disparity}
use Rattle.word.proofs.Repairs.{no_distance}
use Rattle.word.proofs.WhichBit.{no_bit_differs}
use Rattle.span.specs.declared.content.ContentBytes.{ContentBytes}
use Rattle.span.specs.declared.format.Format.{Format}
use Rattle.span.specs.Content.{content_of}
use Rattle.span.specs.Format.{shape_of, streams}
use Rattle.span.specs.Span.{words_from_sav, words_from_eav, span_words, chars_from_sav, chars_from_eav, span_chars, span_symbols, span_after}
use Rattle.span.specs.Stream.{Request, picture}
use Rattle.span.specs.Layout.{eav_start}
use Rattle.span.proofs.Lengths.{length_words_sav, length_words}
use Rattle.window.specs.Encoded.{chars_of, Encodes, word_in, Meets, Disturbed, wrong_at, wrong_bit_at}
use Rattle.window.specs.Read.{picture_of, read_span, repairs_of, no_repairs}
use Rattle.window.specs.Tests.{over_xyz}
use Rattle.window.specs.Inside.Encoded.{Sendable}
use Rattle.window.proofs.Repaired.{near_passes}
use Rattle.window.proofs.Rules.{passes_meets}
use Rattle.window.proofs.Sent.{sent_twelve_bits}
use Rattle.window.proofs.Sums.{over_none}
use Rattle.window.proofs.TimingWords.{disturbed_encodes, repaired_delivered}

module _ (f : Format) (a : Request) where
  abbrev s : ℕ
  s = streams (shape_of f)

  abbrev content : ContentBytes
  content = content_of f a.content

  abbrev words : List ℕ
  words = span_words f a

  -- the characters of a span are those of its words and content bytes
  pub sent_chars : span_chars f a ≡ chars_of (shape_of f) content words
  unfolding span_chars chars_from_sav chars_from_eav chars_of span_words
  sent_chars =
      let long : length (words_from_sav f a) ≡ eav_start * s = length_words_sav f a ∙ omega arith in
      rw (take_at (words_from_sav f a) (words_from_eav f a) (eav_start * s) long, drop_at (words_from_sav f a) (words_from_eav f a) (eav_start * s) long)

  -- no bit is wrong
  right_at : (k : ℕ) → wrong_at f a words k ≡ 0
  right_at k = no_distance (word_in words k)

  none_wrong : repairs_of (over_xyz s (wrong_at f a words)) (λ b. over_xyz s (wrong_bit_at f a words b)) ≡ no_repairs
  none_wrong =
      ap₂ repairs_of (over_none s (wrong_at f a words) right_at)
      (fun_ext (λ b. over_none s (wrong_bit_at f a words b) (λ k. no_bit_differs b (word_in words k))))

  -- its words are those of a span that is sent, XYZ and all
  as_sent : Sendable f a → Disturbed f a words
  as_sent good = record { long = length_words f a; small = λ k _. sent_twelve_bits f a good k; same = λ k h x y. refl }

  -- a span that is sent meets rules 21 to 26
  pub sent_meets : Sendable f a → Meets f (word_in words)
  sent_meets good =
      passes_meets f good.known (word_in words) (near_passes f a good words (as_sent good) (λ k h x. omega (arith, right_at k)))

  module _ (good : Sendable f a) (d : Disparity) where
    -- its symbols encode its words and content bytes
    pub sent_encodes : Encodes f (span_symbols d f a) d content words
    unfolding span_symbols
    sent_encodes = rw sent_chars (disturbed_encodes f a words (as_sent good) d content good.content)

    -- what is read is what was asked to be sent
    pub round_trip :
        read_span f (span_symbols d f a)
        ≡ given (record { line = record { 0 = a.line }; content = content; before = d; after = span_after d f a; repairs = no_repairs })
    unfolding span_after
    round_trip =
        (repaired_delivered f a good words (as_sent good) (span_symbols d f a) d content sent_encodes (λ k h x. omega (arith, right_at k))).0
        ∙ rw (← sent_chars, none_wrong)

    -- stream by stream, the picture words that were sent
    pub picture_back : picture_of f (span_symbols d f a) ≡ upto s (picture f a)
    picture_back =
        (repaired_delivered f a good words (as_sent good) (span_symbols d f a) d content sent_encodes (λ k h x. omega (arith, right_at k))).1
