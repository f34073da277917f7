-- Reading a span in document 01's own numbers, proved: each field cites the law that says it.
-- Assumes nothing.
use mathlib.Core.Path.{◌≡◌, refl, sym, ap, ◌∙◌, subst}
use mathlib.Core.List.{List, [], ◌∷◌}
use Rattle.std.specs.Prelude.{sum}
use Rattle.ground.specs.Written.{upto, table}
use lib.ListN.{length}
use Prim.Native.Nat.{ℕ, ◌+◌}
use Rattle.line.specs.Stream.{line_before}
use Rattle.span.specs.declared.format.Format.{Format}
use Rattle.span.specs.Format.{format_from, shape_of, streams}
use Rattle.span.specs.Numbers.{IsFormat}
use Rattle.window.proofs.Accepting.{accepted_told, delivers}
use native.Mathlib.Omega.{arith}
use Rattle.span.proofs.Lengths.{known_has_streams}
use Rattle.window.proofs.Disturbing.{one_other}
use Rattle.window.proofs.Encoded.{fixed_bytes}
use Rattle.window.proofs.Exact.{exact_read, exact_word, exact_only_if}
use Rattle.window.proofs.Line.{line_answered, all_streams, recital}
use Rattle.window.proofs.Nearest.{near_legal}
use Rattle.window.proofs.Rules.{follows_before, some_line}
use Rattle.window.proofs.SentAgain.{strict}
use Rattle.window.proofs.Sums.{bits_add_up}
use Rattle.window.proofs.TimingWords.{two_wrong}
use Rattle.ground.specs.Answer.{given}
use Rattle.word.specs.LineNumber.{ln0, ln1}
use Rattle.word.specs.Word.{guarded}
use Rattle.window.specs.declared.delivery.Delivery.{Delivery}
use Rattle.window.specs.Read.{each_bit, delivery_of, picture_of, read_span}
use Rattle.window.specs.Tests.{sum_of, holds25, holds26}
use Rattle.window.specs.Words.{word_at}
use Rattle.window.specs.Rules.{Names, Follows}
use Rattle.window.specs.Paper.{word_of_window, WindowPaper}
use Rattle.span.proofs.Formats.{is_known_lem}
use Rattle.span.proofs.Numbers.{symbols_are}

-- the answer's line is the one before the line that stream 1 names
answered_line : (f : Format) (w : List ℕ) (r : Delivery) → IsFormat f → read_span f w ≡ given r
    → (m : ℕ) × Names (word_of_window f w) m × Follows r.line.0 m
answered_line f w r k e =
    let (m, from, to, low, high, line) = line_answered f w (is_known_lem f k) (accepted_told f w r e) in
    let same : r.line.0 ≡ line_before m = ap (λ (d : Delivery). d.line.0) (delivers f w r e) ∙ line in
    (m, record { first = from; last = to; low = low; high = high }, subst (λ (n : ℕ). Follows n m) (sym same) (follows_before m from to))

-- the twelve counts, one after the other
bits_in_order : (at : ℕ → ℕ) → each_bit at ≡ at 0 ∷ at 1 ∷ at 2 ∷ at 3 ∷ at 4 ∷ at 5 ∷ at 6 ∷ at 7 ∷ at 8 ∷ at 9 ∷ at 10 ∷ at 11 ∷ []
unfolding table upto
bits_in_order at = refl

-- and together
add_up : (f : Format) (w : List ℕ)
    → let r = (delivery_of f w).repairs in
    sum r.of_bit ≡ r.count
unfolding delivery_of sum_of table upto
add_up f w = omega (arith, bits_add_up (streams (shape_of f)) (word_at (shape_of f) w))

-- 800 and 800 are LN0 of line 128 and LN1 of line 127
not_800 : (f : Format) (w : List ℕ) (r : Delivery) → IsFormat f → read_span f w ≡ given r → word_of_window f w 1928 0 ≡ 0x800
    → word_of_window f w 1929 0 ≡ 0x800 → ⊥
unfolding ln0 ln1 guarded
not_800 f w r k e = recital f w (is_known_lem f k) (accepted_told f w r e)

-- of a format the reader asks its shape and its depth alone
component_unread : (number depth structure size c e : ℕ) (w : List ℕ)
    → let f = format_from number depth c structure size in
    let g = format_from number depth e structure size in
    (read_span f w ≡ read_span g w) × (picture_of f w ≡ picture_of g w)
unfolding read_span picture_of shape_of holds25 holds26 delivery_of
component_unread number depth structure size c e w = (refl, refl)

pub window_paper : WindowPaper
window_paper = record {
  disturbed = λ f a t x k. one_other f a t x (omega (arith, known_has_streams f (is_known_lem f k)));
  line_answered = answered_line;
  all_streams = λ f w r k e. all_streams f w (is_known_lem f k) (accepted_told f w r e);
  recital = not_800;
  fixed_bytes = fixed_bytes;
  line_named =
      λ f word k meets.
      let (m, names) = some_line f (is_known_lem f k) word meets.line_number in
      (m, line_before m, names, follows_before m names.first names.last);
  exact_if = λ f w d c words k. exact_read f w (is_known_lem f k) d c words;
  exact_only_if = λ f w r k long. exact_only_if f w (is_known_lem f k) (symbols_are f (length w) long);
  words_encoded = λ f w d c words k. exact_word f w (is_known_lem f k) d c words;
  beyond_repair = λ f a w d c words k known e h x before. two_wrong f a (is_known_lem f known) words w d c e k x before h;
  near_legal = near_legal;
  bits_in_order = bits_in_order;
  add_up = add_up;
  strict = λ f w r k e. strict f w (is_known_lem f k) r e;
  component_unread = component_unread;
}
