-- A span that was read, sent again: where its XYZ and its ancillary and blanking areas are as we send them, it is the same window.
-- Assumes nothing.
use mathlib.Core.Path.{◌≡◌, sym, ap, ◌∙◌}
use mathlib.Core.Bool.{true, false}
use mathlib.Core.List.{List}
use Prim.Native.Nat.{ℕ, ◌+◌, ◌/◌, ◌≤◌, ◌<◌}
use lib.ListN.{length, get_or}
use borrow.Author.Tests.{eqb-true, eq-eqb}
use Rattle.ground.specs.Answer.{given}
use Rattle.symbol.specs.declared.disparity.Disparity.{Disparity}
use Rattle.span.specs.declared.format.Format.{Format}
use Rattle.span.specs.Format.{is_known, shape_of, streams, samples_in, symbols_in}
use Rattle.span.specs.Span.{span_symbols, span_after}
use Rattle.span.specs.Stream.{Request}
use Rattle.span.specs.Numbers.{IsFormat, Symbols, Blank}
use Rattle.window.specs.declared.delivery.Delivery.{Delivery}
use Rattle.window.specs.Encoded.{request_of}
use Rattle.window.specs.Paper.{word_of_window}
use Rattle.window.specs.Read.{delivery_of, picture_of, read_span}
use Rattle.window.specs.Inside.Encoded.{Sendable}
use Rattle.window.specs.Scan.{start_of}
use Rattle.window.specs.Tests.{line_read, repair_count}
use Rattle.window.specs.Words.{word_at}
use Rattle.window.proofs.SentAgain.{sendable_again, sent_again_lem}
use Rattle.line.specs.Stream.{is_active}
use Rattle.span.specs.Sample.{allowed, blank_word}
use Rattle.span.proofs.Numbers.{blank_is}
use Rattle.ground.proofs.Ranges.{outside}
use Rattle.window.proofs.Accepting.{delivers, none_fails}
use Rattle.window.proofs.RoundTrip.{round_trip}
use Rattle.request.specs.Send.{first_forbidden, send_of}
use Rattle.demands.specs.Form.{reading_of}
use Rattle.demands.proofs.Refusing.{known_says, symbols_say}

-- what might be sent, in the terms of the reader's laws, is sent
may_be_sent : (d : Disparity) (f : Format) (a : Request) (room : ℕ) → Sendable f a → room ≡ symbols_in (shape_of f)
    → send_of d f a room ≡ given (span_after d f a)
unfolding first_forbidden
may_be_sent d f a room good e =
    let none_wrong = none_fails (length a.samples) (λ i. allowed f a.line (i / 1920) (get_or a.samples i 0)) good.allowed in
    simp (good.known, good.line, eq-eqb (length a.samples) (samples_in (shape_of f)) good.long, eq-eqb room (symbols_in (shape_of f)) e, none_wrong)

-- ---- what was read, sent again
module _ (f : Format) (w : List ℕ) (r : Delivery) (known : IsFormat f) (long : Symbols f (length w)) (e : read_span f w ≡ given r)
    (untouched : r.repairs.count ≡ 0)
    (area : (j t : ℕ) → 1932 ≤ j → j < 1932 + (shape_of f).ancillary → t < streams (shape_of f) → Blank f (word_of_window f w j t))
    (line : (42 ≤ r.line.0 → r.line.0 ≤ 1121 → ⊥) → (j t : ℕ) → 4 ≤ j → j < 1924 → t < streams (shape_of f) → Blank f (word_of_window f w j t)) where
  abbrev asked : Request
  asked = request_of f r (picture_of f w)

  k : is_known f ≡ true
  k = (known_says f).holds known

  size : length w ≡ symbols_in (shape_of f)
  size = eqb-true _ _ ((symbols_say f known (length w)).holds long)

  -- the answer is the reader's
  is_answer : r ≡ delivery_of f w
  is_answer = delivers f w r e

  before_is : r.before ≡ start_of w
  unfolding delivery_of
  before_is = ap (λ (d : Delivery). d.before) is_answer

  none_wrong : repair_count (streams (shape_of f)) (word_at (shape_of f) w) ≡ 0
  unfolding delivery_of
  none_wrong = sym (ap (λ (d : Delivery). d.repairs.count) is_answer) ∙ untouched

  blank_line_lem : is_active (line_read (streams (shape_of f)) (word_at (shape_of f) w)) ≡ false → (j t : ℕ) → 4 ≤ j → j < 1924 → t < streams (shape_of f)
      → word_of_window f w j t ≡ blank_word f
  unfolding delivery_of
  blank_line_lem off j t p q l =
      let same : r.line.0 ≡ line_read (streams (shape_of f)) (word_at (shape_of f) w) = ap (λ (d : Delivery). d.line.0) is_answer in
      blank_is f known _ (line (outside 42 1121 r.line.0 (ap is_active same ∙ off)) j t p q l)

  blank_area : (j t : ℕ) → 1932 ≤ j → j < 1932 + (shape_of f).ancillary → t < streams (shape_of f) → word_of_window f w j t ≡ blank_word f
  blank_area j t p q l = blank_is f known _ (area j t p q l)

  good : Sendable f asked
  good = sendable_again f w k r e size none_wrong blank_area blank_line_lem

  same_window : w ≡ span_symbols r.before f asked
  same_window = sent_again_lem f w k r e size none_wrong blank_area blank_line_lem ∙ ap (λ (d : Disparity). span_symbols d f asked) (sym before_is)

  after_is : span_after r.before f asked ≡ r.after
  after_is =
      let both : given r ≡ given (reading_of f (record { before = r.before; asked = asked })).values =
      sym e ∙ ap (read_span f) same_window ∙ round_trip f asked good r.before in
      let is : r ≡ (reading_of f (record { before = r.before; asked = asked })).values = cc both in
      sym (ap (λ (d : Delivery). d.after) is)

  pub again : (send_of r.before f asked (length w) ≡ given r.after) × (w ≡ span_symbols r.before f asked)
  again = (may_be_sent r.before f asked (length w) good size ∙ ap given after_is, same_window)
