-- One wrong bit, and two, in the XYZ of the SAV of line 42: out of what the demands say of spans with wrong bits.
-- Assumes nothing.
use mathlib.Core.Path.{◌≡◌, refl, ap, ap₂, ◌∙◌}
use mathlib.Core.Bool.{cond}
use mathlib.Core.List.{List}
use mathlib.Core.Logic.{inl}
use Prim.Native.Nat.{ℕ, suc, ◌+◌, ◌-◌, ◌*◌, ◌/◌, ◌≤◌, ◌<◌}
use native.Mathlib.Nat.{add-zero}
use native.Mathlib.Omega.{arith}
use lib.Dec.{eqb}
use lib.ListN.{set}
use lib.Seq.{get_or-set_same, get_or-set_other}
use borrow.Author.Tests.{eqb-true, eqb-false}
use Rattle.ground.specs.Answer.{refused, given}
use Rattle.ground.specs.Bit.{inverted}
use Rattle.ground.proofs.Bits.{inverted_below}
use Rattle.ground.proofs.Cases.{on_test}
use Rattle.symbol.specs.declared.disparity.Disparity.{Disparity}
use Rattle.word.specs.Repair.{distance, differs_at}
use Rattle.span.specs.declared.format.Format.{Format}
use Rattle.span.specs.Content.{content_of}
use Rattle.span.specs.Format.{shape_of, streams, pairs_in}
use Rattle.span.specs.Numbers.{IsFormat}
use Rattle.span.specs.Span.{span_words}
use Rattle.span.proofs.Lengths.{known_has_streams}
use Rattle.window.specs.declared.delivery.Delivery.{Delivery}
use Rattle.window.specs.Encoded.{Encodes, Disturbed, DisturbedBefore, IsXyz, word_in, wrong_at}
use Rattle.window.specs.Read.{read_span, repairs_of}
use Rattle.window.specs.Tests.{sum_of}
use Rattle.window.proofs.Placing.{word_of_place, in_span}
use Rattle.window.proofs.RoundTrip.{sent_encodes}
use Rattle.window.proofs.Sums.{sum_one, same_bits}
use Rattle.demands.specs.Examples.{on_line42, with_xyz}
use Rattle.demands.specs.Form.{Sending, WasSent, sent_symbols}
use Rattle.demands.proofs.Demands.{demand_2}
use Rattle.demands.proofs.Refusing.{known_says}
use Rattle.demands.proofs.Sendings.{sendable}

module _ (f : Format) (m : ℕ) (known : IsFormat f) (d : Disparity) (sent : WasSent f (on_line42 f m d)) where
  abbrev x : Sending
  x = on_line42 f m d

  abbrev s : ℕ
  s = streams (shape_of f)

  abbrev there : ℕ
  there = s * 3 + 0

  abbrev words : List ℕ
  words = span_words f x.asked

  has_streams : 1 ≤ s
  has_streams = omega (arith, known_has_streams f ((known_says f).holds known))

  -- what was sent is an encoding of its words
  encodes : Encodes f (sent_symbols f x) d (content_of f x.asked.content) words
  encodes = sent_encodes f x.asked (sendable f x sent) d

  -- XYZ of line 42 is 800 in the SAV of stream 1
  is_800 : word_in words there ≡ 0x800
  is_800 = demand_2.spans.sav_active f x.asked 0 (omega (arith, has_streams)) (omega arith, omega arith)

  inside : there < 2 * pairs_in (shape_of f)
  inside = in_span (shape_of f) 3 0 (omega arith) (omega (arith, has_streams))

  -- another word there
  module _ (y : ℕ) (below : y < 4096) where
    abbrev changed : List ℕ
    changed = set words there y

    both : Disturbed f x.asked changed × DisturbedBefore f x.asked changed there
    both =
        demand_2.windows.disturbed f x.asked 0 y known (λ k h. encodes.small k (omega (arith, encodes.long))) (omega (arith, has_streams)) below

    changed_encodes : Encodes f (with_xyz f m d y) d (content_of f x.asked.content) changed
    changed_encodes = record { symbols = refl; content = encodes.content; long = both.0.long; small = both.0.small }

    -- by any measure g of two words that is 0 of a word and itself
    module _ (g : ℕ → ℕ → ℕ) (zero : (w : ℕ) → g w w ≡ 0) where
      abbrev measured : ℕ → ℕ
      measured k = g (word_in changed k) (word_in words k)

      there_is : measured there ≡ g y 0x800
      there_is = rw (get_or-set_same words there y 0 (omega (arith, inside, encodes.long)), is_800) refl

      none_elsewhere : (k : ℕ) → (k ≡ there → ⊥) → measured k ≡ 0
      none_elsewhere k other = rw (get_or-set_other words there k y 0 other) (zero (word_in words k))

      -- what all XYZ differ by is what this one does
      all_differ : sum_of s (λ t. measured (s * 3 + t) + measured (s * 1927 + t)) ≡ g y 0x800
      all_differ =
          let both : ℕ → ℕ = λ t. measured (s * 3 + t) + measured (s * 1927 + t) in
          let eav : (t : ℕ) → measured (s * 1927 + t) ≡ 0 = λ t. none_elsewhere (s * 1927 + t) (λ e. omega (arith, has_streams)) in
          let all : s ≡ suc (s - 1) = omega (arith, has_streams) in
          ap (λ (n : ℕ). sum_of n both) all
          ∙ sum_one (s - 1) both (λ t p q. omega (arith, none_elsewhere (s * 3 + t) (λ e. omega arith), eav t))
          ∙ omega (arith, eav 0, there_is)

    wrong_there : wrong_at f x.asked changed there ≡ distance y 0x800
    wrong_there = there_is distance demand_2.words.distance_none

  pub one_wrong : (b : ℕ) → b < 12
      → (v : Delivery)
      × (read_span f (with_xyz f m d (inverted b 0x800)) ≡ given v)
      × (v.line.0 ≡ 42)
      × (v.repairs ≡ repairs_of 1 (λ k. cond (eqb k b) 1 0))
  one_wrong b h =
      let y = inverted b 0x800 in
      let below : y < 4096 = inverted_below 12 b 0x800 h (omega arith) in
      let one = demand_2.words.distance_one b 0x800 h in
      let zero = demand_2.words.distance_none in
      let near : (k : ℕ) → k < 2 * pairs_in (shape_of f) → IsXyz (k / s) → wrong_at f x.asked (changed y below) k ≤ 1 =
      λ k _ _.
      on_test (eqb k there)
      (λ e. omega (arith, ap (wrong_at f x.asked (changed y below)) (eqb-true k there e), wrong_there y below, one))
      (λ n. omega (arith, none_elsewhere y below distance zero k (eqb-false k there n))) in
      let (read, _) = demand_2.repaired f x sent (changed y below) (both y below).0 near (with_xyz f m d y) d _ (changed_encodes y below) in
      let bits =
      same_bits _ (λ k. cond (eqb k b) 1 0)
      (λ k l. all_differ y below (differs_at k) (demand_2.words.differs_none k) ∙ demand_2.words.differs_one k b 0x800 l h) in
      (_, read, refl, ap₂ (λ (n : ℕ) (c : List ℕ). record { count = n; of_bit = c }) (all_differ y below distance zero ∙ one) bits)

  pub two_wrong : (b c : ℕ) → b < c → c < 12 → read_span f (with_xyz f m d (inverted b (inverted c 0x800))) ≡ refused 21 (s * 3)
  two_wrong b c h l =
      let y = inverted b (inverted c 0x800) in
      let below : y < 4096 = inverted_below 12 b (inverted c 0x800) (omega arith) (inverted_below 12 c 0x800 l (omega arith)) in
      let two : wrong_at f x.asked (changed y below) there ≡ 2 = wrong_there y below ∙ demand_2.words.distance_two b c 0x800 h l in
      let place : there / s ≡ 3 = word_of_place s has_streams 3 0 (omega (arith, has_streams)) in
      demand_2.windows.beyond_repair f x.asked (with_xyz f m d y) d _ (changed y below) there known (changed_encodes y below) inside (inl place)
      (both y below).1 two
      ∙ ap (λ (k : ℕ). refused 21 k) (add-zero (s * 3))
