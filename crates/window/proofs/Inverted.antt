-- One inverted bit: a span that was sent and has one bit inverted is refused.
-- Assumes nothing.
use mathlib.Core.Path.{◌≡◌, refl, sym, ap, ap₂, ◌∙◌}
use mathlib.Core.Bool.{true}
use mathlib.Core.List.{List}
use mathlib.Core.Logic.{inl, inr, ⊎_elim}
use mathlib.Core.Option.{Option, none, some}
use Prim.Native.Nat.{ℕ, zero, suc, ◌+◌, ◌-◌, ◌*◌, ◌/◌, ◌%◌, ◌≤◌, ◌<◌}
use native.Mathlib.Nat.{add-zero, add-suc, eq-or-lt_of_le}
use native.Mathlib.Omega.{arith}
use lib.Dec.{eqb}
use lib.ListN.{get_or, set}
use lib.Seq.{get_or-set_same, get_or-set_other}
use borrow.Author.Tests.{eqb-true, eqb-false}
use Rattle.ground.specs.Answer.{Answer, refused, given}
use Rattle.ground.specs.Bit.{inverted}
use Rattle.ground.proofs.Cases.{on_test}
use Rattle.symbol.specs.declared.disparity.Disparity.{Disparity}
use Rattle.symbol.specs.declared.disparity.Disparity.TheVariants.{Negative, Positive}
use Rattle.symbol.specs.declared.special.Special.TheVariants.{K28_5}
use Rattle.symbol.specs.Character.{characters, number_of}
use Rattle.symbol.specs.Code.{symbol_of, char_of, after_of}
use Rattle.symbol.specs.Inside.Code.{TwoForms}
use Rattle.symbol.specs.Inside.Disparity.{opposite}
use Rattle.symbol.proofs.Flip.{Caught, flip, flip_no_form}
use Rattle.symbol.proofs.Inverse.{opposed_illegal}
use Rattle.symbol.proofs.Ones.{one_form_stays}
use Rattle.span.specs.declared.format.Format.{Format}
use Rattle.span.specs.declared.format.Shape.{Shape}
use Rattle.span.specs.Content.{content_of}
use Rattle.span.specs.Format.{is_known, shape_of, pairs_in, symbols_in}
use Rattle.span.specs.Span.{span_words, span_chars, span_symbols, fill_word}
use Rattle.span.specs.Stream.{Request}
use Rattle.span.proofs.Lengths.{known_has_streams, known_has_fill, length_words, length_chars, length_of_symbols}
use Rattle.span.proofs.Places.{first_symbol, last_char, last_two_forms}
use Rattle.window.specs.declared.delivery.Delivery.{Delivery}
use Rattle.window.specs.Read.{read_span}
use Rattle.window.specs.Scan.{meant, symbol_at, start_of, running_at}
use Rattle.window.specs.Words.{word_at}
use Rattle.window.specs.Inside.Encoded.{Sendable}
use Rattle.window.proofs.Accepting.{Accepted, accepted_told}
use Rattle.window.proofs.Bytes.{byte_else, high_byte}
use Rattle.window.proofs.Characters.{chars_below}
use Rattle.window.proofs.Meeting.{fill_told}
use Rattle.window.proofs.RoundTrip.{sent_chars}
use Rattle.window.proofs.Specials.{symbol_read, byte_read, k28_5_at}
use Rattle.window.proofs.Symbols.{meant_of, legal_told, running_on, running_start, starts, symbol_is}

-- ---- the running disparity after an inverted bit

-- n symbols w as they are sent for the characters c, and v, the same but for bit k of symbol i, all of which are legal where they stand
record OneBit (w v : List ℕ) (c : ℕ → ℕ) (n i k : ℕ) : Type 0 where
  sent : (j : ℕ) → j < n → symbol_at w j ≡ symbol_of (running_at w j) (c j)
  small : (j : ℕ) → c j < characters
  place : i < n
  bit : k < 10
  start : start_of v ≡ start_of w
  harmed : symbol_at v i ≡ inverted k (symbol_at w i)
  kept : (j : ℕ) → (j ≡ i → ⊥) → symbol_at v j ≡ symbol_at w j
  legal : (j : ℕ) → j < n → char_of (running_at v j) (symbol_at v j) ≡ some (meant (symbol_at v j))

-- a symbol is legal or it is not
not_both : {o : Option ℕ} {c : ℕ} → o ≡ some c → o ≡ none → ⊥
not_both p q = let z : ◌≡◌ {A = ℕ} 0 1 = cc in omega arith

module _ (w v : List ℕ) (c : ℕ → ℕ) (n i k : ℕ) (x : OneBit w v c n i k) where
  -- what was sent leaves what its characters leave
  sent_on : (j : ℕ) → j < n → running_at w (suc j) ≡ after_of (running_at w j) (c j)
  sent_on j h =
      running_on w j
      ∙ ap (after_of (running_at w j)) (ap meant (x.sent j h) ∙ meant_of (running_at w j) (c j) (x.small j))

  -- up to the bit both run alike
  before : (j : ℕ) → j ≤ i → running_at v j ≡ running_at w j
  before zero l = running_start v ∙ x.start ∙ sym (running_start w)
  before (suc j) l =
      running_on v j
      ∙ ap₂ after_of (before j (omega arith)) (ap meant (x.kept j (λ q. omega arith)))
      ∙ sym (running_on w j)

  -- there the disparity flips
  flipped : running_at v (suc i) ≡ opposite (running_at w (suc i))
  flipped = go (flip (running_at w i) (c i) k (x.small i) x.bit)
    where
      here : running_at v i ≡ running_at w i
      here = before i (omega arith)

      heard : char_of (running_at w i) (inverted k (symbol_of (running_at w i) (c i))) ≡ some (meant (symbol_at v i))
      heard =
          sym (ap₂ char_of here (x.harmed ∙ ap (inverted k) (x.sent i x.place))) ∙ x.legal i x.place

      go : Caught (running_at w i) (after_of (running_at w i) (c i)) (inverted k (symbol_of (running_at w i) (c i)))
          → running_at v (suc i) ≡ opposite (running_at w (suc i))
      go (inl e) = absurd (not_both heard e)
      go (inr t) =
          let b : meant (symbol_at v i) ≡ t.0 = cc (heard, t.1) in
          running_on v i ∙ ap₂ after_of here b ∙ t.2 ∙ ap opposite (sym (sent_on i x.place))

  -- after it the symbols are as sent
  as_sent : (j : ℕ) → i < j → j < n → symbol_at v j ≡ symbol_of (running_at w j) (c j)
  as_sent j l h = x.kept j (λ q. omega arith) ∙ x.sent j h

  -- at the opposite disparity a character with two forms is illegal
  one_form : (j : ℕ) → i < j → j < n → running_at v j ≡ opposite (running_at w j) → TwoForms (c j) → ⊥
  one_form j l h e two =
      not_both (x.legal j h) (ap₂ char_of e (as_sent j l h) ∙ opposed_illegal (running_at w j) (c j) (x.small j) two)

  -- and one with one form leaves it as it was
  passes : (j : ℕ) → i < j → j < n → running_at v j ≡ opposite (running_at w j) → running_at v (suc j) ≡ opposite (running_at w (suc j))
  passes j l h e =
      on_test (eqb (symbol_of Negative (c j)) (symbol_of Positive (c j)))
      (λ t.
      let same : symbol_of Negative (c j) ≡ symbol_of Positive (c j) = eqb-true _ _ t in
      let m : meant (symbol_at v j) ≡ c j = ap meant (as_sent j l h) ∙ meant_of (running_at w j) (c j) (x.small j) in
      running_on v j
      ∙ ap₂ after_of e m
      ∙ one_form_stays (opposite (running_at w j)) (c j) (x.small j) same
      ∙ ap opposite (sym (sent_on j h ∙ one_form_stays (running_at w j) (c j) (x.small j) same)))
      (λ t. absurd (one_form j l h e (eqb-false _ _ t)))

  -- so it stays the opposite, symbol after symbol
  stays_opposite : (m : ℕ) → suc i + m < n → running_at v (suc i + m) ≡ opposite (running_at w (suc i + m))
  stays_opposite zero h = rw add-zero flipped
  stays_opposite (suc m) h = rw add-suc (passes (suc i + m) (omega arith) (omega arith) (stays_opposite m (omega arith)))

  -- and there is no character with two forms after it
  caught : (j : ℕ) → i < j → j < n → TwoForms (c j) → ⊥
  caught j l h =
      let e : j ≡ suc i + (j - suc i) = omega arith in
      one_form j l h (rw e (stays_opposite (j - suc i) (omega arith)))

-- ---- the last symbol of a window whose tests hold

module _ (f : Format) (w : List ℕ) (known : is_known f ≡ true) (acc : Accepted f w) where
  abbrev p : Shape
  p = shape_of f

  -- the last word is a word of the fill
  last_word : word_at p w (2 * (pairs_in p - 1) + 1) ≡ fill_word
  last_word =
      let some = known_has_streams f known in
      let filled = known_has_fill f known in
      fill_told f (word_at p w) acc.words (omega arith) (2 * (pairs_in p - 1) + 1) (omega arith) (omega arith)

  -- so the last symbol stands for the byte 10 (hex)
  pub last_read : meant (symbol_at w (symbols_in p - 1)) ≡ 0x10
  last_read =
      let some = known_has_streams f known in
      let filled = known_has_fill f known in
      let e : symbols_in p - 1 ≡ 3 * (pairs_in p - 1) + 2 = omega arith in
      let i = 3 * (pairs_in p - 1) + 2 in
      let h = byte_read f w known acc i (omega arith) (omega arith) (λ l. omega arith) in
      let b = byte_else p w i (omega arith) (λ l. omega arith) in
      rw e (omega (arith, high_byte p w (pairs_in p - 1), ap (λ (x : ℕ). x / 16 % 256) last_word))

-- ---- one inverted bit

module _ (f : Format) (a : Request) (good : Sendable f a) (d : Disparity) (i k : ℕ) (h : i < symbols_in (shape_of f)) (l : k < 10) where
  abbrev sent : List ℕ
  sent = span_symbols d f a

  abbrev arrived : List ℕ
  arrived = set sent i (inverted k (symbol_at sent i))

  -- a known format has streams and fill
  streamed : 1 ≤ (shape_of f).stream_pairs
  streamed = known_has_streams f good.known

  filled : 1 ≤ (shape_of f).fill_pairs
  filled = known_has_fill f good.known

  -- every character is one of the 268
  small_char : (j : ℕ) → get_or (span_chars f a) j 0 < characters
  small_char j =
      rw (sent_chars f a)
      (chars_below (shape_of f) streamed (content_of f a.content) (span_words f a) (length_words f a) good.content j)

  -- the symbols as sent
  as_char : (j : ℕ) → j < symbols_in (shape_of f) → symbol_at sent j ≡ symbol_of (running_at sent j) (get_or (span_chars f a) j 0)
  unfolding span_symbols
  as_char j b =
      symbol_is d (span_chars f a) sent refl (starts d sent (first_symbol d f a)) (λ m _. small_char m) j
      (rw (length_chars f a streamed) b)

  -- as they arrive: one with a bit inverted
  harmed : symbol_at arrived i ≡ inverted k (symbol_at sent i)
  harmed = get_or-set_same sent i (inverted k (symbol_at sent i)) 0 (rw (length_of_symbols f a streamed d) h)

  -- every other as it was
  kept : (j : ℕ) → (j ≡ i → ⊥) → symbol_at arrived j ≡ symbol_at sent j
  kept j = get_or-set_other sent i j (inverted k (symbol_at sent i)) 0

  -- the inverted bit makes another character of it
  another : (c : ℕ) (e e' : Disparity) → c < characters → symbol_at sent i ≡ symbol_of e c → symbol_at arrived i ≡ symbol_of e' c → ⊥
  another c e e' b was now = flip_no_form e e' c k b l (ap (inverted k) (sym was) ∙ sym harmed ∙ now)

  module _ (acc : Accepted f arrived) where
    -- the first symbol is a form of K28.5
    not_first : i ≡ 0 → ⊥
    not_first e =
        another (number_of K28_5) d (start_of arrived) (omega arith)
        (ap (symbol_at sent) e ∙ first_symbol d f a)
        (ap (symbol_at arrived) e ∙ (k28_5_at f arrived good.known acc).0)

    -- the last is a form of the byte 10 (hex)
    not_last : i ≡ symbols_in (shape_of f) - 1 → ⊥
    not_last e =
        another 0x10 (running_at sent i) (running_at arrived i) (omega arith)
        (as_char i h
        ∙ ap (symbol_of (running_at sent i)) (ap (λ (j : ℕ). get_or (span_chars f a) j 0) e ∙ last_char f a streamed filled))
        (symbol_read f arrived acc i h
        ∙ ap (symbol_of (running_at arrived i))
        (ap (λ (j : ℕ). meant (symbol_at arrived j)) e ∙ last_read f arrived good.known acc))

    -- so the start is as it was, and the disparity flips at the bit
    one_bit : OneBit sent arrived (λ j. get_or (span_chars f a) j 0) (symbols_in (shape_of f)) i k
    one_bit =
        record {
          sent = as_char;
          small = small_char;
          place = h;
          bit = l;
          start =
              starts d arrived (kept 0 (λ q. not_first (sym q)) ∙ first_symbol d f a)
              ∙ sym (starts d sent (first_symbol d f a));
          harmed = harmed;
          kept = kept;
          legal = λ j b. legal_told (shape_of f) arrived j (acc.scan j b);
        }

    -- and the last symbol is illegal
    not_accepted : ⊥
    not_accepted =
        ⊎_elim not_last
        (λ m.
        caught sent arrived (λ j. get_or (span_chars f a) j 0) (symbols_in (shape_of f)) i k one_bit (symbols_in (shape_of f) - 1) m
        (omega arith) (last_two_forms f a streamed filled))
        (eq-or-lt_of_le (omega arith))

  -- one inverted bit anywhere in a span: it is not delivered
  pub inverted_refused : (r : Delivery) → read_span f arrived ≡ given r → ⊥
  inverted_refused r e = not_accepted (accepted_told f arrived r e)

  -- it is refused
  pub inverted_is_refused : (number : ℕ) × (place : ℕ) × (read_span f arrived ≡ refused number place)
  inverted_is_refused = go (read_span f arrived) refl
    where
      go : (r : Answer Delivery) → read_span f arrived ≡ r → (number : ℕ) × (place : ℕ) × (read_span f arrived ≡ refused number place)
      go (refused number place) e = (number, place, e)
      go (given r) e = absurd (inverted_refused r e)
