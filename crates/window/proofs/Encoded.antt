-- What a window that encodes words and content bytes is read as: the reading of those words.
-- Assumes nothing.
use mathlib.Core.Path.{◌≡◌, refl, sym, ap, ap₂, fun_ext, ◌∙◌}
use mathlib.Core.Bool.{Bool, true, false}
use mathlib.Core.List.{List}
use Prim.Native.Nat.{ℕ, zero, suc, ◌+◌, ◌*◌, ◌/◌, ◌%◌, ◌≤◌, ◌<◌}
use native.Mathlib.Nat.{add-zero, div-lt_iff_lt-mul}
use native.Mathlib.Omega.{arith}
use lib.Dec.{eqb, ltb}
use lib.ListN.{length, get_or, get_or-eq_default}
use lib.Seq.{take-length}
use borrow.Author.Tests.{ltb-true, ltb-false, eqb-true, eqb-false}
use Rattle.ground.specs.Answer.{checked}
use Rattle.ground.specs.Written.{upto, table}
use Rattle.ground.proofs.Cases.{on_test}
use Rattle.symbol.specs.declared.disparity.Disparity.{Disparity}
use Rattle.symbol.specs.Character.{characters}
use Rattle.packing.specs.Bytes.{bytes_of}
use Rattle.word.specs.Timing.{timing, timing_code}
use Rattle.packing.proofs.Packing.{unpack_pack}
use Rattle.span.specs.declared.content.ContentBytes.{ContentBytes}
use Rattle.span.specs.declared.format.Format.{Format}
use Rattle.span.specs.declared.format.Shape.{Shape}
use Rattle.span.specs.Encoding.{symbols_from, after_run}
use Rattle.span.specs.Format.{is_known, shape_of, streams, pairs_in, symbols_in, eav_at}
use Rattle.span.specs.Span.{interleaved, bytes, bytes_listed}
use Rattle.span.specs.Layout.{eav_start}
use Rattle.span.proofs.Encoding.{length_symbols}
use Rattle.span.proofs.Interleaving.{length_interleaved, interleaved_at}
use Rattle.span.proofs.Lengths.{known_has_streams}
use Rattle.span.proofs.Packing.{length_bytes, byte_at_lem}
use Rattle.window.specs.declared.delivery.Delivery.{Delivery}
use Rattle.window.specs.declared.delivery.Repairs.{Repairs}
use Rattle.window.specs.Encoded.{chars_of, Encodes, word_in}
use Rattle.window.specs.Read.{placed, word_tests, span_tests, content_in, delivery_of, picture_of, read_span, repairs_of}
use Rattle.window.specs.Scan.{meant, byte_of, symbol_at, start_of, running_at, holds20}
use Rattle.window.specs.Tests.{holds21, line_read, repair_count, repairs_at, rows}
use Rattle.window.specs.Words.{fixed_byte, byte_at, pair_at, word_at}
use Rattle.window.specs.Inside.Encoded.{Restored, answered}
use Rattle.window.proofs.Accepting.{none_fails, passes}
use Rattle.window.proofs.Bytes.{bytes_below, byte_sav, byte_eav, byte_else}
use Rattle.window.proofs.Characters.{length_chars, char_sav, char_eav, char_byte, chars_below, chars_fit}
use Rattle.window.proofs.Meeting.{sav_told, eav_told}
use Rattle.window.proofs.Placing.{place_again, stream_below, split, four, each_place}
use Rattle.window.proofs.Symbols.{no_symbol, is_legal, starts, running_is, symbol_is, meant_char}

-- ---- the replaced bytes

-- of two streams: FF FF FF 00
pub fixed_two : (fixed_byte 2 0 ≡ 0xFF) × (fixed_byte 2 1 ≡ 0xFF) × (fixed_byte 2 2 ≡ 0xFF) × (fixed_byte 2 3 ≡ 0x00)
unfolding fixed_byte interleaved upto table timing bytes bytes_of
fixed_two = (refl, refl, refl, refl)

-- of four: FF FF FF FF
pub fixed_four : (fixed_byte 4 0 ≡ 0xFF) × (fixed_byte 4 1 ≡ 0xFF) × (fixed_byte 4 2 ≡ 0xFF) × (fixed_byte 4 3 ≡ 0xFF)
unfolding fixed_byte interleaved upto table timing bytes bytes_of
fixed_four = (refl, refl, refl, refl)

-- two words 0 are three bytes 0
zeros : (i : ℕ) → i < 3 → 0 ≡ get_or (bytes_listed (bytes_of 0 0)) i 0
unfolding bytes_of
zeros zero h = refl
zeros (suc zero) h = refl
zeros (suc (suc zero)) h = refl
zeros (suc (suc (suc i))) h = absurd (omega arith)

-- ---- a window that encodes words

-- what is answered is told by its parts
same_content :
    {a b c d a' b' c' d' : ℕ} → a ≡ a' → b ≡ b' → c ≡ c' → d ≡ d'
    → ◌≡◌ {A = ContentBytes}
    (record { sav1 = a; sav2 = b; eav1 = c; eav2 = d })
    (record { sav1 = a'; sav2 = b'; eav1 = c'; eav2 = d' })
same_content p q r s = rw (p, q, r, s)

same_delivery :
    {l l' : ℕ} {c c' : ContentBytes} {b b' a a' : Disparity} {n n' : Repairs} → l ≡ l' → c ≡ c' → b ≡ b' → a ≡ a' → n ≡ n'
    → ◌≡◌ {A = Delivery}
    (record { line = record { 0 = l }; content = c; before = b; after = a; repairs = n })
    (record { line = record { 0 = l' }; content = c'; before = b'; after = a'; repairs = n' })
same_delivery p q r s t = rw (p, q, r, s, t)

module _ (f : Format) (known : is_known f ≡ true) (w : List ℕ) (d : Disparity) (c : ContentBytes) (words : List ℕ)
    (e : Encodes f w d c words) where
  abbrev p : Shape
  p = shape_of f

  -- there are streams
  some : 1 ≤ p.stream_pairs
  some = known_has_streams f known

  -- its characters: as many as symbols, and each is one
  abbrev chars : List ℕ
  chars = chars_of p c words

  all_chars_lem : length chars ≡ symbols_in p
  all_chars_lem = length_chars p some c words e.long

  small : (i : ℕ) → get_or chars i 0 < characters
  small = chars_below p some c words e.long e.content

  -- it begins with K28.5, and so tells the disparity before it
  pub encoded_start : start_of w ≡ d
  unfolding chars_of symbols_from
  encoded_start = starts d w (ap (λ (l : List ℕ). get_or l 0 0) e.symbols)

  -- each symbol is legal, and of the kind that stands there
  pub encoded_scan : (i : ℕ) → i < symbols_in p → holds20 p w i ≡ true
  encoded_scan i h =
      let l : i < length chars = rw all_chars_lem h in
      is_legal p w i (get_or chars i 0) (small i)
      (symbol_is d chars w e.symbols encoded_start (λ j _. small j) i l)
      (chars_fit p some c words e.long e.content i)

  -- the disparity after it is the one that its characters leave
  pub encoded_after : running_at w (symbols_in p) ≡ after_run d chars
  encoded_after =
      ap (running_at w) (sym all_chars_lem)
      ∙ running_is d chars w e.symbols encoded_start (λ j _. small j) (length chars) (omega arith)
      ∙ ap (after_run d) (take-length chars)

  -- the byte that symbol i stands for
  byte_is : (i x : ℕ) → i < symbols_in p → get_or chars i 0 ≡ x → x < 256 → byte_of (symbol_at w i) ≡ x
  byte_is i x h q l =
      let m : meant (symbol_at w i) ≡ get_or chars i 0 =
      meant_char d chars w e.symbols encoded_start (λ j _. small j) i (rw all_chars_lem h) in
      omega (arith, m, q)

  -- its content bytes
  pub encoded_content : content_in p w ≡ c
  encoded_content =
      let sav = char_sav p some c words e.long in
      let eav = char_eav p some c words e.long in
      same_content
      (byte_is 2 c.sav1 (omega (arith, some)) (sav 2 (omega arith)) e.content.sav1)
      (byte_is 3 c.sav2 (omega (arith, some)) (sav 3 (omega arith)) e.content.sav2)
      (byte_is (eav_at p + 2) c.eav1 (omega (arith, some)) (eav 2 (omega arith)) e.content.eav1)
      (byte_is (eav_at p + 3) c.eav2 (omega (arith, some)) (eav 3 (omega arith)) e.content.eav2)

  -- word k has twelve bits, and is 0 after the words
  twelve_bits : (k : ℕ) → word_in words k < 4096
  twelve_bits k =
      on_test (ltb k (length words)) (λ t. e.small k (ltb-true k (length words) t))
      (λ t. rw (get_or-eq_default words 0 (ltb-false k (length words) t)) (omega arith))

  -- the bytes of pair q
  three_bytes : (q i : ℕ) → i < 3 → get_or (bytes words) (3 * q + i) 0 ≡ get_or (bytes_listed (bytes_of (word_in words (2 * q)) (word_in words (2 * q + 1)))) i 0
  three_bytes q i l =
      on_test (ltb q (pairs_in p)) (λ t. byte_at_lem (pairs_in p) words e.long q (ltb-true q (pairs_in p) t) i l)
      (λ t.
      let past : pairs_in p ≤ q = ltb-false q (pairs_in p) t in
      let z : get_or (bytes words) (3 * q + i) 0 ≡ 0 =
      get_or-eq_default (bytes words) 0 (omega (arith, length_bytes (pairs_in p) words e.long)) in
      let a : word_in words (2 * q) ≡ 0 = get_or-eq_default words 0 (omega (arith, e.long)) in
      let b : word_in words (2 * q + 1) ≡ 0 = get_or-eq_default words 0 (omega (arith, e.long)) in
      z ∙ zeros i l ∙ sym (ap₂ (λ (x y : ℕ). get_or (bytes_listed (bytes_of x y)) i 0) a b))

  -- a byte that was not replaced
  kept_byte : (i : ℕ) → 4 ≤ i → (eav_at p ≤ i → eav_at p + 4 ≤ i) → byte_of (symbol_at w i) ≡ get_or (bytes words) i 0
  kept_byte i past q =
      on_test (ltb i (symbols_in p))
      (λ t.
      byte_is i (get_or (bytes words) i 0) (ltb-true i (symbols_in p) t) (char_byte p some c words e.long i past q) (bytes_below words i))
      (λ t.
      let behind : symbols_in p ≤ i = ltb-false i (symbols_in p) t in
      let none_there : symbol_at w i ≡ 0 =
      get_or-eq_default w 0 (omega (arith, ap length e.symbols ∙ length_symbols d chars ∙ all_chars_lem)) in
      let z : get_or (bytes words) i 0 ≡ 0 =
      get_or-eq_default (bytes words) 0 (omega (arith, length_bytes (pairs_in p) words e.long)) in
      rw (none_there, no_symbol, z))

  -- ---- words by their bytes

  -- the bytes of pair q of the window are those of the words
  abbrev SameBytes : ℕ → Type 0
  SameBytes q = (i : ℕ) → i < 3 → byte_at p w (3 * q + i) ≡ get_or (bytes words) (3 * q + i) 0

  -- then so are its two words
  encoded_pair : (q : ℕ) → SameBytes q → pair_at p w q ≡ record { a = word_in words (2 * q); b = word_in words (2 * q + 1) }
  unfolding pair_at
  encoded_pair q same =
      let a = word_in words (2 * q) in
      let b = word_in words (2 * q + 1) in
      let at_first : 3 * q ≡ 3 * q + 0 = omega arith in
      let first : byte_at p w (3 * q) ≡ (bytes_of a b).first = ap (byte_at p w) at_first ∙ same 0 (omega arith) ∙ three_bytes q 0 (omega arith) in
      let second : byte_at p w (3 * q + 1) ≡ (bytes_of a b).second = same 1 (omega arith) ∙ three_bytes q 1 (omega arith) in
      let third : byte_at p w (3 * q + 2) ≡ (bytes_of a b).third = same 2 (omega arith) ∙ three_bytes q 2 (omega arith) in
      rw (first, second, third) (unpack_pack a b (twelve_bits (2 * q)) (twelve_bits (2 * q + 1)))

  -- one at a time
  word_is : (k : ℕ) → SameBytes (k / 2) → word_at p w k ≡ word_in words k
  unfolding word_at
  word_is k same =
      on_test (eqb (k % 2) 0)
      (λ t.
      let even : 2 * (k / 2) ≡ k = omega (arith, eqb-true (k % 2) 0 t) in
      simp (t, encoded_pair (k / 2) same, even))
      (λ t.
      let odd : 2 * (k / 2) + 1 ≡ k = let n = eqb-false (k % 2) 0 t in omega arith in
      simp (t, encoded_pair (k / 2) same, odd))

  -- where the replaced bytes are those that a receiver takes them to be, all bytes of the window are those of the words, and so are its words:
  -- at every place, also after the last word, where both are 0
  encoded_byte : Restored p words → (i : ℕ) → byte_at p w i ≡ get_or (bytes words) i 0
  encoded_byte r =
      each_place (eav_at p)
      (λ i h. byte_sav p w i h ∙ sym (r.sav i h))
      (λ i h. byte_eav p w some i h ∙ sym (r.eav i h))
      (λ i past q. byte_else p w i past q ∙ kept_byte i past q)

  pub encoded_word : Restored p words → word_at p w ≡ word_in words
  encoded_word r = fun_ext (λ k. word_is k (λ i h. encoded_byte r (3 * (k / 2) + i)))

  -- where only those of the SAV are, the words before the EAV
  pub early_word : ((i : ℕ) → i < 4 → get_or (bytes words) i 0 ≡ fixed_byte (streams p) i)
      → (k : ℕ) → k < eav_start * streams p → word_at p w k ≡ word_in words k
  early_word sav k h =
      word_is k
      (λ i l.
      let early : 3 * (k / 2) + i < eav_at p = omega arith in
      split (3 * (k / 2) + i) 4
      (λ b. byte_sav p w (3 * (k / 2) + i) b ∙ sym (sav (3 * (k / 2) + i) b))
      (λ m q.
      let behind : eav_at p ≤ 3 * (k / 2) + i → eav_at p + 4 ≤ 3 * (k / 2) + i = λ x. absurd (omega arith) in
      byte_else p w (3 * (k / 2) + i) (omega arith) behind ∙ kept_byte (3 * (k / 2) + i) (omega arith) behind))

-- ---- words whose replaced bytes are those

-- four words that are the first four of others have their first four bytes
module _ (xs ys : List ℕ) (k l : ℕ) (p : length xs ≡ 2 * k) (q : length ys ≡ 2 * l) (u : ℕ) (inside-xs : u + 2 ≤ k) (inside-ys : 2 ≤ l)
    (same : (m : ℕ) → m < 4 → get_or xs (2 * u + m) 0 ≡ get_or ys m 0) where
  -- byte i of pair v
  byte_of_pair : (v i : ℕ) → v < 2 → i < 3 → get_or (bytes xs) (3 * u + (3 * v + i)) 0 ≡ get_or (bytes ys) (3 * v + i) 0
  byte_of_pair v i h b =
      let place : 3 * u + (3 * v + i) ≡ 3 * (u + v) + i = omega arith in
      let first : 2 * (u + v) ≡ 2 * u + 2 * v = omega arith in
      let second : 2 * (u + v) + 1 ≡ 2 * u + (2 * v + 1) = omega arith in
      ap (λ (n : ℕ). get_or (bytes xs) n 0) place
      ∙ byte_at_lem k xs p (u + v) (omega arith) i b
      ∙ ap₂ (λ (x y : ℕ). get_or (bytes_listed (bytes_of x y)) i 0)
      (ap (λ (n : ℕ). get_or xs n 0) first ∙ same (2 * v) (omega arith))
      (ap (λ (n : ℕ). get_or xs n 0) second ∙ same (2 * v + 1) (omega arith))
      ∙ sym (byte_at_lem l ys q v (omega arith) i b)

  same_bytes_lem : (i : ℕ) → i < 4 → get_or (bytes xs) (3 * u + i) 0 ≡ get_or (bytes ys) i 0
  same_bytes_lem =
      four (λ i. get_or (bytes xs) (3 * u + i) 0 ≡ get_or (bytes ys) i 0)
      (byte_of_pair 0 0 (omega arith) (omega arith))
      (byte_of_pair 0 1 (omega arith) (omega arith))
      (byte_of_pair 0 2 (omega arith) (omega arith))
      (byte_of_pair 1 0 (omega arith) (omega arith))

-- words j and j + 1 of all of s streams begin a timing code
abbrev pub Begins : ℕ → List ℕ → ℕ → Type 0
Begins s words j = (t : ℕ) → t < s → (word_in words (s * j + t) ≡ 0xFFF) × (word_in words (s * (j + 1) + t) ≡ 0x000)

-- then its first four bytes are the fixed ones
module _ (half : ℕ) (some : 1 ≤ half) (words : List ℕ) (k : ℕ) (long : length words ≡ 2 * k) (j : ℕ) (room : half * (j + 2) ≤ k)
    (begins : Begins (2 * half) words j) where
  abbrev code : List ℕ
  code = interleaved (2 * half) 4 (λ _. timing_code false false)

  begun : (i t : ℕ) → i < 2 → t < 2 * half → word_in words (2 * half * (j + i) + t) ≡ get_or (timing_code false false) i 0
  begun zero t h l = rw add-zero (begins t l).0
  begun (suc zero) t h l = (begins t l).1
  begun (suc (suc i)) t h l = absurd (omega arith)

  -- the first four words, by word and stream
  first_four : (m : ℕ) → m < 4 → word_in words (2 * (half * j) + m) ≡ get_or code m 0
  first_four m h =
      let s = 2 * half in
      let has : 1 ≤ s = omega arith in
      let again = place_again s has m in
      let l : m % s < s = stream_below s has m in
      let i : m / s < 2 = (div-lt_iff_lt-mul has).1 (omega arith) in
      let there : 2 * (half * j) + m ≡ s * (j + m / s) + m % s = omega (arith, again) in
      ap (word_in words) there
      ∙ begun (m / s) (m % s) i l
      ∙ sym (interleaved_at s 4 (λ _. timing_code false false) (m / s) (m % s) (omega arith) l)
      ∙ ap (λ (n : ℕ). get_or code n 0) again

  bytes_begin : (i : ℕ) → i < 4 → get_or (bytes words) (3 * (half * j) + i) 0 ≡ fixed_byte (2 * half) i
  unfolding fixed_byte
  bytes_begin =
      same_bytes_lem words code k (half * 4) long (length_interleaved (2 * half) 4 (λ _. timing_code false false) ∙ omega arith)
      (half * j) (omega arith) (omega arith) first_four

-- the fixed bytes are those of every timing code
pub fixed_bytes : (half : ℕ) → 1 ≤ half → (v h : Bool) (i : ℕ) → i < 4
    → get_or (bytes (interleaved (2 * half) 4 (λ _. timing_code v h))) i 0 ≡ fixed_byte (2 * half) i
fixed_bytes half some v h i l =
    let words = interleaved (2 * half) 4 (λ _. timing_code v h) in
    let e : i ≡ 3 * (half * 0) + i = omega arith in
    ap (λ (n : ℕ). get_or (bytes words) n 0) e
    ∙ bytes_begin half some words (half * 4) (length_interleaved (2 * half) 4 (λ _. timing_code v h) ∙ omega arith) 0 (omega arith) begins i l
  where
    begins : Begins (2 * half) (interleaved (2 * half) 4 (λ _. timing_code v h)) 0
    begins t m = (
      interleaved_at (2 * half) 4 (λ _. timing_code v h) 0 t (omega arith) m,
      interleaved_at (2 * half) 4 (λ _. timing_code v h) 1 t (omega arith) m,
    )

module _ (f : Format) (known : is_known f ≡ true) (words : List ℕ) (long : length words ≡ 2 * pairs_in (shape_of f)) where
  abbrev half : ℕ
  half = (shape_of f).stream_pairs

  abbrev s : ℕ
  s = streams (shape_of f)

  has_streams : 1 ≤ half
  has_streams = known_has_streams f known

  -- words that begin with a SAV
  pub restored_sav : Begins s words 0 → (i : ℕ) → i < 4 → get_or (bytes words) i 0 ≡ fixed_byte s i
  restored_sav sav i h =
      let e : i ≡ 3 * (half * 0) + i = omega arith in
      ap (λ (n : ℕ). get_or (bytes words) n 0) e ∙ bytes_begin half has_streams words (pairs_in (shape_of f)) long 0 (omega arith) sav i h

  -- and that have an EAV where it stands
  pub restored_words : Begins s words 0 → Begins s words eav_start → Restored (shape_of f) words
  restored_words sav eav =
      record {
        sav = restored_sav sav;
        eav =
            λ i h.
            let e : eav_at (shape_of f) + i ≡ 3 * (half * eav_start) + i = omega arith in
            ap (λ (n : ℕ). get_or (bytes words) n 0) e ∙ bytes_begin half has_streams words (pairs_in (shape_of f)) long eav_start (omega arith) eav i h;
      }

  -- words that meet test 21 do
  pub restored_told : ((k : ℕ) → k < 2 * pairs_in (shape_of f) → placed s (holds21 s (word_in words)) k ≡ true) → Restored (shape_of f) words
  restored_told tests =
      restored_words
      (λ t l. let code = sav_told f (word_in words) t l tests in (code.0, code.1))
      (λ t l. let code = eav_told f (word_in words) t l tests in (code.0, code.1))

-- ---- what it is read as

module _ (f : Format) (known : is_known f ≡ true) (w : List ℕ) (d : Disparity) (c : ContentBytes) (words : List ℕ)
    (e : Encodes f w d c words) where
  module _ (r : Restored (shape_of f) words) where
    -- the answer is that of the words
    encoded_delivery : delivery_of f w ≡ answered f d c words
    unfolding delivery_of
    encoded_delivery =
        let same = encoded_word f known w d c words e r in
        same_delivery
        (ap (line_read (streams (shape_of f))) same)
        (encoded_content f known w d c words e)
        (encoded_start f known w d c words e)
        (encoded_after f known w d c words e)
        (ap (λ (word : ℕ → ℕ). repairs_of (repair_count (streams (shape_of f)) word) (repairs_at (streams (shape_of f)) word)) same)

    -- and so is the reading of the window
    pub encoded_read : read_span f w ≡ checked (word_tests f (word_in words)) (answered f d c words)
    unfolding read_span
    encoded_read =
        passes (span_tests f w) (delivery_of f w) (checked (word_tests f (word_in words)) (answered f d c words)) 0
        (none_fails (symbols_in (shape_of f)) (holds20 (shape_of f) w) (encoded_scan f known w d c words e))
        (ap₂ (λ (word : ℕ → ℕ) (r : Delivery). checked (word_tests f word) r) (encoded_word f known w d c words e r) encoded_delivery)

    pub encoded_picture : picture_of f w ≡ rows (streams (shape_of f)) (word_in words)
    unfolding picture_of
    encoded_picture = ap (rows (streams (shape_of f))) (encoded_word f known w d c words e r)
