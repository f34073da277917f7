-- The words of a span that is sent: each has twelve bits, its picture words may be received, and the register over them is the one sent.
-- Assumes nothing.
use mathlib.Core.Path.{◌≡◌, refl, sym, ap, ap₂, ◌∙◌}
use mathlib.Core.Bool.{Bool, true, false}
use mathlib.Core.List.{List, [], ◌∷◌, ◌++◌}
use mathlib.Core.Logic.{◌⊎◌, inl, inr}
use Prim.Native.Nat.{ℕ, zero, suc, ◌+◌, ◌*◌, ◌/◌, ◌<◌}
use native.Mathlib.Nat.{mul-le-mul_left}
use native.Mathlib.Omega.{arith}
use lib.ListN.{length, get_or, replicate}
use Rattle.ground.specs.Written.{upto, table}
use Rattle.ground.proofs.Cases.{on_test}
use Rattle.ground.proofs.Writing.{replicate_table, table_same}
use Rattle.line.specs.Stream.{is_active, v_of, line_after}
use Rattle.crcc.specs.Crcc.{crc, crcc_words}
use Rattle.word.specs.LineNumber.{ln0, ln1}
use Rattle.packing.specs.Sample.{allowed_at_depth as allowedAt, word_at_depth as word_at, allowed_word}
use Rattle.word.specs.Timing.{timing, timing_code}
use Rattle.word.proofs.Guards.{guard_below}
use Rattle.word.proofs.LineNumbers.{ln0_below, ln1_below}
use Rattle.packing.proofs.Samples.{sent_ten, sent_twelve}
use Rattle.word.proofs.Timings.{timing_below}
use Rattle.span.specs.declared.format.Format.{Format}
use Rattle.span.specs.Format.{shape_of, streams}
use Rattle.span.specs.Numbers.{IsFormat}
use Rattle.span.specs.Sample.{blank_word, allowed, sample_word}
use Rattle.span.specs.Span.{across, interleaved, fill_word, words_from_sav, words_from_eav, span_words}
use Rattle.span.specs.Stream.{Request, sav, picture, eav, line_number, crcc, register, ancillary, from_sav, from_eav}
use Rattle.span.specs.Layout.{picture_start, eav_start, line_start, eav_xyz}
use Rattle.span.proofs.Formats.{known_told}
use Rattle.span.proofs.Samples.{blank_below, word_is, word_below}
use Rattle.window.specs.Encoded.{word_in}
use Rattle.window.specs.Tests.{may_bring, word_of, column, register_of}
use Rattle.word.specs.Received.{repaired}
use Rattle.window.specs.Inside.Encoded.{Sendable}

-- ---- lists of words of twelve bits

-- every word has twelve bits
abbrev Twelve : List ℕ → Type 0
Twelve l = (i : ℕ) → get_or l i 0 < 4096

none_twelve : Twelve []
none_twelve i = omega arith

cons_twelve : (x : ℕ) (l : List ℕ) → x < 4096 → Twelve l → Twelve (x ∷ l)
cons_twelve x l h f zero = h
cons_twelve x l h f (suc i) = f i

both_twelve : (l m : List ℕ) → Twelve l → Twelve m → Twelve (l ++ m)
both_twelve [] m f g i = g i
both_twelve (x ∷ l) m f g zero = f 0
both_twelve (x ∷ l) m f g (suc i) = both_twelve l m (λ j. f (suc j)) g i

-- of pieces, of a table, of one word again and again
upto_twelve : (n : ℕ) (f : ℕ → List ℕ) → ((k : ℕ) → k < n → Twelve (f k)) → Twelve (upto n f)
unfolding upto
upto_twelve zero f h = none_twelve
upto_twelve (suc n) f h = both_twelve (upto n f) (f n) (upto_twelve n f (λ k l. h k (omega arith))) (h n (omega arith))

table_twelve : (n : ℕ) (f : ℕ → ℕ) → ((k : ℕ) → k < n → f k < 4096) → Twelve (table n f)
unfolding table
table_twelve n f h = upto_twelve n (λ k. f k ∷ []) (λ k l. cons_twelve (f k) [] (h k l) none_twelve)

again_twelve : (n x : ℕ) → x < 4096 → Twelve (replicate n x)
again_twelve n x h = rw (replicate_table n x) (table_twelve n (λ _. x) (λ _ _. h))

-- of several streams
interleaved_twelve : (s n : ℕ) (words : ℕ → List ℕ) → ((t : ℕ) → t < s → Twelve (words t)) → Twelve (interleaved s n words)
unfolding interleaved
interleaved_twelve s n words h =
    upto_twelve n (across s words) (λ j _. table_twelve s (λ t. get_or (words t) j 0) (λ t l. h t l j))

-- of a timing code
code_twelve : (v h : Bool) → Twelve (timing_code v h)
code_twelve v h =
    cons_twelve 0xFFF (0x000 ∷ 0x000 ∷ timing v h ∷ []) (omega arith)
    (cons_twelve 0x000 (0x000 ∷ timing v h ∷ []) (omega arith)
    (cons_twelve 0x000 (timing v h ∷ []) (omega arith) (cons_twelve (timing v h) [] (timing_below v h) none_twelve)))

pair_twelve : (x y : ℕ) → x < 4096 → y < 4096 → Twelve (x ∷ y ∷ [])
pair_twelve x y h l = cons_twelve x (y ∷ []) h (cons_twelve y [] l none_twelve)

-- ---- a span that is sent

-- the word of a sample that may be sent may be received
received : (depth x : ℕ) → (depth ≡ 10) ⊎ (depth ≡ 12) → allowedAt depth x ≡ true → allowed_word depth (word_at depth x) ≡ true
received depth x (inl e) ok = rw e (sent_ten x (rw e at ok)).1
received depth x (inr e) ok = rw e (sent_twelve x (rw e at ok)).1

module _ (f : Format) (a : Request) (good : Sendable f a) where
  abbrev s : ℕ
  s = streams (shape_of f)

  -- sample i of stream t, which may be sent
  abbrev sample : ℕ → ℕ → ℕ
  sample t i = get_or a.samples (1920 * t + i) 0

  may_send : (t i : ℕ) → t < s → i < 1920 → allowed f a.line t (sample t i) ≡ true
  may_send t i l h =
      let k : 1920 * t + i < length a.samples = omega (arith, good.long, mul-le-mul_left 1920 l) in
      let e : (1920 * t + i) / 1920 ≡ t = omega arith in
      ap (λ (u : ℕ). allowed f a.line u (sample t i)) (sym e) ∙ good.allowed (1920 * t + i) k

  known : IsFormat f
  known = known_told f good.known

  -- of one stream: its picture, what stands from the SAV on, and what stands from the EAV on
  picture_twelve : (t : ℕ) → t < s → Twelve (picture f a t)
  unfolding picture
  picture_twelve t l =
      table_twelve 1920 (λ j. sample_word f a.line t (sample t j))
      (λ i h.
      rw (word_is f known a.line t (sample t i) (may_send t i l h)) (word_below f known a.line t (sample t i) (may_send t i l h)))

  from_sav_twelve : (t : ℕ) → t < s → Twelve (from_sav f a t)
  from_sav_twelve t l = both_twelve (sav a) (picture f a t) (code_twelve (v_of a.line) false) (picture_twelve t l)

  from_eav_twelve : (t : ℕ) → t < s → Twelve (from_eav f a t)
  unfolding ancillary
  from_eav_twelve t l =
      let n = line_after a.line in
      let r = register f a t in
      both_twelve (eav a) (line_number a ++ (crcc f a t ++ ancillary f a.line t)) (code_twelve (v_of n) true)
      (both_twelve (line_number a) (crcc f a t ++ ancillary f a.line t) (pair_twelve (ln0 n) (ln1 n) (ln0_below n) (ln1_below n))
      (both_twelve (crcc f a t) (ancillary f a.line t)
      (pair_twelve (crcc_words r).crcc0 (crcc_words r).crcc1 (guard_below _) (guard_below _))
      (again_twelve (shape_of f).ancillary (blank_word f) (blank_below f))))

  -- every word has twelve bits
  pub sent_twelve_bits : (k : ℕ) → word_in (span_words f a) k < 4096
  unfolding span_words words_from_sav words_from_eav
  sent_twelve_bits =
      both_twelve (words_from_sav f a) (words_from_eav f a)
      (interleaved_twelve s eav_start (from_sav f a) from_sav_twelve)
      (both_twelve (interleaved s (8 + (shape_of f).ancillary) (from_eav f a)) (replicate (2 * (shape_of f).fill_pairs) fill_word)
      (interleaved_twelve s (8 + (shape_of f).ancillary) (from_eav f a) from_eav_twelve)
      (again_twelve (2 * (shape_of f).fill_pairs) fill_word (omega arith)))

  -- a picture word may be received
  pub may_bring_lem : (t i : ℕ) → t < s → i < 1920 → may_bring f a.line t (sample_word f a.line t (sample t i)) ≡ true
  may_bring_lem t i l h =
      on_test (is_active a.line)
      (λ active. simp active (received f.depth (sample t i) known.bits (simp active at (may_send t i l h))))
      (λ blanking. simp blanking)

-- ---- a stream with the words of a span that is sent

-- short tables
three_entries : (g : ℕ → ℕ) → table 3 g ≡ g 0 ∷ g 1 ∷ g 2 ∷ []
unfolding table upto
three_entries g = refl

two_entries : (g : ℕ → ℕ) → table 2 g ≡ g 0 ∷ g 1 ∷ []
unfolding table upto
two_entries g = refl

module _ (f : Format) (a : Request) (word : ℕ → ℕ) (t : ℕ) where
  -- word j of stream t
  abbrev at : ℕ → ℕ
  at j = word_of (streams (shape_of f)) word j t

  abbrev next : ℕ
  next = line_after a.line

  module _ (brought : (i : ℕ) → i < 1920 → at (picture_start + i) ≡ sample_word f a.line t (get_or a.samples (1920 * t + i) 0)) where
    -- its picture
    pub picture_column : column (streams (shape_of f)) word picture_start 1920 t ≡ picture f a t
    unfolding picture
    picture_column = table_same 1920 (λ i. at (picture_start + i)) (λ i. sample_word f a.line t (get_or a.samples (1920 * t + i) 0)) brought

    -- the register, over the picture, the EAV with its XYZ repaired, and the line number
    pub register_is :
        (at eav_start ≡ 0xFFF) × (at (eav_start + 1) ≡ 0x000) × (at (eav_start + 2) ≡ 0x000)
        → repaired (at eav_xyz) ≡ timing (v_of next) true
        → (at line_start ≡ ln0 next) × (at (line_start + 1) ≡ ln1 next)
        → register_of (streams (shape_of f)) word t ≡ register f a t
    unfolding register_of register
    register_is code xyz number =
        let before : column (streams (shape_of f)) word eav_start 3 t ≡ 0xFFF ∷ 0x000 ∷ 0x000 ∷ [] =
        three_entries (λ i. at (eav_start + i)) ∙ rw (code.0, code.1, code.2) in
        let behind : column (streams (shape_of f)) word line_start 2 t ≡ line_number a =
        two_entries (λ i. at (line_start + i)) ∙ rw (number.0, number.1) in
        ap (crc 0)
        (ap₂ (λ (x y : List ℕ). x ++ y) picture_column
        (ap₂ (λ (x y : List ℕ). x ++ y) before (ap₂ (λ (x : ℕ) (l : List ℕ). x ∷ l) xyz behind)))
