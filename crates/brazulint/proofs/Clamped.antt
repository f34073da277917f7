-- Numbers are clamped: the library is called with the largest number that it has room for where a caller's is larger, and each of these
-- laws says that a call answers the same for both, and leaves the same in lent memory.
-- Assumes nothing.
use mathlib.Core.Path.{◌≡◌, refl, sym, ap, ◌∙◌}
use mathlib.Core.Bool.{Bool, true, false, cond, ◌&&◌, and-false}
use mathlib.Core.List.{List}
use mathlib.Core.Logic.{⊎_elim}
use Prim.Native.Nat.{ℕ, ◌≤◌, min}
use native.Mathlib.Nat.{min-eq_left, min-eq_right}
use native.Mathlib.Omega.{arith}
use lib.Dec.{leb}
use borrow.Author.Tests.{leb-true, leb-false, le-ltb, lt-leb}
use Rattle.ground.specs.Answer.{Answer, refused}
use Rattle.ground.specs.Range.{within}
use Rattle.ground.proofs.Cases.{on_test}
use Rattle.ground.proofs.Ranges.{is_above}
use Rattle.symbol.specs.declared.disparity.Disparity.{Disparity}
use Rattle.decoder.specs.Decode.{decode_of}
use Rattle.line.specs.Stream.{is_line, is_active}
use Rattle.word.specs.LineNumber.{numbered_of, named_of}
use Rattle.word.specs.Repair.{repair_of}
use Rattle.word.specs.Word.{is_word}
use Rattle.picture.specs.Choice.{row_on}
use Rattle.picture.specs.Place.{placed_of}
use Rattle.span.specs.Content.{Content}
use Rattle.span.specs.declared.format.Format.{Format}
use Rattle.span.specs.Format.{is_known, format_from}
use Rattle.span.specs.Length.{lengths_of}
use Rattle.span.specs.Numbers.{IsFormat}
use Rattle.span.proofs.Formats.{unknown}
use Rattle.span.specs.Blanking.{fill_of, filled_row}
use Rattle.request.specs.Send.{request, send_of, sent_buffer}
use Rattle.way_back.specs.declared.back.ImageLine.{ImageLine}
use Rattle.way_back.specs.Back.{has_stream, brings_line, back_of}
use Rattle.way_back.proofs.Backs.{has_told}
use Rattle.window.specs.Read.{judge_of, read_of, rows_read}
use Rattle.recording.specs.Call.{find_of, next_of, after_next, rows_next}
use Rattle.boundary.specs.declared.numbers.FormatNumbers.{FormatNumbers}
use Rattle.boundary.specs.Numbers.{format_given}

-- what is the same for all numbers from a top on is the same for a number and the smaller of it and the top
pub clamped : {A : Type 0} (g : ℕ → A) (top n : ℕ) → ((m : ℕ) → top ≤ m → g m ≡ g top) → g (min n top) ≡ g n
clamped g top n same = on_test (leb n top) below above
  where
    below : leb n top ≡ true → g (min n top) ≡ g n
    below t = ap g (min-eq_left (leb-true n top t))

    above : leb n top ≡ false → g (min n top) ≡ g n
    above t =
        let h : top ≤ n = omega (arith, leb-false n top t) in ap g (min-eq_right h) ∙ sym (same n h)

-- the same where all of them are sent to one value
pub clamped_to : {A : Type 0} (g : ℕ → A) (top n : ℕ) (x : A) → ((m : ℕ) → top ≤ m → g m ≡ x) → g (min n top) ≡ g n
clamped_to g top n x is = clamped g top n (λ m h. is m h ∙ sym (is top (omega arith)))

-- ---- symbols, words, lines and samples

pub decode_clamped : (d : Disparity) (s : ℕ) → decode_of d (min s 65535) ≡ decode_of d s
decode_clamped d s = clamped_to (decode_of d) 65535 s (refused 7 0) (λ m h. simp (le-ltb m 1024 (omega arith)))

pub repair_clamped : (w : ℕ) → repair_of (min w 65535) ≡ repair_of w
repair_clamped w = clamped_to repair_of 65535 w (refused 7 0) (λ m h. simp (le-ltb m 4096 (omega arith)))

pub named_clamped : (a b : ℕ) → named_of (min a 65535) (min b 65535) ≡ named_of a b
named_clamped a b = clamped_to (λ m. named_of m (min b 65535)) 65535 a (refused 7 0) first ∙ clamped_to (named_of a) 65535 b (refused 7 0) second
  where
    first : (m : ℕ) → 65535 ≤ m → named_of m (min b 65535) ≡ refused 7 0
    first m h = simp (le-ltb m 4096 (omega arith))

    second : (m : ℕ) → 65535 ≤ m → named_of a m ≡ refused 7 0
    second m h = on_test (is_word a) (λ t. simp (t, le-ltb m 4096 (omega arith))) (λ t. simp t)

no_line : (m : ℕ) → 65535 ≤ m → is_line m ≡ false
no_line m h = is_above 1 1125 m (omega arith) (omega arith)

pub numbered_clamped : (n : ℕ) → numbered_of (min n 65535) ≡ numbered_of n
numbered_clamped n = clamped_to numbered_of 65535 n (refused 2 0) (λ m h. simp (no_line m h))

pub placed_clamped : (l j : ℕ) → placed_of (min l 65535) (min j 65535) ≡ placed_of l j
placed_clamped l j = clamped_to (λ m. placed_of m (min j 65535)) 65535 l (refused 2 0) line ∙ clamped_to (placed_of l) 65535 j (refused 2 0) sample
  where
    line : (m : ℕ) → 65535 ≤ m → placed_of m (min j 65535) ≡ refused 2 0
    line m h = simp (is_above 1 2160 m (omega arith) (omega arith))

    sample : (m : ℕ) → 65535 ≤ m → placed_of l m ≡ refused 2 0
    sample m h = on_test (within 1 2160 l) (λ t. simp (t, lt-leb m 3839 (omega arith))) (λ t. simp t)

pub row_clamped : (n : ℕ) → is_active (min n 65535) ≡ row_on n true false
row_clamped n = clamped_to is_active 65535 n false (λ m h. is_above 42 1121 m (omega arith) (omega arith)) ∙ is_test (is_active n)
  where
    is_test : (t : Bool) → t ≡ cond t true false
    is_test true = refl
    is_test false = refl

-- ---- formats

-- a format whose numbers are clamped
abbrev pub clipped : FormatNumbers → Format
clipped given =
    format_from (min given.number 255) (min given.depth 255) (min given.component 255) (min given.structure 255) (min given.size 255)

-- what is the same for all unknown formats: a number from 255 on is unknown in every field
pub format_clamped : {A : Type 0} (g : Format → A) (x : A) → ((f : Format) → is_known f ≡ false → g f ≡ x) → (given : FormatNumbers)
    → g (clipped given) ≡ g (format_given given)
format_clamped g x is given =
    let number = given.number in
    let depth = given.depth in
    let component = given.component in
    let structure = given.structure in
    let other : (f : Format) → (IsFormat f → ⊥) → g f ≡ x = λ f never. is f (unknown f never) in
    clamped_to (λ m. g (format_from m (min depth 255) (min component 255) (min structure 255) (min given.size 255))) 255 number x
    (λ m h. other _ (λ k. omega (arith, k.to)))
    ∙ clamped_to (λ m. g (format_from number m (min component 255) (min structure 255) (min given.size 255))) 255 depth x
    (λ m h. other _ (λ k. ⊎_elim (λ e. omega (arith, e)) (λ e. omega (arith, e)) k.bits))
    ∙ clamped_to (λ m. g (format_from number depth m (min structure 255) (min given.size 255))) 255 component x
    (λ m h. other _ (λ k. omega (arith, k.component.1)))
    ∙ clamped_to (λ m. g (format_from number depth component m (min given.size 255))) 255 structure x
    (λ m h. other _ (λ k. omega (arith, k.structure)))
    ∙ clamped_to (λ m. g (format_from number depth component structure m)) 255 given.size x
    (λ m h. other _ (λ k. omega (arith, k.size)))

module _ (given : FormatNumbers) where
  pub lengths_clamped : lengths_of (clipped given) ≡ lengths_of (format_given given)
  lengths_clamped = format_clamped lengths_of (refused 1 0) (λ f t. simp t) given

  module _ (row : List ℕ) where
    pub fill_clamped : fill_of (clipped given) row ≡ fill_of (format_given given) row
    fill_clamped = format_clamped (λ f. fill_of f row) (refused 1 0) (λ f t. simp t) given

    pub filled_clamped : filled_row (clipped given) row ≡ filled_row (format_given given) row
    filled_clamped = format_clamped (λ f. filled_row f row) row (λ f t. simp t) given

  module _ (symbols : List ℕ) where
    pub judge_clamped : judge_of (clipped given) symbols ≡ judge_of (format_given given) symbols
    judge_clamped = format_clamped (λ f. judge_of f symbols) (refused 1 0) (λ f t. simp t) given

    pub read_clamped : (room : ℕ) → read_of (clipped given) symbols room ≡ read_of (format_given given) symbols room
    read_clamped room = format_clamped (λ f. read_of f symbols room) (refused 1 0) (λ f t. simp t) given

    pub rows_clamped : (rows : List ℕ) → rows_read (clipped given) symbols rows ≡ rows_read (format_given given) symbols rows
    rows_clamped rows = format_clamped (λ f. rows_read f symbols rows) rows (λ f t. simp t) given

    module _ (start : ℕ) where
      pub find_clamped : find_of (clipped given) symbols start ≡ find_of (format_given given) symbols start
      find_clamped = format_clamped (λ f. find_of f symbols start) (refused 1 0) (λ f t. simp t) given

      pub next_clamped : (room : ℕ) → next_of (clipped given) symbols start room ≡ next_of (format_given given) symbols start room
      next_clamped room = format_clamped (λ f. next_of f symbols start room) (refused 1 0) (λ f t. simp t) given

      pub after_clamped : (room : ℕ) → after_next (clipped given) symbols start room ≡ after_next (format_given given) symbols start room
      after_clamped room = format_clamped (λ f. after_next f symbols start room) start (λ f t. simp t) given

      pub next_rows_clamped : (rows : List ℕ) → rows_next (clipped given) symbols start rows ≡ rows_next (format_given given) symbols start rows
      next_rows_clamped rows = format_clamped (λ f. rows_next f symbols start rows) rows (λ f t. simp t) given

-- ---- the way back: a format, a link, a stream and a line

module _ (given : FormatNumbers) where
  -- where there is no such link, stream or line, the answer does not depend on its number
  abbrev nothing : Format → Answer ImageLine
  nothing f = cond (is_known f) (refused 2 0) (refused 1 0)

  abbrev f : Format
  f = format_given given

  refused_by : (link stream n : ℕ) → brings_line f link stream n ≡ false → back_of f link stream n ≡ nothing f
  refused_by link stream n t = on_test (is_known f) (λ k. rw (k, t)) (λ k. rw k)

  no_link : (stream n m : ℕ) → 65535 ≤ m → back_of f m stream n ≡ nothing f
  no_link stream n m h =
      on_test (has_stream f m stream)
      (λ t. absurd (omega (arith, (has_told f m stream t).link_to)))
      (λ t. refused_by m stream n (rw t))

  no_stream : (link n m : ℕ) → 65535 ≤ m → back_of f link m n ≡ nothing f
  no_stream link n m h =
      on_test (has_stream f link m)
      (λ t. let x = has_told f link m t in absurd (omega (arith, x.stream_to, x.pairs)))
      (λ t. refused_by link m n (rw t))

  no_picture : (link stream m : ℕ) → 65535 ≤ m → back_of f link stream m ≡ nothing f
  no_picture link stream m h =
      let blank : is_active m ≡ false = is_above 42 1121 m (omega arith) (omega arith) in
      refused_by link stream m (ap (λ (t : Bool). has_stream f link stream && t) blank ∙ and-false (has_stream f link stream))

  back_clamped : (link stream n : ℕ)
      → back_of (clipped given) (min link 65535) (min stream 65535) (min n 65535) ≡ back_of f link stream n
  back_clamped link stream n =
      format_clamped (λ g. back_of g (min link 65535) (min stream 65535) (min n 65535)) (refused 1 0) (λ g t. simp t) given
      ∙ clamped_to (λ m. back_of f m (min stream 65535) (min n 65535)) 65535 link (nothing f) (no_link (min stream 65535) (min n 65535))
      ∙ clamped_to (λ m. back_of f link m (min n 65535)) 65535 stream (nothing f) (no_stream link (min n 65535))
      ∙ clamped_to (back_of f link stream) 65535 n (nothing f) (no_picture link stream)

  -- with what the call is given
  pub back_asked : {g : Format} {k t l : ℕ} (link stream n : ℕ) → g ≡ clipped given → k ≡ min link 65535 → t ≡ min stream 65535
      → l ≡ min n 65535 → back_of g k t l ≡ back_of f link stream n
  back_asked link stream n a b c d = rw (a, b, c, d) (back_clamped link stream n)

-- ---- sending: a format and a line

module _ (d : Disparity) (content : Content) (samples : List ℕ) where
  -- where there is no such line, what is answered and left does not depend on its number
  lineless : (f : Format) (room m : ℕ) → 65535 ≤ m → send_of d f (request m content samples) room ≡ cond (is_known f) (refused 2 0) (refused 1 0)
  lineless f room m h = on_test (is_known f) (λ t. simp (t, no_line m h)) (λ t. simp t)

  untouched : (f : Format) (symbols : List ℕ) (m : ℕ) → 65535 ≤ m → sent_buffer d f (request m content samples) symbols ≡ symbols
  untouched f symbols m h = on_test (is_known f) (λ t. simp (t, no_line m h)) (λ t. simp t)

  module _ (given : FormatNumbers) (line : ℕ) where
    pub send_clamped : (room : ℕ)
        → send_of d (clipped given) (request (min line 65535) content samples) room
        ≡ send_of d (format_given given) (request line content samples) room
    send_clamped room =
        format_clamped (λ f. send_of d f (request (min line 65535) content samples) room) (refused 1 0) (λ f t. simp t) given
        ∙ clamped_to (λ n. send_of d (format_given given) (request n content samples) room) 65535 line _ (lineless (format_given given) room)

    pub sent_clamped : (symbols : List ℕ)
        → sent_buffer d (clipped given) (request (min line 65535) content samples) symbols
        ≡ sent_buffer d (format_given given) (request line content samples) symbols
    sent_clamped symbols =
        format_clamped (λ f. sent_buffer d f (request (min line 65535) content samples) symbols) symbols (λ f t. simp t) given
        ∙ clamped_to (λ n. sent_buffer d (format_given given) (request n content samples) symbols) 65535 line symbols
        (untouched (format_given given) symbols)
