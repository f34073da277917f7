-- What a span brings, put at its line's place.
-- Assumes nothing.
use mathlib.Core.Path.{◌≡◌, refl, sym, ap, ap₂, ◌∙◌}
use mathlib.Core.Bool.{true}
use mathlib.Core.List.{List}
use Prim.Native.Nat.{ℕ, ◌+◌, ◌-◌, ◌*◌, ◌≤◌}
use native.Mathlib.Omega.{arith}
use lib.ListN.{length, set, take, drop, length-drop}
use lib.Seq.{sets, length-take-le}
use borrow.Rule.Slice.PartMut.{put_mid}
use Rattle.ground.specs.Range.{within}
use Rattle.ground.proofs.Answers.{when_given}
use Rattle.ground.proofs.Ranges.{is_within, from_low, to_high}
use Rattle.ground.proofs.Writing.{sets_append}
use Rattle.line.specs.Stream.{is_active}
use Rattle.dividing.specs.Row.{joined, join_row, stream_in}
use Rattle.dividing.proofs.Lengths.{joins}
use Rattle.dividing.proofs.Rows.{length_joined}
use Rattle.recording.specs.Recording.{Reading}
use Rattle.reception.specs.Receiving.{line_heard, joined_row, both_rows, brings, flag, is_of, put_one}
use Rattle.reception.proofs.Parts.{part_put}

pub length_row : (t : ℕ) (words : List ℕ) → length (joined_row t words) ≡ 3840
unfolding joined_row
length_row t words = length_joined (stream_in words t) (stream_in words (t + 1)) 1920

-- two streams of a span, joined into a part of the picture
module _ (words : List ℕ) (long : length words ≡ 7680) (t : ℕ) (few : t ≤ 2) (picture : List ℕ) (at : ℕ) (room : at + 3840 ≤ length picture) where
  abbrev part : ℕ → ℕ → List ℕ → List ℕ
  part from to l = take (to - from) (drop from l)

  part_is : (from to : ℕ) → to ≡ from + 1920 → to ≤ length words → (length (part from to words) ≡ 1920) × (part from to words ≡ take 1920 (drop from words))
  part_is from to e h =
      let size : to - from ≡ 1920 = omega arith in
      let enough : to - from ≤ length (drop from words) = omega (arith, length-drop from words) in
      (length-take-le (to - from) (drop from words) enough ∙ size, ap (λ (k : ℕ). take k (drop from words)) size)

  pub row_put_lem : {out : List ℕ}
      → out ≡ join_row (part (1920 * t) (1920 * t + 1920) words) (part (1920 * t + 1920) (1920 * t + 1920 + 1920) words) (part at (at + 3840) picture)
      → put_mid at (at + 3840 - at) picture out ≡ sets picture at (joined_row t words)
  unfolding joined_row
  row_put_lem {out} e =
      let (size-a, is-a) = part_is (1920 * t) (1920 * t + 1920) refl (omega arith) in
      let (size-b, is_b) = part_is (1920 * t + 1920) (1920 * t + 1920 + 1920) refl (omega arith) in
      let a = part (1920 * t) (1920 * t + 1920) words in
      let b = part (1920 * t + 1920) (1920 * t + 1920 + 1920) words in
      let row = part at (at + 3840) picture in
      let size : length row ≡ 3840 = length-take-le (at + 3840 - at) (drop at picture) (omega (arith, length-drop at picture)) ∙ omega arith in
      let next : 1920 * t + 1920 ≡ 1920 * (t + 1) = omega arith in
      let is : out ≡ joined_row t words =
      e
      ∙ sym (when_given row (joined 1920 a b) (joins row a b size-a size-b size))
      ∙ ap₂ (joined 1920) is-a (is_b ∙ ap (λ (k : ℕ). take 1920 (drop k words)) next) in
      ap (put_mid at (at + 3840 - at) picture) is
      ∙ part_put picture (joined_row t words) at (at + 3840) (omega (arith, length_row t words)) room

-- both rows, one after the other
rows_put : (words picture : List ℕ) (at : ℕ) {out : List ℕ} (between : List ℕ) → between ≡ sets picture at (joined_row 0 words)
    → out ≡ sets between (at + 3840) (joined_row 2 words) → out ≡ sets picture at (both_rows words)
rows_put words picture at between e f =
    f
    ∙ ap (λ (l : List ℕ). sets l (at + 3840) (joined_row 2 words)) e
    ∙ sets_append picture (joined_row 0 words) (joined_row 2 words) at (at + 3840) (omega (arith, length_row 0 words))

-- whether the span is of one of the five lines: n is the number of its line, and m that of the first
module _ (first m n : ℕ) (x : Reading) (from : m ≡ first) (is : n ≡ line_heard x) where
  module _ (t : within m (m + 4) n ≡ true) where
    here : is_of first (line_heard x) ≡ true
    here = is_within _ _ _ (omega (arith, from_low m (m + 4) n t)) (omega (arith, to_high m (m + 4) n t))

    pub heard_put : (heard : List ℕ) → set heard (n - m) 1 ≡ put_one 1 flag first heard x
    heard_put heard =
        let q : n - m ≡ 1 * (line_heard x - first) = omega arith in
        ap (λ (k : ℕ). set heard k 1) q ∙ simp here

    -- the streams of the odd line are those from 0 on, and of the even one those from 2 on
    pub brought : is_active (line_heard x) ≡ true → (picture : List ℕ) {out : List ℕ} (between : List ℕ) (odd even : ℕ)
        → between ≡ sets picture (7680 * (n - m)) (joined_row odd x.words)
        → out ≡ sets between (7680 * (n - m) + 3840) (joined_row even x.words)
        → odd ≡ 0
        → even ≡ 2
        → out ≡ put_one 7680 brings first picture x
    brought a picture between odd even e f p q =
        let place : n - m ≡ line_heard x - first = omega arith in
        rows_put x.words picture (7680 * (n - m)) between (rw p at e) (rw q at f)
        ∙ ap (λ (k : ℕ). sets picture (7680 * k) (both_rows x.words)) place
        ∙ simp (here, a)
