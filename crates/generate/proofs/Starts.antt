-- The start that was put, and what it leaves; and the refusal.
-- Assumes nothing.
use mathlib.Core.Path.{◌≡◌, refl, sym, ap, subst, ◌∙◌}
use mathlib.Core.List.{List, [], ◌∷◌}
use Prim.Native.Nat.{ℕ, ◌≤◌}
use native.Mathlib.Nat.{zero-add}
use native.Mathlib.Omega.{arith}
use lib.ListN.{length, take}
use lib.Seq.{sets, length-sets, length-take-le}
use Rattle.io.specs.Counts.{IsPrefixLen}
use Rattle.ground.specs.Answer.{refused, given}
use Rattle.ground.proofs.Putting.{Put, put_length}
use Rattle.text.specs.Number.{places_of}
use Rattle.text.specs.Put.{end_of, put_of}
use Rattle.text.proofs.Putting.{put_told}
use Rattle.generate.specs.declared.left.Left.{Left}
use Rattle.generate.specs.declared.parameters.Parameters.{Parameters}
use Rattle.generate.specs.declared.start.Start.{Start}
use Rattle.generate.specs.Generated.{refused_with, refusal_by, refusal}
use Rattle.generate.specs.Parameters.{wanted_of}
use Rattle.generate.specs.Pieces.{start_text, file_start, all_of, left_by, left_of, Ready}
use Rattle.generate.proofs.Ready.{whole_told, left_ready}

-- what is promised of the start and of the buffer
abbrev pub Started : List ℕ → List ℕ → List ℕ → Start → Type 0
Started input before after r =
    IsPrefixLen r.end after
    × (Ready r.left
    × ((r.end ≡ length (file_start input)) × ((r.left ≡ left_of input) × (after ≡ sets before 0 (file_start input)))))

module _ (input before : List ℕ) where
  started :
      {text after : List ℕ} {end : ℕ} {left : Left}
      → file_start input ≡ text → length text ≤ length before → end ≡ length text → left ≡ left_of input → after ≡ sets before 0 text
      → Started input before after (record { end = end; left = left })
  started {text} {after} {end} {left} is room ends rest written =
      let same : length after ≡ length before = ap length written ∙ length-sets before 0 text in
      let most : end ≤ length after = omega arith in (
        (most, sym (length-take-le end after most)),
        (
          subst Ready (sym rest) (left_ready input),
          (ends ∙ ap length (sym is), (rest, written ∙ ap (sets before 0) (sym is))),
        ),
      )

  -- the header
  pub header :
      {p : Parameters} {end : ℕ} {left : Left} {after : List ℕ}
      → wanted_of input ≡ given p → 2 ≤ length before
      → end ≡ end_of (length before) 0 (take 2 input) → after ≡ put_of before 0 (take 2 input) → left ≡ all_of p
      → Started input before after (record { end = end; left = left })
  header {p} {end} {left} {after} good room ends written rest =
      let whole = whole_told input good in
      let two : length (take 2 input) ≡ 2 = length-take-le 2 input (omega arith) in
      let put : Put before after 0 end (take 2 input) = put_told (take 2 input) (omega arith) ends written in
      started (ap (start_text input) good) (omega arith) (omega (arith, put.ends)) (rest ∙ sym (ap left_by good)) put.written

-- what is promised of the refusal
abbrev pub Refused : List ℕ → List ℕ → List ℕ → ℕ → Type 0
Refused input before after end = IsPrefixLen end after × ((end ≡ length (refusal input)) × (after ≡ sets before 0 (refusal input)))

module _ (input before : List ℕ) where
  pub refuses :
      {number end : ℕ} {after : List ℕ} (text : List ℕ)
      → wanted_of input ≡ refused number 0 → text ≡ refused_with number → length text ≤ length before
      → end ≡ end_of (length before) 0 text → after ≡ put_of before 0 text
      → Refused input before after end
  refuses {number} {end} {after} text bad is room ends written =
      let told : text ≡ refusal input = is ∙ sym (ap refusal_by bad) in
      let put : Put before after 0 end text = put_told text (omega arith) ends written in
      let same : length after ≡ length before = put_length put in
      let most : end ≤ length after = omega (arith, put.ends) in
      let long = put.ends ∙ zero-add (length text) ∙ ap length told in
      ((most, sym (length-take-le end after most)), (long, put.written ∙ ap (sets before 0) told))

-- the texts, as they are written in the code
pub text_1 : 114 ∷ 101 ∷ 102 ∷ 117 ∷ 115 ∷ 101 ∷ 100 ∷ 32 ∷ 49 ∷ 10 ∷ [] ≡ refused_with 1
unfolding places_of
text_1 = refl

pub text_2 : 114 ∷ 101 ∷ 102 ∷ 117 ∷ 115 ∷ 101 ∷ 100 ∷ 32 ∷ 50 ∷ 10 ∷ [] ≡ refused_with 2
unfolding places_of
text_2 = refl

pub text_3 : 114 ∷ 101 ∷ 102 ∷ 117 ∷ 115 ∷ 101 ∷ 100 ∷ 32 ∷ 51 ∷ 10 ∷ [] ≡ refused_with 3
unfolding places_of
text_3 = refl
