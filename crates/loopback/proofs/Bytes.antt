-- Words as bytes, put one after the other, and those of a piece line by line.
-- Assumes nothing.
use mathlib.Core.Path.{◌≡◌, refl, sym, ap, ap₂, ◌∙◌}
use mathlib.Core.Bool.{Bool, true, false, cond}
use mathlib.Core.List.{List, [], ◌∷◌, ◌++◌, append-nil}
use Prim.Native.Nat.{ℕ, suc, ◌+◌, ◌-◌, ◌*◌, ◌/◌, ◌%◌, ◌≤◌, ◌<◌}
use native.Mathlib.Nat.{zero-add}
use native.Mathlib.Numerals.{add-one}
use native.Mathlib.Omega.{arith}
use lib.ListN.{length, get_or, set, take, drop, drop_of_length-le}
use lib.Seq.{sets, length-take-le}
use Rattle.io.specs.Counts.{IsPrefixLen}
use Rattle.ground.specs.Written.{upto}
use Rattle.ground.proofs.Putting.{Put, then, put_length, put_as}
use Rattle.ground.proofs.Reading.{next_left_lem}
use Rattle.ground.proofs.Writing.{upto_more}
use Rattle.line.specs.Stream.{is_active}
use Rattle.rig.specs.Frame.{line_of_piece}
use Rattle.loopback.specs.File.{high_first, rows_of_line, piece_bytes}

pub length_bytes : (l : List ℕ) → length (high_first l) ≡ 2 * length l
unfolding high_first
length_bytes [] = refl
length_bytes (w ∷ l) = omega (arith, length_bytes l)

-- ---- a loop over words: what is left, put after what is there, is the whole
module _ (words out : List ℕ) (at i : ℕ) where
  abbrev left : List ℕ
  left = sets out (at + 2 * i) (high_first (drop i words))

  pub word_put : i < length words → (high low : ℕ) → high ≡ get_or words i 0 / 256 → low ≡ get_or words i 0 % 256
      → sets (set (set out (at + 2 * i) high) (at + 2 * i + 1) low) (at + 2 * (i + 1)) (high_first (drop (i + 1) words)) ≡ left
  unfolding high_first
  word_put h high low e f =
      let p = at + 2 * i in
      let q : at + 2 * (i + 1) ≡ suc (suc p) = omega arith in
      let next : p + 1 ≡ suc p = add-one p in
      ap (λ (k : ℕ). sets (set (set out p high) (p + 1) low) k (high_first (drop (i + 1) words))) q
      ∙ ap (λ (k : ℕ). sets (set (set out p high) k low) (suc (suc p)) (high_first (drop (i + 1) words))) next
      ∙ ap₂ (λ (x y : ℕ). sets out p (x ∷ y ∷ high_first (drop (i + 1) words))) e f
      ∙ ap (λ (l : List ℕ). sets out p (high_first l)) (sym (next_left_lem words i 0 h))

  pub words_put : length words ≤ i → out ≡ left
  unfolding high_first
  words_put h = ap (λ (l : List ℕ). sets out (at + 2 * i) (high_first l)) (sym (drop_of_length-le words h))

-- ---- the lines of a piece
module _ (piece : ℕ) (picture : List ℕ) where
  -- the bytes of line i
  abbrev pub line_bytes : ℕ → List ℕ
  line_bytes i = cond (is_active (line_of_piece piece i)) (high_first (rows_of_line picture i)) []

  pub no_line : (out : List ℕ) → Put out out 0 0 (upto 0 line_bytes)
  unfolding upto
  no_line out = record { written = refl; ends = refl }

  module _ (i : ℕ) where
    with_line : (b : Bool) → is_active (line_of_piece piece i) ≡ b → upto i line_bytes ++ cond b (high_first (rows_of_line picture i)) [] ≡ upto (i + 1) line_bytes
    with_line b t =
        ap (λ (c : Bool). upto i line_bytes ++ cond c (high_first (rows_of_line picture i)) []) (sym t)
        ∙ sym (upto_more i line_bytes)

    -- its rows, as the code takes them out and puts their bytes
    rows_put : {before after : List ℕ} {at end : ℕ} → let rows = take (7680 * i + 7680 - 7680 * i) (drop (7680 * i) picture) in
        end ≡ at + 2 * length rows → after ≡ sets before at (high_first rows) → Put before after at end (high_first (rows_of_line picture i))
    rows_put {before} {after} {at} {end} ends written =
        let q : 7680 * i + 7680 - 7680 * i ≡ 7680 = omega arith in
        let is = ap (λ (n : ℕ). take n (drop (7680 * i) picture)) q in
        record {
          written = written ∙ ap (λ (l : List ℕ). sets before at (high_first l)) is;
          ends = omega (arith, ends, ap length is, length_bytes (rows_of_line picture i));
        }

    pub active_put : {before between after : List ℕ} {at end : ℕ} → is_active (line_of_piece piece i) ≡ true → Put before between 0 at (upto i line_bytes)
        → let rows = take (7680 * i + 7680 - 7680 * i) (drop (7680 * i) picture) in
        end ≡ at + 2 * length rows → after ≡ sets between at (high_first rows) → Put before after 0 end (upto (i + 1) line_bytes)
    active_put t done ends written = put_as (with_line true t) (then done (rows_put ends written))

    pub blank_put : {before between after : List ℕ} {at end : ℕ} → is_active (line_of_piece piece i) ≡ false → Put before between 0 at (upto i line_bytes)
        → end ≡ at → after ≡ between → Put before after 0 end (upto (i + 1) line_bytes)
    blank_put t done ends same =
        put_as (sym (append-nil (upto i line_bytes)) ∙ with_line false t) (record { written = same ∙ done.written; ends = ends ∙ done.ends })

-- ---- what a contract says of bytes that are put from the start on, with the end that counts them
pub counted : (text before : List ℕ) {after : List ℕ} {end : ℕ} → end ≤ length before → Put before after 0 end text
    → IsPrefixLen end after × ((end ≡ length text) × (after ≡ sets before 0 text))
counted text before {after} {end} room put =
    let most : end ≤ length after = omega (arith, put_length put) in
    ((most, sym (length-take-le end after most)), (put.ends ∙ zero-add (length text), put.written))

pub piece_put : (piece : ℕ) (picture before : List ℕ) {after : List ℕ} {end : ℕ} → end ≤ length before → Put before after 0 end (upto 5 (line_bytes piece picture))
    → IsPrefixLen end after × ((end ≡ length (piece_bytes piece picture)) × (after ≡ sets before 0 (piece_bytes piece picture)))
unfolding piece_bytes
piece_put piece picture before room put = counted (piece_bytes piece picture) before room put
