-- The picture words put pair by pair.
-- Assumes nothing.
use Rattle.std.proofs.Common.{◌≡◌, ℕ, zero, suc, ◌+◌, ◌*◌, ◌<◌, ◌≤◌, List, [], ◌∷◌, ◌++◌, length, get_or, sym, refl, ap, ◌∙◌, ap₂, mul-zero, mul-suc, arith, eq-eqb, ne_eqb}
use Rattle.ground.specs.Written.{upto}
use Rattle.ground.proofs.Writing.{upto_more, upto_split, upto_same, length_upto}
use Rattle.encoder.specs.Inside.Tables.{offset_of, of_offset}
use Rattle.span.specs.Encoding.{symbols_from, after_run}
use Rattle.crcc.specs.Crcc.{crc}
use Rattle.crcc.specs.Inside.Sums.{sum_in}
use Rattle.row_crc.specs.Inside.Sums.{stream_row}
use Rattle.row_crc.specs.Inside.Sums.{sums_in}
use Rattle.send.specs.Inside.Put.{offset_after, put, pair_chars, group_chars, picture_word, pair_chars_at, pair_place, picture_chars}
use Rattle.send.proofs.Putting.{PutChars, made, renamed, then, length_group}

pub length_picture : (pairs : ℕ) (w : ℕ → ℕ → ℕ) (n : ℕ) → length (picture_chars pairs n w) ≡ 3 * pairs * n
unfolding picture_chars
length_picture pairs w n =
    length_upto (3 * pairs) (λ j. group_chars pairs (λ t. w t j)) (λ j. length_group pairs (λ t. w t j)) n

-- pair u of word n
place_is : (pairs : ℕ) → 1 ≤ pairs → pairs ≤ 2 → (n u : ℕ) → u < pairs → pair_place pairs (pairs * n + u) ≡ 3840 * u + n
place_is zero some few n u h = absurd (omega arith)
place_is (suc zero) some few n u h = omega arith
place_is (suc (suc zero)) some few n u h = omega arith
place_is (suc (suc (suc pairs))) some few n u h = absurd (omega arith)

-- the words of all streams are these pairs
picture_pairs : (pairs : ℕ) → 1 ≤ pairs → pairs ≤ 2 → (ws : List ℕ) (n : ℕ)
    → picture_chars pairs n (picture_word ws) ≡ upto (pairs * n) (λ m. pair_chars_at ws (pair_place pairs m))
unfolding picture_chars group_chars upto
picture_pairs pairs some few ws zero = rw mul-zero
picture_pairs pairs some few ws (suc n) =
    let pair : ℕ → List ℕ = λ m. pair_chars_at ws (pair_place pairs m) in
    let word : ℕ → List ℕ = λ u. pair_chars (picture_word ws (2 * u) n) (picture_word ws (2 * u + 1) n) in
    let group : upto pairs word ≡ upto pairs (λ u. pair (pairs * n + u)) =
    upto_same pairs word (λ u. pair (pairs * n + u))
    (λ u h.
    let this = place_is pairs some few n u h in
    ap₂ (λ (x y : ℕ). pair_chars (get_or ws x 0) (get_or ws y 0)) (omega (arith, this)) (omega (arith, this))) in
    ap₂ (λ (x y : List ℕ). x ++ y) (picture_pairs pairs some few ws n) group
    ∙ upto_split (pairs * n) pairs pair
    ∙ ap (λ (m : ℕ). upto m pair) (sym (mul-suc pairs n))

-- the first m pairs are put
pub record Done (d : ℕ) (ws : List ℕ) (at : ℕ) (before : List ℕ) (pairs m o : ℕ) (out : List ℕ) : Type 0 where
  pub done : PutChars d (upto m (λ k. pair_chars_at ws (pair_place pairs k))) at before o out

pub none_done : {d : ℕ} (ws : List ℕ) (at : ℕ) (before : List ℕ) (pairs : ℕ) → d ≡ offset_of (of_offset d) → Done d ws at before pairs 0 d before
unfolding offset_after put upto symbols_from after_run
none_done ws at before pairs o = record { done = record { offset = o; out = refl } }

-- what a call for the pair at place i puts into the buffer from a symbol on
abbrev Puts : List ℕ → ℕ → ℕ → List ℕ → ℕ → ℕ → List ℕ → Type 0
Puts ws o place out i q end = (q ≡ offset_after o (pair_chars_at ws i)) × (end ≡ put o (pair_chars_at ws i) place out)

module _ {d at pairs : ℕ} {ws before : List ℕ} where
  pair_more : {m o q : ℕ} {out end : List ℕ} → Done d ws at before pairs m o out → (i place n : ℕ) → i ≡ pair_place pairs m → place ≡ at + 3 * m
      → n ≡ m + 1
      → Puts ws o place out i q end
      → Done d ws at before pairs n q end
  pair_more {m} k i place n this here count e =
      let pair : ℕ → List ℕ = λ k. pair_chars_at ws (pair_place pairs k) in
      let chars : upto n pair ≡ upto m pair ++ pair_chars_at ws i =
      ap (λ (n : ℕ). upto n pair) count ∙ upto_more m pair ∙ ap (λ (x : ℕ). upto m pair ++ pair_chars_at ws x) (sym this) in
      record { done = renamed chars (then k.done (omega (arith, length_upto 3 pair (λ m. refl) m)) (made e)) }

  -- a turn of a loop: the next four pairs, twelve symbols
  pub four_more : {m o x y z q : ℕ} {out out1 out2 out3 end : List ℕ} → Done d ws at before pairs m o out → (i0 i1 i2 i3 place next : ℕ)
      → i0 ≡ pair_place pairs m
      → i1 ≡ pair_place pairs (m + 1)
      → i2 ≡ pair_place pairs (m + 2)
      → i3 ≡ pair_place pairs (m + 3)
      → place ≡ at + 3 * m
      → next ≡ m + 4
      → Puts ws o place out i0 x out1
      → Puts ws x (place + 3) out1 i1 y out2
      → Puts ws y (place + 6) out2 i2 z out3
      → Puts ws z (place + 9) out3 i3 q end
      → Done d ws at before pairs next q end
  four_more {m} k i0 i1 i2 i3 place next p0 p1 p2 p3 here count e0 e1 e2 e3 =
      let k1 = pair_more k i0 place (m + 1) p0 here (omega arith) e0 in
      let k2 = pair_more k1 i1 (place + 3) (m + 2) p1 (omega arith) (omega arith) e1 in
      let k3 = pair_more k2 i2 (place + 6) (m + 3) p2 (omega arith) (omega arith) e2 in
      pair_more k3 i3 (place + 9) next p3 (omega arith) (omega arith) e3

  -- all of them are put
  pub all_done : {m o : ℕ} {out : List ℕ} → 1 ≤ pairs → pairs ≤ 2 → m ≡ pairs * 1920 → Done d ws at before pairs m o out
      → PutChars d (picture_chars pairs 1920 (picture_word ws)) at before o out
  all_done {m} some few past k =
      renamed (picture_pairs pairs some few ws 1920 ∙ ap (λ (m : ℕ). upto m (λ k. pair_chars_at ws (pair_place pairs k))) (sym past)) k.done

-- the CRC of each stream: of two, or of four
pub sum_is : (pairs : ℕ) (ws : List ℕ) → 1 ≤ pairs → pairs ≤ 2 → length ws ≡ 3840 * pairs → (t : ℕ) → t < 2 * pairs
    → crc 0 (stream_row ws t) ≡ sum_in (sums_in ws) t
sum_is zero ws h l long t b = absurd (omega arith)
sum_is (suc zero) ws h l long t b = rw (eq-eqb (length ws) 3840 (omega arith)) (each t b)
  where
    each : (t : ℕ) → t < 2 → crc 0 (stream_row ws t) ≡ get_or (crc 0 (stream_row ws 0) ∷ crc 0 (stream_row ws 1) ∷ 0 ∷ []) t 0
    each zero b = refl
    each (suc zero) b = refl
    each (suc (suc t)) b = absurd (omega arith)
sum_is (suc (suc zero)) ws h l long t b =
    rw (ne_eqb (length ws) 3840 (λ z. absurd (omega arith))) (each t b)
  where
    each : (t : ℕ) → t < 4
        → crc 0 (stream_row ws t)
        ≡ get_or (crc 0 (stream_row ws 0) ∷ crc 0 (stream_row ws 1) ∷ crc 0 (stream_row ws 2) ∷ []) t (crc 0 (stream_row ws 3))
    each zero b = refl
    each (suc zero) b = refl
    each (suc (suc zero)) b = refl
    each (suc (suc (suc zero))) b = refl
    each (suc (suc (suc (suc t)))) b = absurd (omega arith)
sum_is (suc (suc (suc pairs))) ws h l long t b = absurd (omega arith)
