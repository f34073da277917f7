-- Words of a span that is sent, apart from its XYZ: with at most one wrong bit in each of these they meet tests 21 to 26, name the line and
-- bring the picture.
-- Assumes nothing.
use mathlib.Core.Path.{◌≡◌, refl, sym, ap, ap₂, ◌∙◌}
use mathlib.Core.Bool.{true, false}
use mathlib.Core.List.{List}
use mathlib.Core.Logic.{inl, inr}
use mathlib.Core.Option.{some}
use Prim.Native.Nat.{ℕ, ◌+◌, ◌-◌, ◌*◌, ◌/◌, ◌≤◌, ◌<◌}
use native.Mathlib.Nat.{mul-le-mul_left}
use native.Mathlib.Omega.{arith}
use lib.Dec.{eqb, ltb}
use lib.ListN.{get_or}
use borrow.Author.Tests.{le-ltb, ltb-false, eq-eqb, ne_eqb}
use Rattle.ground.specs.Range.{within}
use Rattle.ground.specs.Written.{upto}
use Rattle.ground.proofs.Cases.{on_test}
use Rattle.ground.proofs.Ranges.{from_low, to_high, not_within}
use Rattle.ground.proofs.Writing.{upto_same}
use Rattle.line.specs.Stream.{v_of, line_after}
use Rattle.line.proofs.Lines.{after_is_line, before_after}
use Rattle.crcc.specs.Crcc.{crcc_words}
use Rattle.word.specs.LineNumber.{ln0, ln1, line_of}
use Rattle.word.specs.Repair.{distance, differs_at}
use Rattle.word.specs.Timing.{timing}
use Rattle.word.proofs.LineNumbers.{line_again}
use Rattle.span.specs.declared.format.Format.{Format}
use Rattle.span.specs.Format.{shape_of, streams, pairs_in}
use Rattle.span.specs.Sample.{sample_word}
use Rattle.span.specs.Span.{span_words, fill_word}
use Rattle.span.specs.Stream.{Request, picture, register}
use Rattle.span.specs.Layout.{picture_start, eav_start, line_start, crcc_start, ancillary_start, sav_xyz, eav_xyz}
use Rattle.span.proofs.Lengths.{known_has_streams}
use Rattle.span.proofs.Places.{word_at as sentAt, fill_word_lem, sav_words, picture_word_lem, eav_words, line_number_words, crcc_words_lem}
use Rattle.window.specs.Encoded.{word_in, IsXyz, Disturbed, wrong_at, wrong_bit_at}
use Rattle.window.specs.Tests.{over_xyz, column, holds21, named, next_line, line_read, holds22, holds23, register_of, holds24, holds25, holds26, repair_count, repairs_at, rows}
use Rattle.word.specs.Received.{repaired, v_in}
use Rattle.window.specs.Inside.Encoded.{Restored, Passes, Sendable}
use Rattle.window.proofs.Encoded.{restored_words}
use Rattle.window.proofs.Nearest.{same_test, near_h, near_v, near_repaired}
use Rattle.window.proofs.Placing.{word_of_place, at_place, in_span, four, each_place, each_of_two}
use Rattle.window.proofs.Sums.{over_same}
use Rattle.window.proofs.Sent.{may_bring_lem, picture_column, register_is}

-- ---- test 21, word by word

module _ (f : Format) (a : Request) (word : ℕ → ℕ) (t : ℕ) (l : t < streams (shape_of f)) where
  abbrev st : ℕ
  st = streams (shape_of f)

  -- a word that is not an XYZ is as sent, and an XYZ is near the one sent
  abbrev Kept : ℕ → Type 0
  Kept j = (j ≡ sav_xyz → ⊥) → (j ≡ eav_xyz → ⊥) → word (st * j + t) ≡ sentAt f a j t

  abbrev Near : ℕ → Type 0
  Near j = IsXyz j → distance (word (st * j + t)) (sentAt f a j t) ≤ 1

  kept_holds : (j x : ℕ) → (j ≡ sav_xyz → ⊥) → (j ≡ eav_xyz → ⊥) → sentAt f a j t ≡ x → Kept j → eqb (word (st * j + t)) x ≡ true
  kept_holds j x p q e kept = eq-eqb (word (st * j + t)) x (kept p q ∙ e)

  pub timing_holds : (j : ℕ) → Kept j → Near j → holds21 st word j t ≡ true
  unfolding holds21 within
  timing_holds =
      let sav = sav_words f a t l in
      let eav = eav_words f a t l in
      each_place eav_start
      (four (λ j. Kept j → Near j → holds21 st word j t ≡ true)
      (λ kept near. kept_holds 0 0xFFF (λ e. omega arith) (λ e. omega arith) sav.0 kept)
      (λ kept near. kept_holds 1 0x000 (λ e. omega arith) (λ e. omega arith) sav.1 kept)
      (λ kept near. kept_holds 2 0x000 (λ e. omega arith) (λ e. omega arith) sav.2 kept)
      (λ kept near. near_h (word (st * sav_xyz + t)) (v_of a.line) false (rw sav.3 at (near (inl refl)))))
      (four (λ i. Kept (eav_start + i) → Near (eav_start + i) → holds21 st word (eav_start + i) t ≡ true)
      (λ kept near. kept_holds eav_start 0xFFF (λ e. omega arith) (λ e. omega arith) eav.0 kept)
      (λ kept near. kept_holds (eav_start + 1) 0x000 (λ e. omega arith) (λ e. omega arith) eav.1 kept)
      (λ kept near. kept_holds (eav_start + 2) 0x000 (λ e. omega arith) (λ e. omega arith) eav.2 kept)
      (λ kept near. near_h (word (st * eav_xyz + t)) (v_of (line_after a.line)) true (rw eav.3 at (near (inr refl)))))
      (λ j past q kept near. simp (le-ltb j picture_start past, not_within eav_start eav_xyz j (λ x y. omega (arith, q x))))

-- ---- all words

module _ (f : Format) (a : Request) (good : Sendable f a) (words : List ℕ) (disturbed : Disturbed f a words) where
  abbrev s : ℕ
  s = streams (shape_of f)

  abbrev n : ℕ
  n = 2 * pairs_in (shape_of f)

  abbrev word : ℕ → ℕ
  word = word_in words

  has_streams : 1 ≤ s
  has_streams = omega (arith, known_has_streams f good.known)

  module _ (j t : ℕ) (l : t < s) where
    -- word j of stream t is as sent, if it is not an XYZ
    as_sent : s * j + t < n → (j ≡ sav_xyz → ⊥) → (j ≡ eav_xyz → ⊥) → word (s * j + t) ≡ sentAt f a j t
    as_sent h x y =
        let e = word_of_place s has_streams j t l in
        disturbed.same (s * j + t) h (λ q. x (sym e ∙ q)) (λ q. y (sym e ∙ q))

    -- so are those before the ancillary area
    early : j < ancillary_start → (j ≡ sav_xyz → ⊥) → (j ≡ eav_xyz → ⊥) → word (s * j + t) ≡ sentAt f a j t
    early h = as_sent (in_span (shape_of f) j t (omega arith) l)

    -- it is an XYZ at its place
    is_xyz : IsXyz j → IsXyz ((s * j + t) / s)
    is_xyz x = rw (word_of_place s has_streams j t l) x

  -- the first three words of SAV and EAV
  module _ (t : ℕ) (l : t < s) where
    is_sav : (word (s * 0 + t) ≡ 0xFFF) × (word (s * 1 + t) ≡ 0x000) × (word (s * 2 + t) ≡ 0x000)
    is_sav =
        let sent = sav_words f a t l in (
          early 0 t l (omega arith) (λ e. omega arith) (λ e. omega arith) ∙ sent.0,
          early 1 t l (omega arith) (λ e. omega arith) (λ e. omega arith) ∙ sent.1,
          early 2 t l (omega arith) (λ e. omega arith) (λ e. omega arith) ∙ sent.2,
        )

    is_eav : (word (s * eav_start + t) ≡ 0xFFF) × (word (s * (eav_start + 1) + t) ≡ 0x000) × (word (s * (eav_start + 2) + t) ≡ 0x000)
    is_eav =
        let sent = eav_words f a t l in (
          early eav_start t l (omega arith) (λ e. omega arith) (λ e. omega arith) ∙ sent.0,
          early (eav_start + 1) t l (omega arith) (λ e. omega arith) (λ e. omega arith) ∙ sent.1,
          early (eav_start + 2) t l (omega arith) (λ e. omega arith) (λ e. omega arith) ∙ sent.2,
        )

  -- so the replaced bytes are known
  pub disturbed_restored : Restored (shape_of f) words
  disturbed_restored =
      restored_words f good.known words disturbed.long
      (λ t l. let code = is_sav t l in (code.0, code.1))
      (λ t l. let code = is_eav t l in (code.0, code.1))

  -- ---- at most one wrong bit in each XYZ
  module _ (near : (k : ℕ) → k < 2 * pairs_in (shape_of f) → IsXyz (k / streams (shape_of f)) → wrong_at f a words k ≤ 1) where
    -- the line after, which is the one named
    abbrev next : ℕ
    next = line_after a.line

    -- by word and stream
    near_at : (j t : ℕ) → t < s → j < ancillary_start → IsXyz j → distance (word (s * j + t)) (sentAt f a j t) ≤ 1
    near_at j t l h x = near (s * j + t) (in_span (shape_of f) j t (omega arith) l) (is_xyz j t l x)

    module _ (t : ℕ) (l : t < s) where
      sav_near : distance (word (s * sav_xyz + t)) (timing (v_of a.line) false) ≤ 1
      sav_near = rw (sav_words f a t l).3 at (near_at 3 t l (omega arith) (inl refl))

      eav_near : distance (word (s * eav_xyz + t)) (timing (v_of next) true) ≤ 1
      eav_near = rw (eav_words f a t l).3 at (near_at eav_xyz t l (omega arith) (inr refl))

      -- the line's number
      is_ln0 : word (s * line_start + t) ≡ ln0 next
      is_ln0 = early line_start t l (omega arith) (λ e. omega arith) (λ e. omega arith) ∙ (line_number_words f a t l).0

      is_ln1 : word (s * (line_start + 1) + t) ≡ ln1 next
      is_ln1 = early (line_start + 1) t l (omega arith) (λ e. omega arith) (λ e. omega arith) ∙ (line_number_words f a t l).1

      -- the picture
      is_picture : (i : ℕ) → i < 1920 → word (s * (picture_start + i) + t) ≡ sample_word f a.line t (get_or a.samples (1920 * t + i) 0)
      is_picture i h = early (picture_start + i) t l (omega arith) (λ e. omega arith) (λ e. omega arith) ∙ picture_word_lem f a t l i h

      -- so the register is that of what was sent
      same_register : register_of s word t ≡ register f a t
      same_register =
          register_is f a word t is_picture (is_eav t l) (near_repaired (word (s * eav_xyz + t)) (v_of next) true eav_near) (is_ln0, is_ln1)

    -- the line named
    named_is : named s word ≡ some next
    named_is =
        let line = after_is_line a.line in
        ap₂ line_of (is_ln0 0 has_streams) (is_ln1 0 has_streams)
        ∙ line_again next (from_low 1 1125 next line) (to_high 1 1125 next line)

    -- as the next line
    next_is : next_line s word ≡ next
    unfolding next_line
    next_is = rw named_is

    -- the line before it is the one sent
    pub near_line : line_read s word ≡ a.line
    unfolding line_read
    near_line =
        rw next_is
        (before_after a.line (from_low 1 1125 a.line good.line) (to_high 1 1125 a.line good.line))

    -- the picture words are those sent
    pub near_rows : rows s word ≡ upto s (picture f a)
    unfolding rows
    near_rows = upto_same s (column s word picture_start 1920) (picture f a) (λ t l. picture_column f a word t (is_picture t l))

    -- each XYZ is repaired to the one sent, so each wrong bit is counted: by any measure g of two words
    repairs_by : (g : ℕ → ℕ → ℕ) → over_xyz s (λ k. g (word k) (repaired (word k))) ≡ over_xyz s (λ k. g (word k) (word_in (span_words f a) k))
    repairs_by g =
        over_same s (λ k. g (word k) (repaired (word k))) (λ k. g (word k) (word_in (span_words f a) k))
        (λ t l. (
          ap (g (word (s * sav_xyz + t)))
              (near_repaired (word (s * sav_xyz + t)) (v_of a.line) false (sav_near t l) ∙ sym (sav_words f a t l).3),
          ap (g (word (s * eav_xyz + t))) (near_repaired (word (s * eav_xyz + t)) (v_of next) true (eav_near t l) ∙ sym (eav_words f a t l).3),
        ))

    pub near_repairs : repair_count s word ≡ over_xyz s (wrong_at f a words)
    unfolding repair_count
    near_repairs = repairs_by distance

    pub near_repairs_at : (b : ℕ) → repairs_at s word b ≡ over_xyz s (wrong_bit_at f a words b)
    unfolding repairs_at
    near_repairs_at b = repairs_by (differs_at b)

    -- ---- tests 22 to 26
    module _ (t : ℕ) (l : t < s) where
      -- 22: every stream has the words of stream 1
      same_ln0 : holds22 s word line_start t ≡ true
      unfolding holds22 within
      same_ln0 =
          on_test (eqb t 0) (λ u. simp (u, named_is))
          (λ u. simp (u, is_ln0 t l, is_ln0 0 has_streams, eq-eqb (ln0 next) (ln0 next) refl))

      same_ln1 : holds22 s word (line_start + 1) t ≡ true
      unfolding holds22 within
      same_ln1 = eq-eqb (word (s * (line_start + 1) + t)) (word (s * (line_start + 1) + 0)) (is_ln1 t l ∙ sym (is_ln1 0 has_streams))

      line_number_holds : (j : ℕ) → holds22 s word j t ≡ true
      unfolding holds22
      line_number_holds =
          each_of_two line_start (line_start + 1) same_ln0 same_ln1
          (λ j x y. simp (not_within line_start (line_start + 1) j (λ p q. x (omega arith))))

      -- 23: V is that of the line, and that of the line named
      v_of_sav : holds23 s word sav_xyz t ≡ true
      unfolding holds23
      v_of_sav =
          same_test (v_in (word (s * sav_xyz + t))) (v_of (line_read s word))
          (near_v (word (s * sav_xyz + t)) (v_of a.line) false (sav_near t l) ∙ ap v_of (sym near_line))

      v_of_eav : holds23 s word eav_xyz t ≡ true
      unfolding holds23
      v_of_eav =
          same_test (v_in (word (s * eav_xyz + t))) (v_of (next_line s word))
          (near_v (word (s * eav_xyz + t)) (v_of next) true (eav_near t l) ∙ ap v_of (sym next_is))

      v_holds : (j : ℕ) → holds23 s word j t ≡ true
      unfolding holds23
      v_holds = each_of_two sav_xyz eav_xyz v_of_sav v_of_eav (λ j x y. simp (ne_eqb j sav_xyz x, ne_eqb j eav_xyz y))

      -- 24: the CRCC
      crcc0_holds : holds24 s word crcc_start t ≡ true
      unfolding holds24
      crcc0_holds =
          eq-eqb (word (s * crcc_start + t)) (crcc_words (register_of s word t)).crcc0
          (early crcc_start t l (omega arith) (λ e. omega arith) (λ e. omega arith)
          ∙ (crcc_words_lem f a t l).0 ∙ ap (λ (r : ℕ). (crcc_words r).crcc0) (sym (same_register t l)))

      crcc1_holds : holds24 s word (crcc_start + 1) t ≡ true
      unfolding holds24
      crcc1_holds =
          eq-eqb (word (s * (crcc_start + 1) + t)) (crcc_words (register_of s word t)).crcc1
          (early (crcc_start + 1) t l (omega arith) (λ e. omega arith) (λ e. omega arith)
          ∙ (crcc_words_lem f a t l).1 ∙ ap (λ (r : ℕ). (crcc_words r).crcc1) (sym (same_register t l)))

      crcc_holds : (j : ℕ) → holds24 s word j t ≡ true
      unfolding holds24
      crcc_holds = each_of_two crcc_start (crcc_start + 1) crcc0_holds crcc1_holds (λ j x y. simp (ne_eqb j crcc_start x, ne_eqb j (crcc_start + 1) y))

      -- 25: the picture
      picture_holds : (j : ℕ) → holds25 s word f j t ≡ true
      unfolding holds25
      picture_holds j =
          on_test (within picture_start (eav_start - 1) j)
          (λ u.
          let i = j - 4 in
          let e : j ≡ 4 + i = omega (arith, from_low _ _ _ u) in
          let h : i < 1920 = omega (arith, to_high _ _ _ u) in
          let brought : word (s * j + t) ≡ sample_word f a.line t (get_or a.samples (1920 * t + i) 0) =
          ap (λ (k : ℕ). word (s * k + t)) e ∙ is_picture t l i h in
          simp u (rw (near_line, brought) (may_bring_lem f a good t i l h)))
          (λ u. simp u)

      -- 26: the fill
      fill_holds : (j : ℕ) → s * j + t < n → holds26 s word f j t ≡ true
      unfolding holds26
      fill_holds j h =
          on_test (ltb j (ancillary_start + (shape_of f).ancillary)) (λ u. simp u)
          (λ u.
          let past : ancillary_start + (shape_of f).ancillary ≤ j = ltb-false j (ancillary_start + (shape_of f).ancillary) u in
          let from : s * (ancillary_start + (shape_of f).ancillary) ≤ s * j = mul-le-mul_left s past in
          let i = s * j + t - s * (ancillary_start + (shape_of f).ancillary) in
          let e : s * j + t ≡ s * (ancillary_start + (shape_of f).ancillary) + i = omega arith in
          let filled : word (s * j + t) ≡ fill_word =
          as_sent j t l h (λ x. omega arith) (λ x. omega arith)
          ∙ ap (λ (k : ℕ). get_or (span_words f a) k 0) e ∙ fill_word_lem f a i (omega arith) in
          simp (u, eq-eqb (word (s * j + t)) fill_word filled))

    -- all tests of the words hold
    pub near_passes : Passes f word
    near_passes =
        record {
          timing =
              at_place s has_streams n (holds21 s word)
              (λ j t l h. timing_holds f a word t l j (as_sent j t l h) (λ x. near (s * j + t) h (is_xyz j t l x)));
          line_number = at_place s has_streams n (holds22 s word) (λ j t l h. line_number_holds t l j);
          v = at_place s has_streams n (holds23 s word) (λ j t l h. v_holds t l j);
          crcc = at_place s has_streams n (holds24 s word) (λ j t l h. crcc_holds t l j);
          picture = at_place s has_streams n (holds25 s word f) (λ j t l h. picture_holds t l j);
          fill = at_place s has_streams n (holds26 s word f) (λ j t l h. fill_holds t l j h);
        }
