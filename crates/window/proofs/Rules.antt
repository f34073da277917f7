-- Tests 21 to 26 are document 01's rules (specs/Rules): each holds where its rule is met, and nowhere else.
-- Assumes nothing.
use mathlib.Core.Path.{◌≡◌, refl, sym, ap, ap₂, ◌∙◌}
use mathlib.Core.Bool.{Bool, true, false, not, cond, ◌&&◌}
use mathlib.Core.List.{List, [], ◌∷◌, ◌++◌, append_assoc}
use mathlib.Core.Logic.{inl, inr, ⊎_elim}
use mathlib.Core.Option.{Option, get_or}
use Prim.Native.Nat.{ℕ, ◌+◌, ◌-◌, ◌*◌, ◌/◌, ◌%◌, ◌≤◌, ◌<◌}
use native.Mathlib.Omega.{arith}
use lib.Dec.{eqb, ltb}
use borrow.Author.Tests.{eqb-true, eq-eqb, ne_eqb, le-ltb, ltb-true, ltb-false}
use Rattle.ground.specs.Range.{within}
use Rattle.ground.specs.Search.{is_some}
use Rattle.ground.specs.Written.{upto, table}
use Rattle.ground.proofs.Cases.{on_test}
use Rattle.ground.proofs.Ranges.{is_within, not_within, from_low, to_high, outside}
use Rattle.ground.proofs.Tests.{both_left, both_right}
use Rattle.ground.proofs.Writing.{upto_split, table_same}
use Rattle.line.specs.Stream.{is_active, v_of, line_before}
use Rattle.line.proofs.Lines.{active, before_first}
use Rattle.word.specs.LineNumber.{line_of}
use Rattle.word.specs.Received.{has_h, repaired, v_in}
use Rattle.word.specs.Repair.{distance, nearest}
use Rattle.word.specs.Timing.{timing}
use Rattle.word.proofs.LineNumbers.{named_is_line, named_ln0, named_ln1, line_again}
use Rattle.crcc.specs.Crcc.{crc, crcc_words}
use Rattle.span.specs.declared.format.Format.{Format}
use Rattle.span.specs.Format.{is_known, numbered, shape_of, streams}
use Rattle.span.specs.Numbers.{Ancillary}
use Rattle.span.specs.Span.{fill_word}
use Rattle.span.proofs.Formats.{known_told}
use Rattle.span.proofs.Numbers.{is_of_lem, of_is}
use Rattle.span.proofs.Lengths.{known_has_streams}
use Rattle.window.specs.Encoded.{Everywhere, words_of, Meets}
use Rattle.window.specs.Read.{placed}
use Rattle.window.specs.Rules.{Near, Rule21, Names, Follows, Rule22, FitsLine, Rule23, covered, IsEav, Rule24, Rule25, Rule26}
use Rattle.ground.specs.Inside.Test.{Reflects}
use Rattle.window.specs.Tests.{same, word_of, column, holds21, next_line, line_read, holds22, holds23, register_of, holds24, holds25, holds26}
use Rattle.window.specs.Inside.Encoded.{Passes}
use Rattle.window.proofs.Meeting.{line_named}
use Rattle.window.proofs.Nearest.{same_test, same_told, near_h, near_v, near_repaired, near_read}
use Rattle.window.proofs.Placing.{word_of_place, stream_of_place, stream_below, in_span, four, each_place, each_of_two}

-- ---- an XYZ

module _ (w : ℕ) where
  -- it is near a legal word with this H
  h_says : (h : Bool) → Reflects (has_h h (nearest w)) (Near w (timing false h) (timing true h))
  h_says h = record { told = λ t. go (v_in w) (near_read w h t); holds = ⊎_elim (near_h w false h) (near_h w true h) }
    where
      go : (v : Bool) → distance w (timing v h) ≤ 1 → Near w (timing false h) (timing true h)
      go false d = inl d
      go true d = inr d

  -- and has V of line n
  v_says : (n : ℕ) (h : Bool) → has_h h (nearest w) ≡ true
      → Reflects (same (v_in w) (v_of n)) (FitsLine n w (timing false h) (timing true h))
  v_says n h is_h = record { told = told; holds = holds }
    where
      near : (v : Bool) → v_in w ≡ v → distance w (timing v h) ≤ 1
      near v e = let q : timing (v_in w) h ≡ timing v h = ap (λ (x : Bool). timing x h) e in rw q at (near_read w h is_h)

      told : same (v_in w) (v_of n) ≡ true → FitsLine n w (timing false h) (timing true h)
      told t =
          let e = same_told (v_in w) (v_of n) t in
          record {
            active = λ p q. near false (e ∙ active n p q);
            blanking = λ out. near true (e ∙ ap not (not_within 42 1121 n out));
          }

      holds : FitsLine n w (timing false h) (timing true h) → same (v_in w) (v_of n) ≡ true
      holds g =
          same_test (v_in w) (v_of n)
          (on_test (is_active n)
          (λ u. near_v w false h (g.active (from_low 42 1121 n u) (to_high 42 1121 n u)) ∙ sym (ap not u))
          (λ u. near_v w true h (g.blanking (outside 42 1121 n u)) ∙ sym (ap not u)))

  -- of an EAV, it is repaired to the legal word near it
  eav_repaired : (x : ℕ) → IsEav w x → repaired w ≡ x
  unfolding timing
  eav_repaired x is =
      ⊎_elim
      (λ e. near_repaired w false true (rw e at is.near) ∙ sym e)
      (λ e. near_repaired w true true (rw e at is.near) ∙ sym e)
      is.legal

  -- there is one, where it is near one of the two
  some_eav : Near w 0x9D0 0xB60 → (x : ℕ) × IsEav w x
  some_eav =
      ⊎_elim
      (λ d. (0x9D0, record { legal = inl refl; near = d }))
      (λ d. (0xB60, record { legal = inr refl; near = d }))

-- by their numerals
sav_says : (w : ℕ) → Reflects (has_h false (nearest w)) (Near w 0x800 0xAB0)
unfolding timing
sav_says w = h_says w false

eav_says : (w : ℕ) → Reflects (has_h true (nearest w)) (Near w 0x9D0 0xB60)
unfolding timing
eav_says w = h_says w true

sav_v_says : (w n : ℕ) → Near w 0x800 0xAB0 → Reflects (same (v_in w) (v_of n)) (FitsLine n w 0x800 0xAB0)
unfolding timing
sav_v_says w n near = v_says w n false ((sav_says w).holds near)

eav_v_says : (w n : ℕ) → Near w 0x9D0 0xB60 → Reflects (same (v_in w) (v_of n)) (FitsLine n w 0x9D0 0xB60)
unfolding timing
eav_v_says w n near = v_says w n true ((eav_says w).holds near)

-- ---- the line

-- the line before m is the one that m comes after
before_is : (n m : ℕ) → Follows n m → line_before m ≡ n
before_is n m =
    ⊎_elim (λ (p, q). ap line_before q ∙ before_first ∙ sym p)
    (λ (p, q, r). ap line_before r ∙ simp (is_within 2 1125 (n + 1) (omega arith) (omega arith)) (omega arith))

pub follows_before : (m : ℕ) → 1 ≤ m → m ≤ 1125 → Follows (line_before m) m
follows_before m p q =
    on_test (within 2 1125 m)
    (λ u.
    let e : line_before m ≡ m - 1 = simp u in
    let l = from_low 2 1125 m u in
    inr (omega (arith, e, l), omega (arith, e, l), omega (arith, e, l)))
    (λ u.
    let e : line_before m ≡ 1125 = simp u in
    let one : m ≡ 1 = on_test (ltb m 2) (λ v. omega (arith, ltb_one m v)) (λ v. absurd (outside 2 1125 m u (ltb-false m 2 v) q)) in
    inl (e, one))
  where
    ltb_one : (m : ℕ) → ltb m 2 ≡ true → m ≤ 1
    ltb_one m v = let h = ltb-true m 2 v in omega arith

-- ---- what the CRCC covers

-- a table in two parts
table_split : (m n : ℕ) (f : ℕ → ℕ) → table m f ++ table n (λ i. f (m + i)) ≡ table (m + n) f
unfolding table
table_split m n f = upto_split m n (λ k. f k ∷ [])

two_words : (f : ℕ → ℕ) → table 2 f ≡ f 0 ∷ f 1 ∷ []
unfolding table upto
two_words f = refl

-- the picture and the first three words of the EAV
picture_and_three : (f : ℕ → ℕ) → table 1920 (λ i. f (4 + i)) ++ table 3 (λ i. f (1924 + i)) ≡ table 1923 (λ i. f (4 + i))
picture_and_three f =
    ap (λ (l : List ℕ). table 1920 (λ i. f (4 + i)) ++ l)
    (table_same 3 (λ i. f (1924 + i)) (λ i. f (4 + (1920 + i))) (λ i h. ap f (let e : 1924 + i ≡ 4 + (1920 + i) = omega arith in e)))
    ∙ table_split 1920 3 (λ i. f (4 + i))

module _ (s : ℕ) (word : ℕ → ℕ) where
  -- word j of stream t
  abbrev at : ℕ → ℕ → ℕ
  at = word_of s word

  -- the words of stream 1 name m: m is the next line, and the one before it is read
  module _ (m : ℕ) (names : Names at m) where
    next_is : next_line s word ≡ m
    unfolding next_line
    next_is =
        ap (λ (o : Option ℕ). get_or o 0)
        (ap₂ line_of names.low names.high ∙ line_again m names.first names.last)

    named_once : is_some (line_of (at 1928 0) (at 1929 0)) ≡ true
    named_once = ap is_some (ap₂ line_of names.low names.high ∙ line_again m names.first names.last)

    pub line_is : (n : ℕ) → Follows n m → line_read s word ≡ n
    unfolding line_read
    line_is n follows = ap line_before next_is ∙ before_is n m follows

    follows_read : Follows (line_read s word) m
    follows_read =
        let e : line_read s word ≡ line_before m = line_is (line_before m) (follows_before m names.first names.last) in
        rw e (follows_before m names.first names.last)

  -- they name one, where the search finds it
  names_told : is_some (line_of (at 1928 0) (at 1929 0)) ≡ true → (m : ℕ) × Names at m
  names_told t =
      let m = get_or (line_of (at 1928 0) (at 1929 0)) 0 in
      let is = line_named (at 1928 0) (at 1929 0) t in
      let line = named_is_line _ _ m is in (
        m,
        record {
          first = from_low 1 1125 m line;
          last = to_high 1 1125 m line;
          low = sym (named_ln0 _ _ m is);
          high = sym (named_ln1 _ _ m is);
        },
      )

  -- ---- the tests, at word j of stream t

  -- a test that holds at j holds at c, if that is j
  module _ (holds : ℕ → ℕ → Bool) (j t : ℕ) (e : holds j t ≡ true) where
    there : (c : ℕ) → j ≡ c → holds c t ≡ true
    there c q = ap (λ (i : ℕ). holds i t) (sym q) ∙ e

  module _ (t : ℕ) where
    -- 21
    told_21 : (j : ℕ) → holds21 s word j t ≡ true → Rule21 at j t
    unfolding holds21 within
    told_21 j e =
        let is = there (holds21 s word) j t e in
        record {
          sav0 = λ q. eqb-true (at 0 t) 0xFFF (is 0 q);
          sav1 = λ q. eqb-true (at 1 t) 0x000 (is 1 q);
          sav2 = λ q. eqb-true (at 2 t) 0x000 (is 2 q);
          sav_xyz = λ q. (sav_says (at 3 t)).told (is 3 q);
          eav0 = λ q. eqb-true (at 1924 t) 0xFFF (is 1924 q);
          eav1 = λ q. eqb-true (at 1925 t) 0x000 (is 1925 q);
          eav2 = λ q. eqb-true (at 1926 t) 0x000 (is 1926 q);
          eav_xyz = λ q. (eav_says (at 1927 t)).told (is 1927 q);
        }

    holds_21 : (j : ℕ) → Rule21 at j t → holds21 s word j t ≡ true
    unfolding holds21 within
    holds_21 =
        each_place 1924
        (four (λ j. Rule21 at j t → holds21 s word j t ≡ true)
        (λ r. eq-eqb (at 0 t) 0xFFF (r.sav0 refl))
        (λ r. eq-eqb (at 1 t) 0x000 (r.sav1 refl))
        (λ r. eq-eqb (at 2 t) 0x000 (r.sav2 refl))
        (λ r. (sav_says (at 3 t)).holds (r.sav_xyz refl)))
        (four (λ i. Rule21 at (1924 + i) t → holds21 s word (1924 + i) t ≡ true)
        (λ r. eq-eqb (at 1924 t) 0xFFF (r.eav0 refl))
        (λ r. eq-eqb (at 1925 t) 0x000 (r.eav1 refl))
        (λ r. eq-eqb (at 1926 t) 0x000 (r.eav2 refl))
        (λ r. (eav_says (at 1927 t)).holds (r.eav_xyz refl)))
        (λ j past q r. simp (le-ltb j 4 past, not_within 1924 1927 j (λ x y. omega (arith, q x))))

    -- 22
    told_22 : (j : ℕ) → holds22 s word j t ≡ true → Rule22 at j t
    unfolding holds22 within
    told_22 j e =
        let is = there (holds22 s word) j t e in
        record {
          named = λ q z. names_told (rw z at (is 1928 q));
          same0 =
              λ q.
              on_test (eqb t 0) (λ z. ap (at 1928) (eqb-true t 0 z)) (λ z. eqb-true (at 1928 t) (at 1928 0) (rw z at (is 1928 q)));
          same1 = λ q. eqb-true (at 1929 t) (at 1929 0) (is 1929 q);
        }

    holds_22 : (j : ℕ) → Rule22 at j t → holds22 s word j t ≡ true
    unfolding holds22 within
    holds_22 =
        each_of_two 1928 1929
        (λ r.
        on_test (eqb t 0)
        (λ z. let (m, names) = r.named refl (eqb-true t 0 z) in simp (z, named_once m names))
        (λ z. simp (z, eq-eqb (at 1928 t) (at 1928 0) (r.same0 refl))))
        (λ r. eq-eqb (at 1929 t) (at 1929 0) (r.same1 refl))
        (λ j x y r. simp (not_within 1928 1929 j (λ p q. x (omega arith))))

    -- 23, where stream 1 names a line and both XYZ are near words of their H
    module _ (sav : Near (at 3 t) 0x800 0xAB0) (eav : Near (at 1927 t) 0x9D0 0xB60) where
      told_23 : (j : ℕ) → holds23 s word j t ≡ true → Rule23 at j t
      unfolding holds23
      told_23 j e =
          let is = there (holds23 s word) j t e in
          record {
            sav = λ m n names follows q. (sav_v_says (at 3 t) n sav).told (rw (line_is m names n follows) at (is 3 q));
            eav = λ m n names follows q. (eav_v_says (at 1927 t) m eav).told (rw (next_is m names) at (is 1927 q));
          }

      holds_23 : (m : ℕ) → Names at m → (j : ℕ) → Rule23 at j t → holds23 s word j t ≡ true
      unfolding holds23
      holds_23 m names =
          let follows = follows_read m names in
          each_of_two 3 1927
          (λ r. (sav_v_says (at 3 t) (line_read s word) sav).holds (r.sav m (line_read s word) names follows refl))
          (λ r. rw (next_is m names) ((eav_v_says (at 1927 t) m eav).holds (r.eav m (line_read s word) names follows refl)))
          (λ j x y r. simp (ne_eqb j 3 x, ne_eqb j 1927 y))

    -- 24
    covered_is : (x : ℕ) → repaired (at 1927 t) ≡ x → register_of s word t ≡ crc 0 (covered at t x)
    unfolding register_of
    covered_is x e =
        ap (crc 0)
        (sym (append_assoc (column s word 4 1920 t) (column s word 1924 3 t) (repaired (at 1927 t) ∷ column s word 1928 2 t))
        ∙ ap₂ (λ (xs ys : List ℕ). xs ++ ys) (picture_and_three (λ j. at j t))
        (ap₂ (λ (y : ℕ) (ys : List ℕ). y ∷ ys) e (two_words (λ i. at (1928 + i) t))))

    told_24 : (j : ℕ) → holds24 s word j t ≡ true → Rule24 at j t
    unfolding holds24
    told_24 j e =
        let is = there (holds24 s word) j t e in
        let over : (x : ℕ) → IsEav (at 1927 t) x → register_of s word t ≡ crc 0 (covered at t x) =
        λ x near. covered_is x (eav_repaired (at 1927 t) x near) in
        record {
          crcc0 =
              λ x near q.
              eqb-true (at 1930 t) (crcc_words (register_of s word t)).crcc0 (is 1930 q) ∙ ap (λ (r : ℕ). (crcc_words r).crcc0) (over x near);
          crcc1 =
              λ x near q.
              eqb-true (at 1931 t) (crcc_words (register_of s word t)).crcc1 (is 1931 q) ∙ ap (λ (r : ℕ). (crcc_words r).crcc1) (over x near);
        }

    holds_24 : Near (at 1927 t) 0x9D0 0xB60 → (j : ℕ) → Rule24 at j t → holds24 s word j t ≡ true
    unfolding holds24
    holds_24 eav =
        let (x, near) = some_eav (at 1927 t) eav in
        let over = sym (covered_is x (eav_repaired (at 1927 t) x near)) in
        each_of_two 1930 1931
        (λ r. eq-eqb (at 1930 t) (crcc_words (register_of s word t)).crcc0 (r.crcc0 x near refl ∙ ap (λ (r : ℕ). (crcc_words r).crcc0) over))
        (λ r. eq-eqb (at 1931 t) (crcc_words (register_of s word t)).crcc1 (r.crcc1 x near refl ∙ ap (λ (r : ℕ). (crcc_words r).crcc1) over))
        (λ j x y r. simp (ne_eqb j 1930 x, ne_eqb j 1931 y))

    -- 25 and 26, of a format
    module _ (f : Format) (j : ℕ) where
      abbrev in_range : Bool
      in_range = within 16 4079 (at j t)

      abbrev low_clear : Bool
      low_clear = cond (eqb f.depth 10) (eqb (at j t % 4) 0) true

      may_told : holds25 s word f j t ≡ true → (m n : ℕ) → Names at m → Follows n m → 42 ≤ n → n ≤ 1121 → 4 ≤ j → j ≤ 1923
          → (in_range && low_clear) ≡ true
      unfolding holds25
      may_told e m n names follows p q l h =
          rw (is_within 4 1923 j l h, line_is m names n follows, is_within 42 1121 n p q) at e

      told_25 : holds25 s word f j t ≡ true → Rule25 f at j t
      told_25 e =
          record {
            range =
                λ m n names follows p q l h.
                let u = both_left in_range low_clear (may_told e m n names follows p q l h) in
                (from_low 16 4079 (at j t) u, to_high 16 4079 (at j t) u);
            low =
                λ ten m n names follows p q l h.
                let u = both_right in_range low_clear (may_told e m n names follows p q l h) in
                eqb-true (at j t % 4) 0 (rw (eq-eqb f.depth 10 ten) at u);
          }

      holds_25 : (m : ℕ) → Names at m → Rule25 f at j t → holds25 s word f j t ≡ true
      unfolding holds25
      holds_25 m names r =
          let n = line_read s word in
          let follows = follows_read m names in
          on_test (within 4 1923 j)
          (λ u.
          let l = from_low 4 1923 j u in
          let h = to_high 4 1923 j u in
          on_test (is_active n)
          (λ v.
          let p = from_low 42 1121 n v in
          let q = to_high 42 1121 n v in
          let is : in_range ≡ true =
          let x = r.range m n names follows p q l h in is_within 16 4079 (at j t) x.0 x.1 in
          on_test (eqb f.depth 10)
          (λ d. simp (u, v, is, d) (eq-eqb (at j t % 4) 0 (r.low (eqb-true f.depth 10 d) m n names follows p q l h)))
          (λ d. simp (u, v, is, d)))
          (λ v. simp (u, v)))
          (λ u. simp u)

      told_26 : holds26 s word f j t ≡ true → Rule26 f at j t
      unfolding holds26 shape_of
      told_26 e =
          record {
            fill =
                λ a is past.
                let same : a ≡ (numbered f.number).ancillary = is_of_lem (λ n. (numbered n).ancillary) f.number a is in
                let behind : 1932 + (numbered f.number).ancillary ≤ j = omega arith in
                eqb-true (at j t) fill_word (rw (le-ltb j (1932 + (numbered f.number).ancillary) behind) at e);
          }

      holds_26 : is_known f ≡ true → Rule26 f at j t → holds26 s word f j t ≡ true
      unfolding holds26 shape_of
      holds_26 known r =
          let a = (numbered f.number).ancillary in
          let is : Ancillary f a = let k = known_told f known in of_is (λ n. (numbered n).ancillary) f.number a k.from k.to refl in
          on_test (ltb j (1932 + a)) (λ u. simp u) (λ u. simp (u, eq-eqb (at j t) fill_word (r.fill a is (ltb-false j (1932 + a) u))))

-- ---- at every place of a span

module _ (f : Format) (known : is_known f ≡ true) (word : ℕ → ℕ) where
  abbrev st : ℕ
  st = streams (shape_of f)

  some : 1 ≤ st
  some = omega (arith, known_has_streams f known)

  -- word j of stream t is such a place
  at_word : (rule : ℕ → ℕ → Type 0) → Everywhere f rule → (j t : ℕ) → j < 1932 → t < st → rule j t
  at_word rule all j t h l =
      let place = all (st * j + t) (in_span (shape_of f) j t (omega arith) l) in
      rw (word_of_place st some j t l, stream_of_place st some j t l) at place

  -- 21, 22 and 26
  pub says_21 : (k : ℕ) → Reflects (placed st (holds21 st word) k) (Rule21 (words_of f word) (k / st) (k % st))
  says_21 k = record { told = told_21 st word (k % st) (k / st); holds = holds_21 st word (k % st) (k / st) }

  pub says_22 : (k : ℕ) → Reflects (placed st (holds22 st word) k) (Rule22 (words_of f word) (k / st) (k % st))
  says_22 k = record { told = told_22 st word (k % st) (k / st); holds = holds_22 st word (k % st) (k / st) }

  pub says_26 : (k : ℕ) → Reflects (placed st (holds26 st word f) k) (Rule26 f (words_of f word) (k / st) (k % st))
  says_26 k = record { told = told_26 st word (k % st) f (k / st); holds = holds_26 st word (k % st) f (k / st) known }

  -- where 21 is met, both XYZ of every stream are near words of their H
  module _ (timings : Everywhere f (Rule21 (words_of f word))) where
    sav_near : (t : ℕ) → t < st → Near (words_of f word 3 t) 0x800 0xAB0
    sav_near t l = (at_word (Rule21 (words_of f word)) timings 3 t (omega arith) l).sav_xyz refl

    eav_near : (t : ℕ) → t < st → Near (words_of f word 1927 t) 0x9D0 0xB60
    eav_near t l = (at_word (Rule21 (words_of f word)) timings 1927 t (omega arith) l).eav_xyz refl

    -- 24
    pub says_24 : (k : ℕ) → Reflects (placed st (holds24 st word) k) (Rule24 (words_of f word) (k / st) (k % st))
    says_24 k =
        record {
          told = told_24 st word (k % st) (k / st);
          holds = holds_24 st word (k % st) (eav_near (k % st) (stream_below st some k)) (k / st);
        }

  -- where 22 is, stream 1 names a line
  module _ (numbers : Everywhere f (Rule22 (words_of f word))) where
    pub some_line : (m : ℕ) × Names (words_of f word) m
    some_line = (at_word (Rule22 (words_of f word)) numbers 1928 0 (omega arith) some).named refl refl

    -- 25
    pub says_25 : (k : ℕ) → Reflects (placed st (holds25 st word f) k) (Rule25 f (words_of f word) (k / st) (k % st))
    says_25 k =
        let (m, names) = some_line in
        record { told = told_25 st word (k % st) f (k / st); holds = holds_25 st word (k % st) f (k / st) m names }

    -- 23
    pub says_23 : Everywhere f (Rule21 (words_of f word)) → (k : ℕ)
        → Reflects (placed st (holds23 st word) k) (Rule23 (words_of f word) (k / st) (k % st))
    says_23 timings k =
        let (m, names) = some_line in
        let l = stream_below st some k in
        let sav = sav_near timings (k % st) l in
        let eav = eav_near timings (k % st) l in
        record { told = told_23 st word (k % st) sav eav (k / st); holds = holds_23 st word (k % st) sav eav m names (k / st) }

  -- words pass the tests where they meet the rules, and nowhere else
  pub passes_meets : Passes f word → Meets f word
  passes_meets p =
      let timings : Everywhere f (Rule21 (words_of f word)) = λ k h. (says_21 k).told (p.timing k h) in
      let numbers : Everywhere f (Rule22 (words_of f word)) = λ k h. (says_22 k).told (p.line_number k h) in
      record {
        timing = timings;
        line_number = numbers;
        v = λ k h. (says_23 numbers timings k).told (p.v k h);
        crcc = λ k h. (says_24 timings k).told (p.crcc k h);
        picture = λ k h. (says_25 numbers k).told (p.picture k h);
        fill = λ k h. (says_26 k).told (p.fill k h);
      }

  pub meets_passes : Meets f word → Passes f word
  meets_passes m =
      record {
        timing = λ k h. (says_21 k).holds (m.timing k h);
        line_number = λ k h. (says_22 k).holds (m.line_number k h);
        v = λ k h. (says_23 m.line_number m.timing k).holds (m.v k h);
        crcc = λ k h. (says_24 m.timing k).holds (m.crcc k h);
        picture = λ k h. (says_25 m.line_number k).holds (m.picture k h);
        fill = λ k h. (says_26 k).holds (m.fill k h);
      }
