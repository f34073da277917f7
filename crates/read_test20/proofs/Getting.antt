-- The picture words taken so far: one word more of each stream, and all of them.
-- Assumes nothing.
use mathlib.Core.Path.{◌≡◌, refl, sym, ap, ◌∙◌}
use mathlib.Core.List.{List}
use Prim.Native.Nat.{ℕ, ◌+◌, ◌*◌, ◌≤◌, ◌<◌}
use native.Mathlib.Omega.{arith}
use lib.Dec.{eqb}
use lib.ListN.{length, get_or, set}
use borrow.Author.Tests.{eqb-true, eqb-false, ne_eqb}
use Rattle.ground.specs.Written.{table}
use Rattle.ground.proofs.Cases.{on_test}
use Rattle.ground.proofs.Writing.{length_upto, get_d_upto, length_table, get_d_table, table_same}
use Rattle.packing.specs.declared.bytes.TwoWords.{TwoWords}
use Rattle.window.proofs.Plain.{Behind, in_pair, stream_a, stream_b}
use Rattle.read_test20.proofs.Streams.{rows_of_two, rows_of_four}
use Rattle.read_test20.proofs.Taking.{begin, turn, under}
use Rattle.span.specs.declared.format.Shape.{Shape}
use Rattle.span.specs.Format.{streams, samples_in}
use Rattle.span.specs.Layout.{picture_start}
use Rattle.window.specs.Tests.{rows as rows_of, word_of}
use Rattle.window.specs.Words.{word_at}
use Rattle.window.specs.Inside.Columns.{column_of, sums_of}
use Rattle.window.specs.Inside.Given.{plain_pair}
use Rattle.row_crc.specs.Inside.Sums.{stream_row, sums_in}
use Rattle.read_test20.specs.declared.see.Kept.{Kept}
use Rattle.read_test20.specs.declared.see.Six.{Six}
use Rattle.read_test20.specs.declared.see.Three.{Three}
use Rattle.read_test20.specs.Inside.Picture.{put_two, pair_in, put_pair, place_two, rows_two, place_four, rows_four, RowsInv, TwoRowsInv}
use Rattle.read_test20.specs.Inside.See.{seen_three, seen_six, GatherInv}
use Rattle.read_test20.proofs.Seeing.{three_step}

-- where a pair stands
pair_at_lem : (w : List ℕ) (j half u o : ℕ) → o ≡ 3 * (half * (picture_start + j) + u) → plain_pair w o ≡ pair_in half w u j
pair_at_lem w j half u o e = ap (plain_pair w) e

module _ (w : List ℕ) {old : List ℕ} {j : ℕ} {v : Kept} {rows : List ℕ} (h : j < 1920) where
  got_two : RowsInv 1 w old j v rows → RowsInv 1 w old (j + 1) (place_two w j v) (rows_two w j rows)
  unfolding seen_three
  got_two g =
      let at : 12 + 3 * j ≡ 3 * (1 * (picture_start + j) + 0) = omega arith in
      let pair = pair_at_lem w j 1 0 (12 + 3 * j) at in
      let low = rw (sym (g.two refl)) at g.low in
      let end : 12 + 3 * j + 3 ≡ 12 * 1 + 3 * 1 * (j + 1) = omega arith in
      record {
        clean = rw end at (three_step w g.clean);
        low_rows = rows_two w j rows;
        low =
            (turn low h (omega arith) (omega arith) (ap (λ (x : TwoWords). x.a) pair) (ap (λ (x : TwoWords). x.b) pair));
        two = λ _. refl;
        four = λ e. absurd (omega arith);
      }

  got_four : RowsInv 2 w old j v rows → RowsInv 2 w old (j + 1) (place_four w j v) (rows_four w j rows)
  unfolding seen_three seen_six
  got_four g =
      let first : 24 + 6 * j ≡ 3 * (2 * (picture_start + j) + 0) = omega arith in
      let second : 24 + 6 * j + 3 ≡ 3 * (2 * (picture_start + j) + 1) = omega arith in
      let low = pair_at_lem w j 2 0 (24 + 6 * j) first in
      let high = pair_at_lem w j 2 1 (24 + 6 * j + 3) second in
      let x = plain_pair w (24 + 6 * j) in
      let end : 24 + 6 * j + 3 + 3 ≡ 12 * 2 + 3 * 2 * (j + 1) = omega arith in
      record {
        clean = rw end at (three_step w (three_step w g.clean));
        low_rows = set (set g.low_rows j x.a) (1920 + j) x.b;
        low =
            (turn g.low h (omega arith) (omega arith) (ap (λ (y : TwoWords). y.a) low) (ap (λ (y : TwoWords). y.b) low));
        two = λ e. absurd (omega arith);
        four =
            λ _.
            (turn (under (under (g.four refl) j x.a (omega arith)) (1920 + j) x.b (omega arith)) h (omega arith) (omega arith) (ap (λ (y : TwoWords). y.a) high)
            (ap (λ (y : TwoWords). y.b) high));
      }

-- one word more of what was seen, and put
module _ (w : List ℕ) {old : List ℕ} {j : ℕ} (v : Kept) {rows more : List ℕ} (h : j < 1920) where
  pub put_two_more : {x : Three} → x ≡ seen_three w (12 + 3 * j) v.good v.flips → more ≡ put_pair x.words j rows → RowsInv 1 w old j v rows
      → RowsInv 1 w old (j + 1) (record { good = x.good; flips = x.flips }) more
  unfolding seen_three
  put_two_more seen put g = rw (put, seen) (got_two w h g)

  pub put_four_more : {x : Six} → x ≡ seen_six w (24 + 6 * j) v.good v.flips → more ≡ put_pair x.high (3840 + j) (put_pair x.low j rows)
      → RowsInv 2 w old j v rows → RowsInv 2 w old (j + 1) (record { good = x.good; flips = x.flips }) more
  unfolding seen_three seen_six
  put_four_more seen put g = rw (put, seen) (got_four w h g)

-- at the beginning nothing is
pub got_begin : (half flips : ℕ) (w old : List ℕ) → GatherInv w (12 * half) (12 * half) 65535 flips
    → RowsInv half w old 0 (record { good = 65535; flips = flips }) old
got_begin half flips w old g =
    let at : 12 * half ≡ 12 * half + 3 * half * 0 = omega arith in
    record {
      clean = rw (← at) g;
      low_rows = old;
      low = begin (omega arith) refl;
      two = λ _. refl;
      four = λ _. begin (omega arith) refl;
    }

-- ---- all of them

module _ (p : Shape) (w : List ℕ) where
  -- the words of streams 2u and 2u + 1 are those of the window
  module _ (u : ℕ) (h : u < p.stream_pairs) where
    plain : (i : ℕ) → i < 1920 → Behind p (p.stream_pairs * (picture_start + i) + u)
    plain i l = in_pair p (picture_start + i) u h (omega arith) (λ z. absurd (omega arith))

    pub first_column : table 1920 (λ i. (pair_in p.stream_pairs w u i).a) ≡ column_of p w picture_start 1920 (2 * u)
    first_column = table_same 1920 _ _ (λ i l. stream_a p w (picture_start + i) u refl (plain i l))

    pub second_column : table 1920 (λ i. (pair_in p.stream_pairs w u i).b) ≡ column_of p w picture_start 1920 (2 * u + 1)
    second_column = table_same 1920 _ _ (λ i l. stream_b p w (picture_start + i) u refl (plain i l))

    pub put_columns : {old rows : List ℕ} {low high : ℕ}
        → TwoRowsInv (λ i. (pair_in p.stream_pairs w u i).a) (λ i. (pair_in p.stream_pairs w u i).b) 1920 low high old 1920 rows
        → low ≡ 2 * u * 1920 → high ≡ 2 * u * 1920 + 1920 → rows ≡ put_two p w u picture_start 1920 old
    put_columns t l k = t.put ∙ rw (first_column, second_column, l, k)

  module _ {old rows : List ℕ} {v : Kept} (small : p.stream_pairs ≤ 2) (some : 1 ≤ p.stream_pairs) (long : length old ≡ samples_in p)
      (g : RowsInv p.stream_pairs w old 1920 v rows) where
    low_rows_are : g.low_rows ≡ put_two p w 0 picture_start 1920 old
    low_rows_are = put_columns 0 (omega arith) g.low refl refl

    pub picture_is : rows ≡ rows_of (streams p) (word_at p w)
    picture_is =
        on_test (eqb p.stream_pairs 1)
        (λ t.
        let one = eqb-true p.stream_pairs 1 t in
        g.two one ∙ rows_of_two p w old long low_rows_are one)
        (λ t.
        let two : p.stream_pairs ≡ 2 = omega (arith, eqb-false p.stream_pairs 1 t) in
        rows_of_four p w old long low_rows_are two (put_columns 1 (omega arith) (g.four two) refl refl))

  -- a row of the picture is its stream's column, and so its CRC is that stream's
  module _ {rows : List ℕ} (is : rows ≡ rows_of (streams p) (word_at p w)) where
    sized : (t : ℕ) → length (column_of p w picture_start 1920 t) ≡ 1920
    sized t = length_table 1920 (λ i. word_of (streams p) (word_at p w) (picture_start + i) t)

    row_is : (t : ℕ) → t < streams p → stream_row rows t ≡ column_of p w picture_start 1920 t
    unfolding rows_of
    row_is t h =
        table_same 1920 _ _
        (λ i l.
        ap (λ (x : List ℕ). get_or x (1920 * t + i) 0) is
        ∙ get_d_upto 1920 (column_of p w picture_start 1920) sized (streams p) t i 0 h l
        ∙ get_d_table 1920 (λ k. word_of (streams p) (word_at p w) (picture_start + k) t) i 0 l)

    rows_long : length rows ≡ samples_in p
    unfolding rows_of
    rows_long = ap (λ (x : List ℕ). length x) is ∙ length_upto 1920 (column_of p w picture_start 1920) sized (streams p)

    pub sums_are : p.stream_pairs ≤ 2 → 1 ≤ p.stream_pairs → sums_in rows ≡ sums_of p w
    sums_are small some =
        on_test (eqb p.stream_pairs 1)
        (λ t.
        let two : length rows ≡ 3840 = omega (arith, rows_long, eqb-true p.stream_pairs 1 t) in
        rw (two, t, row_is 0 (omega arith), row_is 1 (omega arith)))
        (λ t.
        let half : p.stream_pairs ≡ 2 = omega (arith, eqb-false p.stream_pairs 1 t) in
        let other : length rows ≡ 3840 → ⊥ = λ e. omega (arith, rows_long) in
        rw (ne_eqb (length rows) 3840 other, t, row_is 0 (omega arith), row_is 1 (omega arith), row_is 2 (omega arith), row_is 3 (omega arith)))
