-- Test 24 with the sums of the picture is test 24.
-- Assumes nothing.
use mathlib.Core.Path.{◌≡◌, refl, ap, ◌∙◌, fun_ext}
use mathlib.Core.Bool.{Bool, true, cond}
use mathlib.Core.List.{List, [], ◌∷◌, ◌++◌}
use Prim.Native.Nat.{ℕ, zero, suc, ◌+◌, ◌*◌, ◌/◌, ◌%◌, ◌≤◌, ◌<◌}
use native.Mathlib.Omega.{arith}
use lib.Dec.{eqb}
use lib.ListN.{take}
use Rattle.span.specs.declared.format.Format.{Format}
use Rattle.span.specs.declared.format.Shape.{Shape}
use Rattle.span.specs.Format.{shape_of, streams, pairs_in}
use Rattle.span.specs.Layout.{picture_start, eav_start, line_start, crcc_start, eav_xyz}
use Rattle.crcc.specs.declared.crcc.CrccWords.{CrccWords}
use Rattle.crcc.specs.Crcc.{crc, crcc_words}
use Rattle.crcc.proofs.Crc.{crc_append}
use Rattle.window.specs.Read.{lowest, placed, word_tests}
use Rattle.window.specs.Tests.{word_of, column, register_of, holds21, holds22, holds23, holds24}
use Rattle.word.specs.Received.{repaired}
use Rattle.crcc.specs.Inside.Sums.{sum_in}
use Rattle.window.specs.Words.{word_at}
use Rattle.window.specs.Inside.Columns.{column_of, sums_of}
use Rattle.window.proofs.Placing.{stream_below}
use Rattle.read_test21_26.specs.Inside.Holds.{crcc_received, holds24_by}
use Rattle.read_test21_26.specs.Inside.Verdict.{service_tests}

module _ (p : Shape) (w : List ℕ) (some_streams : 1 ≤ p.stream_pairs) (few : p.stream_pairs ≤ 2) where
  -- the sum of a stream is that of its picture words
  sum_is : (t : ℕ) → t < streams p → sum_in (sums_of p w) t ≡ crc 0 (column_of p w picture_start 1920 t)
  sum_is t h = go p.stream_pairs refl t h
    where
      go : (half : ℕ) → p.stream_pairs ≡ half → (t : ℕ) → t < streams p → sum_in (sums_of p w) t ≡ crc 0 (column_of p w picture_start 1920 t)
      go half e zero h = refl
      go half e (suc zero) h = refl
      go zero e (suc (suc t)) h = absurd (omega arith)
      go (suc zero) e (suc (suc t)) h = absurd (omega arith)
      go (suc (suc zero)) e (suc (suc zero)) h = rw e
      go (suc (suc zero)) e (suc (suc (suc zero))) h = rw e
      go (suc (suc zero)) e (suc (suc (suc (suc t)))) h = absurd (omega arith)
      go (suc (suc (suc half))) e (suc (suc t)) h = absurd (omega arith)

  crcc_is : (t : ℕ) → t < streams p → crcc_received p w t (sum_in (sums_of p w) t) ≡ crcc_words (register_of (streams p) (word_at p w) t)
  unfolding crcc_received register_of
  crcc_is t h =
      let s = streams p in
      let rest = column s (word_at p w) eav_start 3 t ++ (repaired (word_of s (word_at p w) eav_xyz t) ∷ column s (word_at p w) line_start 2 t) in
      ap (λ (c : ℕ). crcc_words (crc c rest)) (sum_is t h)
      ∙ ap (λ (c : ℕ). crcc_words c) (crc_append 0 (column_of p w picture_start 1920 t) rest)

  same_24 : (k : ℕ) → placed (streams p) (holds24_by p w (sums_of p w)) k ≡ placed (streams p) (holds24 (streams p) (word_at p w)) k
  unfolding holds24_by holds24
  same_24 k =
      let j = k / streams p in
      let t = k % streams p in
      let word = word_of (streams p) (word_at p w) j t in
      ap
      (λ (c : CrccWords). cond (eqb j crcc_start) (eqb word c.crcc0) (cond (eqb j (crcc_start + 1)) (eqb word c.crcc1) true))
      (crcc_is t (stream_below (streams p) (omega arith) k))

  -- so tests 21 to 24 with them are the first four of the words
  pub sums_right : (f : Format) → p ≡ shape_of f → service_tests p w (sums_of p w) ≡ take 4 (word_tests f (word_at p w))
  sums_right f e =
      let s = streams p in
      let n = 2 * pairs_in p in
      let word = word_at p w in
      rw (← e)
      (ap
      (λ (test : ℕ → Bool).
      lowest 21 n (placed s (holds21 s word))
      ∷ lowest 22 n (placed s (holds22 s word))
      ∷ lowest 23 n (placed s (holds23 s word))
      ∷ lowest 24 n test
      ∷ [])
      (fun_ext same_24))
