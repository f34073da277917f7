-- A word may be received if and only if it is the word of a sample that may be sent.
-- Assumes nothing.
use mathlib.Core.Path.{◌≡◌}
use mathlib.Core.Bool.{true}
use Prim.Native.Nat.{ℕ, ◌*◌, ◌/◌, ◌%◌, ◌≤◌}
use native.Mathlib.Omega.{arith}
use lib.Dec.{eqb}
use borrow.Author.Tests.{eq-eqb, eqb-true}
use Rattle.ground.specs.Range.{within}
use Rattle.ground.proofs.Ranges.{is_within, from_low, to_high}
use Rattle.ground.proofs.Tests.{both_left, both_right}
use Rattle.packing.specs.Sample.{allowed_at_depth, word_at_depth, allowed_word}

module _ (x : ℕ) where
  pub sent_ten : allowed_at_depth 10 x ≡ true → (word_at_depth 10 x ≡ x * 4) × (allowed_word 10 (word_at_depth 10 x) ≡ true)
  sent_ten t =
      let p : 4 ≤ x = from_low 4 1019 x t in
      let q : x ≤ 1019 = to_high 4 1019 x t in
      let e : word_at_depth 10 x ≡ x * 4 = omega arith in
      let r : within 16 4079 (x * 4) ≡ true = is_within 16 4079 (x * 4) (omega arith) (omega arith) in
      let z : x * 4 % 4 ≡ 0 = omega arith in
      (e, rw e (simp (r, eq-eqb (x * 4 % 4) 0 z)))

  pub sent_twelve : allowed_at_depth 12 x ≡ true → (word_at_depth 12 x ≡ x) × (allowed_word 12 (word_at_depth 12 x) ≡ true)
  sent_twelve t =
      let p : 16 ≤ x = from_low 16 4079 x t in
      let q : x ≤ 4079 = to_high 16 4079 x t in
      let e : word_at_depth 12 x ≡ x = omega arith in
      (e, rw e (simp t))

  pub received_ten : allowed_word 10 x ≡ true → (allowed_at_depth 10 (x / 4) ≡ true) × (word_at_depth 10 (x / 4) ≡ x)
  received_ten t =
      let r = both_left (within 16 4079 x) (eqb (x % 4) 0) t in
      let p : 16 ≤ x = from_low 16 4079 x r in
      let q : x ≤ 4079 = to_high 16 4079 x r in
      let z : x % 4 ≡ 0 = eqb-true (x % 4) 0 (both_right (within 16 4079 x) (eqb (x % 4) 0) t) in
      (is_within 4 1019 (x / 4) (omega arith) (omega arith), omega arith)

  pub received_twelve : allowed_word 12 x ≡ true → (allowed_at_depth 12 x ≡ true) × (word_at_depth 12 x ≡ x)
  received_twelve t =
      let r = both_left (within 16 4079 x) true t in
      let q : x ≤ 4079 = to_high 16 4079 x r in
      (r, omega arith)
