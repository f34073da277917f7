-- A row is folded word by word, and its CRC stays.
-- Assumes nothing.
use mathlib.Core.Path.{◌≡◌, refl, sym, ap, ap₂, ◌∙◌}
use mathlib.Core.Bool.{Bool, cond}
use mathlib.Core.List.{List}
use Prim.Native.Nat.{ℕ, ◌+◌, ◌-◌, ◌≤◌, ◌<◌}
use native.Mathlib.Omega.{arith}
use lib.Dec.{eqb, ltb}
use lib.ListN.{length, get_or, set, replicate, length-replicate, get_or-replicate, get_or-eq_default}
use lib.Seq.{get_or-set_same, get_or-set_other}
use borrow.Author.Tests.{eqb-true, eqb-false, eq-eqb, ne_eqb, ltb-true, ltb-false, lt-ltb, le-ltb}
use Rattle.ground.specs.Written.{table}
use Rattle.ground.specs.Xor.{◌⊕◌}
use Rattle.ground.proofs.Cases.{on_test}
use Rattle.ground.proofs.Writing.{table_same}
use Rattle.ground.proofs.Xors.{⊕_zero, zero_⊕, ⊕_self, ⊕_comm, ⊕_assoc, ⊕_middle}
use Rattle.crcc.specs.Crcc.{crc, crc_word}
use Rattle.crcc.proofs.Linear.{crc_next, crc_sum}
use Rattle.row_crc.specs.Inside.Fold.{with_moved, left, Empty, FoldInv}
use Rattle.row_crc.specs.Inside.Sums.{words_in}
use Rattle.row_crc.proofs.Moving.{zeros, only, moves, moves_nothing}

-- ---- the room for what is moved

pub empty_room : Empty (replicate 1984 0)
empty_room =
    record {
      none = λ k.
          on_test (ltb k 1984) (λ t. get_or-replicate 1984 k 0 0 (ltb-true k 1984 t))
          (λ t. get_or-eq_default (replicate 1984 0) 0 {n = k} (rw (length-replicate {A = ℕ} 1984 0) (ltb-false k 1984 t)));
    }

-- ---- one word

-- nothing has been moved to it
with_none : (r : ℕ) {a b c : ℕ} → a ≡ 0 → b ≡ 0 → c ≡ 0 → r ⊕ a ⊕ b ⊕ c ≡ r
with_none r p q s = rw (p, q, s, ⊕_zero r, ⊕_zero r, ⊕_zero r) refl

-- what it gets from each of three, together
gets : (r a b c p q s : ℕ) {a' b' c' : ℕ} → a' ≡ a ⊕ p → b' ≡ b ⊕ q → c' ≡ c ⊕ s → r ⊕ a' ⊕ b' ⊕ c' ≡ r ⊕ a ⊕ b ⊕ c ⊕ (0 ⊕ q ⊕ (s ⊕ p))
gets r a b c p q s x y z =
    rw (x, y, z)
    (ap (λ (x : ℕ). x ⊕ (b ⊕ q) ⊕ (c ⊕ s)) (sym (⊕_assoc r a p))
    ∙ ap (λ (x : ℕ). x ⊕ (c ⊕ s)) (⊕_middle (r ⊕ a) p b q)
    ∙ ⊕_middle (r ⊕ a ⊕ b) (p ⊕ q) c s
    ∙ ap (λ (x : ℕ). r ⊕ a ⊕ b ⊕ c ⊕ x)
    (ap (λ (x : ℕ). x ⊕ s) (⊕_comm p q) ∙ ⊕_assoc q p s ∙ ap₂ (λ (x y : ℕ). x ⊕ y) (sym (zero_⊕ q)) (⊕_comm p s)))

-- a word at a place, asked for further on
only_further : (i p s m x : ℕ) → p + s ≡ m → only m x (i + s) ≡ only p x i
only_further i p s m x e =
    on_test (eqb i p)
    (λ t. ap (λ (b : Bool). cond b x 0) (eq-eqb (i + s) m (omega (arith, eqb-true i p t)) ∙ sym t))
    (λ t. ap (λ (b : Bool). cond b x 0) (ne_eqb (i + s) m (λ z. eqb-false i p t (omega arith)) ∙ sym t))

not_only : (p x i : ℕ) → (i ≡ p → ⊥) → only p x i ≡ 0
not_only p x i n = ap (λ (b : Bool). cond b x 0) (ne_eqb i p n)

is_only : (p x i : ℕ) → i ≡ p → only p x i ≡ x
is_only p x i e = ap (λ (b : Bool). cond b x 0) (eq-eqb i p e)

none_of_four : (p x i : ℕ) → i < p → moves p x i ≡ 0
none_of_four p x i h =
    rw (not_only p x i (λ e. omega arith), not_only (p + 86) x i (λ e. omega arith), not_only (p + 93) x i (λ e. omega arith), not_only (p + 139) x i (λ e. omega arith), ⊕_zero 0, ⊕_zero 0) refl

first_of_four : (p x : ℕ) → moves p x p ≡ x
first_of_four p x =
    rw (is_only p x p refl, not_only (p + 86) x p (λ e. omega arith), not_only (p + 93) x p (λ e. omega arith), not_only (p + 139) x p (λ e. omega arith), ⊕_zero 0, ⊕_zero x, ⊕_zero x) refl

module _ (row moved : List ℕ) where
  pub begin : Empty moved → FoldInv row moved 0
  begin z =
      record {
        same =
            ap (crc 0)
            (table_same 1920 (left row moved 0) (λ i. get_or row (0 + i) 0)
            (λ i h.
            let here : i ≡ 0 + i = omega arith in
            ap (λ (b : Bool). cond b 0 (with_moved row moved i)) (le-ltb i 0 (omega arith))
            ∙ with_none (get_or row i 0) (z.none _) (z.none _) (z.none _) ∙ ap (λ (k : ℕ). get_or row k 0) here));
        none = λ k h. z.none k;
      }

  -- word j is moved, with what has been moved to it
  module _ {j x : ℕ} (h : j < 1781) (long : length moved ≡ 1984) (g : FoldInv row moved j) (is : x ≡ with_moved row moved j) where
    abbrev next : List ℕ
    next = set moved (139 + j) x

    at : (k : ℕ) → get_or next k 0 ≡ get_or moved k 0 ⊕ only (139 + j) x k
    at k =
        on_test (eqb k (139 + j))
        (λ t.
        let here : k ≡ 139 + j = eqb-true k (139 + j) t in
        rw (here) (get_or-set_same moved (139 + j) x 0 (omega arith)
        ∙ sym (ap₂ (λ (a b : ℕ). a ⊕ b) (g.none (139 + j) (omega arith)) (is_only (139 + j) x (139 + j) refl) ∙ zero_⊕ x)))
        (λ t.
        get_or-set_other moved (139 + j) k x 0 (eqb-false k (139 + j) t)
        ∙ sym (ap (λ (b : ℕ). get_or moved k 0 ⊕ b) (not_only (139 + j) x k (eqb-false k (139 + j) t)) ∙ ⊕_zero (get_or moved k 0)))

    -- every word of the row: as it was, and what is moved
    moved_to : (i : ℕ) → left row next (j + 1) i ≡ left row moved j i ⊕ moves j x i
    moved_to i =
        on_test (ltb i j)
        (λ t.
        let l = ltb-true i j t in
        rw (t, lt-ltb i (j + 1) (omega arith), none_of_four j x i l) (sym (⊕_zero 0)))
        (λ t.
        on_test (eqb i j)
        (λ u.
        let e : i ≡ j = eqb-true i j u in
        rw (t, lt-ltb i (j + 1) (omega arith)) (rw e (rw (first_of_four j x) (sym (ap (λ (y : ℕ). y ⊕ x) (sym is) ∙ ⊕_self x)))))
        (λ u. rw (t, le-ltb i (j + 1) (omega (arith, ltb-false i j t, eqb-false i j u))) (behind i (ltb-false i j t) (eqb-false i j u))))
      where
        behind : (i : ℕ) → j ≤ i → (i ≡ j → ⊥) → with_moved row next i ≡ with_moved row moved i ⊕ moves j x i
        behind i l n =
            let place : 139 + j ≡ j + 139 = omega arith in
            gets (get_or row i 0) _ _ _ _ _ _ (at _) (at _) (at _)
            ∙ ap (λ (y : ℕ). with_moved row moved i ⊕ y)
            (ap₂ (λ (y z : ℕ). y ⊕ z)
            (ap₂ (λ (y z : ℕ). y ⊕ z) (sym (not_only j x i n)) (only_further i (j + 86) _ (139 + j) x (omega arith)))
            (ap₂ (λ (y z : ℕ). y ⊕ z) (only_further i (j + 93) _ (139 + j) x (omega arith)) (ap (λ (m : ℕ). only m x i) place)))

    pub folds_on : FoldInv row next (j + 1)
    folds_on =
        record {
          same =
              ap (crc 0) (table_same 1920 (left row next (j + 1)) (λ i. left row moved j i ⊕ moves j x i) (λ i _. moved_to i))
              ∙ crc_sum 1920 (left row moved j) (moves j x)
              ∙ ap₂ (λ (a b : ℕ). a ⊕ b) g.same (moves_nothing j x (1780 - j) 1920 (omega arith))
              ∙ ⊕_zero (crc 0 (words_in row 0));
          none = λ k l. at k ∙ ap₂ (λ (a b : ℕ). a ⊕ b) (g.none k (omega arith)) (not_only (139 + j) x k (λ e. omega arith)) ∙ ⊕_zero 0;
        }

  -- ---- the words that are left

  pub none_before : {j : ℕ} → j ≡ 1781 → 0 ≡ crc 0 (table j (left row moved 1781))
  none_before {j} e =
      sym
      (ap (crc 0) (table_same j (left row moved 1781) (λ i. 0) (λ i h. ap (λ (b : Bool). cond b 0 (with_moved row moved i)) (lt-ltb i 1781 (omega arith))))
      ∙ zeros j)

  pub next_left_lem : {c j x : ℕ} → c ≡ crc 0 (table j (left row moved 1781)) → 1781 ≤ j → x ≡ with_moved row moved j
      → crc_word c x ≡ crc 0 (table (j + 1) (left row moved 1781))
  next_left_lem {c} {j} e h is =
      ap₂ crc_word e (is ∙ ap (λ (b : Bool). cond b 0 (with_moved row moved j)) (sym (le-ltb j 1781 h)))
      ∙ crc_next j (left row moved 1781)

  pub all_left : {c j : ℕ} → c ≡ crc 0 (table j (left row moved 1781)) → j ≡ 1920 → FoldInv row moved 1781 → c ≡ crc 0 (words_in row 0)
  all_left e at g = e ∙ ap (λ (k : ℕ). crc 0 (table k (left row moved 1781))) at ∙ g.same
