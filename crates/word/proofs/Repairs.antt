-- Repair of a timing word: what the search for the nearest legal word finds, and how far the legal words are apart.
-- Assumes nothing.
use mathlib.Core.Path.{◌≡◌, refl, sym, ap, ◌∙◌}
use mathlib.Core.Bool.{Bool, true, cond}
use mathlib.Core.Logic.{⊎_elim}
use mathlib.Core.Option.{none, some}
use Prim.Native.Nat.{ℕ, zero, suc, ◌+◌, ◌-◌, ◌/◌, ◌%◌, ◌^◌, ◌≤◌, ◌<◌, min}
use native.Mathlib.Nat.{zero-add, eq-or-lt_of_le, pow-suc}
use native.Mathlib.Omega.{arith}
use lib.Bits.{bit_and, bit_xor, and_step, and_self, and_le_l, and_shr}
use lib.Count.{ones_in}
use lib.Dec.{eqb}
use borrow.Author.Tests.{eqb-true, eqb-false, lt-ltb, le-leb, lt-leb, leb-true}
use Rattle.ground.specs.Answer.{Answer, refused, given}
use Rattle.ground.specs.Bit.{inverted}
use Rattle.ground.specs.Search.{first_below}
use Rattle.ground.specs.Xor.{◌⊕◌}
use Rattle.ground.specs.Inside.Test.{every_below}
use Rattle.ground.proofs.Bits.{ones_low}
use Rattle.ground.proofs.Cases.{on_test}
use Rattle.ground.proofs.Searches.{Nowhere, is_hit, is_miss, is_only}
use Rattle.ground.proofs.Tests.{at_number}
use Rattle.ground.proofs.Xors.{⊕_self, ⊕_below, ⊕_cancel, ⊕_middle, zero_⊕, ones_⊕, one_inverted, two_inverted}
use Rattle.std.specs.Prelude.{Option as Answered}
use Rattle.word.specs.declared.repair.Repaired.{Repaired}
use Rattle.word.specs.Repair.{distance, bit_of, legal_word, near, nearest, repaired_to, repair_of}
use Rattle.word.specs.Timing.{timing}

-- ---- a number without its lowest one

abbrev without : ℕ → ℕ
without x = bit_and x (x - 1)

-- it has a one less
ones_without : (b x : ℕ) → ones_in b (without x) ≡ ones_in b x - 1
unfolding ones_in
ones_without zero x = refl
ones_without (suc b) x =
    let low : without x % 2 ≡ 0 = omega (arith, and_step x (x - 1)) in
    let half : without x / 2 ≡ bit_and (x / 2) ((x - 1) / 2) = and_shr x (x - 1) 1 in
    on_test (eqb (x % 2) 0)
    (λ t.
    let e : x % 2 ≡ 0 = eqb-true (x % 2) 0 t in
    let h : (x - 1) / 2 ≡ x / 2 - 1 = omega arith in
    rw (low, half, h, e, zero-add, zero-add) (ones_without b (x / 2)))
    (λ t.
    let e : x % 2 ≡ 1 = let n = eqb-false (x % 2) 0 t in omega arith in
    let h : (x - 1) / 2 ≡ x / 2 = omega arith in
    rw (low, half, h, e, and_self) (omega arith))

-- a number that is not 0 has a one
pub some_one : (b x : ℕ) → x < 2 ^ b → 0 < x → 0 < ones_in b x
unfolding ones_in
some_one zero x h l = absurd (omega arith)
some_one (suc b) x h l =
    on_test (eqb (x % 2) 0)
    (λ t.
    let e : x % 2 ≡ 0 = eqb-true (x % 2) 0 t in
    let ih = some_one b (x / 2) (omega (arith, rw pow-suc at h)) (omega arith) in
    omega arith)
    (λ t. let n = eqb-false (x % 2) 0 t in omega arith)

no_ones : 0 ≡ ones_in 12 0
unfolding ones_in
no_ones = refl

abbrev pub nearness : ℕ → ℕ
nearness x = cond (eqb x 0) 0 (cond (eqb (bit_and x (x - 1)) 0) 1 2)

pub nearness_is : (x : ℕ) → x < 4096 → nearness x ≡ min 2 (ones_in 12 x)
nearness_is x h =
    on_test (eqb x 0) (λ t. rw (eqb-true x 0 t) (ap (min 2) no_ones))
    (λ t.
    let one : 0 < ones_in 12 x = some_one 12 x h (let n = eqb-false x 0 t in omega arith) in
    on_test (eqb (without x) 0)
    (λ u.
    let e : 0 ≡ ones_in 12 x - 1 = no_ones ∙ rw (eqb-true (without x) 0 u) at (ones_without 12 x) in
    simp (t, u) (omega (arith, e, one)))
    (λ u.
    let two : 0 < ones_in 12 (without x) =
    some_one 12 (without x) (omega (arith, and_le_l x (x - 1))) (let n = eqb-false (without x) 0 u in omega arith) in
    simp (t, u) (omega (arith, ones_without 12 x, two))))

pub difference_is : (a b : ℕ) → nearness (bit_xor a b % 4096) ≡ min 2 (distance a b)
unfolding distance ◌⊕◌
difference_is a b = nearness_is (bit_xor a b % 4096) (omega arith) ∙ ap (min 2) (ones_low 12 (bit_xor a b))

-- ---- what the search finds

-- a word repaired, field by field
pub is_repaired : (w : ℕ) {legal word d : ℕ} {b : Answered ℕ} → word ≡ legal → d ≡ distance w legal → b ≡ bit_of w legal
    → ◌≡◌ {A = Answer Repaired} (given (record { word = word; distance = d; bit = b })) (given (repaired_to w legal))
is_repaired w p q r = rw (p, q, r)

module _ (w : ℕ) (h : w < 4096) where
  pub found : (vh : ℕ) → vh < 4 → Nowhere (near w) 0 vh → distance w (legal_word vh) ≤ 1
      → repair_of w ≡ given (repaired_to w (legal_word vh))
  unfolding nearest
  found vh l lower d =
      let hit : first_below 4 (near w) ≡ some vh =
      is_hit (near w) 4 vh
      (record { from = omega arith; below = l; holds = le-leb (distance w (legal_word vh)) 1 d; least = lower.never }) in
      simp (lt-ltb w 4096 h, hit)

  pub lost : Nowhere (near w) 0 4 → repair_of w ≡ refused 8 0
  unfolding nearest
  lost n = simp (lt-ltb w 4096 h, is_miss (near w) 4 n)

-- one legal word more that is not near
pub one_more : (w vh : ℕ) → Nowhere (near w) 0 vh → 1 < distance w (legal_word vh) → Nowhere (near w) 0 (vh + 1)
one_more w vh n d =
    record {
      never =
          λ j h l.
          ⊎_elim (λ e. rw e (lt-leb (distance w (legal_word vh)) 1 d)) (λ b. n.never j h b) (eq-or-lt_of_le (let b : j ≤ vh = omega arith in b));
    }

-- ---- how far the legal words are apart

-- any two are four bits apart
pub apart : (i j : ℕ) → i < 4 → j < 4 → distance (legal_word i) (legal_word j) ≡ cond (eqb i j) 0 4
unfolding distance timing ◌⊕◌
apart i j h l =
    let test : ℕ → ℕ → Bool = λ i j. eqb (distance (legal_word i) (legal_word j)) (cond (eqb i j) 0 4) in
    eqb-true (distance (legal_word i) (legal_word j)) (cond (eqb i j) 0 4)
    (at_number 4 (test i) (at_number 4 (λ i. every_below 4 (test i)) refl i h) j l)

-- a word is at no distance from itself, and from no other
pub no_distance : (w : ℕ) → distance w w ≡ 0
unfolding distance
no_distance w = ap (ones_in 12) (⊕_self w) ∙ sym no_ones

pub same_word : (a b : ℕ) → a < 4096 → b < 4096 → distance a b ≡ 0 → a ≡ b
unfolding distance
same_word a b h l e =
    on_test (eqb (a ⊕ b) 0) (λ t. sym (⊕_cancel a b a (eqb-true (a ⊕ b) 0 t ∙ sym (⊕_self a))))
    (λ t. let n = eqb-false (a ⊕ b) 0 t in absurd (omega (arith, some_one 12 (a ⊕ b) (⊕_below 12 a b h l) (omega arith), e)))

-- a distance is no longer than two that lead there
between : (a b w : ℕ) → distance a b ≤ distance w a + distance w b
unfolding distance
between a b w =
    let e : (w ⊕ a) ⊕ (w ⊕ b) ≡ a ⊕ b = ⊕_middle w a w b ∙ ap (λ (x : ℕ). x ⊕ (a ⊕ b)) (⊕_self w) ∙ zero_⊕ (a ⊕ b) in
    rw e at (ones_⊕ 12 (w ⊕ a) (w ⊕ b))

-- so no word is near two
pub one_near : (w i j : ℕ) → i < 4 → j < 4 → near w i ≡ true → near w j ≡ true → i ≡ j
one_near w i j h l p q =
    on_test (eqb i j) (λ t. eqb-true i j t)
    (λ t.
    let d : distance (legal_word i) (legal_word j) ≡ 4 = apart i j h l ∙ simp t in
    absurd (omega (arith, d, between (legal_word i) (legal_word j) w, leb-true (distance w (legal_word i)) 1 p, leb-true (distance w (legal_word j)) 1 q)))

-- one that is near a legal word has it as its nearest
pub nearest_is : (w vh : ℕ) → vh < 4 → distance w (legal_word vh) ≤ 1 → nearest w ≡ some vh
unfolding nearest
nearest_is w vh h d =
    let t : near w vh ≡ true = le-leb (distance w (legal_word vh)) 1 d in
    is_only (near w) 4 vh h t (λ j l u. one_near w j vh l h u t)

-- one that is two bits from a legal word is near none
pub nearest_none : (w vh : ℕ) → vh < 4 → distance w (legal_word vh) ≡ 2 → nearest w ≡ none
unfolding nearest
nearest_none w vh h e = is_miss (near w) 4 (record { never = λ i _ l. lt-leb (distance w (legal_word i)) 1 (far i l) })
  where
    far : (i : ℕ) → i < 4 → 1 < distance w (legal_word i)
    far i l =
        on_test (eqb vh i) (λ t. omega (arith, ap (λ (x : ℕ). distance w (legal_word x)) (eqb-true vh i t), e))
        (λ t.
        let d : distance (legal_word vh) (legal_word i) ≡ 4 = apart vh i h l ∙ simp t in
        omega (arith, d, between (legal_word vh) (legal_word i) w, e))

-- ---- wrong bits (004, 6.2)

-- the distance says how many bits are wrong
pub one_off : (k w : ℕ) → k < 12 → distance (inverted k w) w ≡ 1
unfolding distance
one_off k w l =
    ap (ones_in 12) (one_inverted k w)
    ∙ eqb-true (ones_in 12 (2 ^ k)) 1 (at_number 12 (λ k. eqb (ones_in 12 (2 ^ k)) 1) refl k l)

pub two_off : (j k w : ℕ) → j < 12 → k < 12 → distance (inverted j (inverted k w)) w ≡ cond (eqb j k) 0 2
unfolding distance ◌⊕◌
two_off j k w p q =
    let test : ℕ → ℕ → Bool = λ j k. eqb (ones_in 12 (2 ^ j ⊕ 2 ^ k)) (cond (eqb j k) 0 2) in
    ap (ones_in 12) (two_inverted j k w)
    ∙ eqb-true (ones_in 12 (2 ^ j ⊕ 2 ^ k)) (cond (eqb j k) 0 2)
    (at_number 12 (test j) (at_number 12 (λ j. every_below 12 (test j)) refl j p) k q)
