-- What is answered for a legal timing word, for one with one or two wrong bits, and for any other.
-- Assumes nothing.
use mathlib.Core.Path.{◌≡◌, refl, sym, ap, ap₂, ◌∙◌}
use mathlib.Core.Bool.{Bool, true, false, cond}
use mathlib.Core.Option.{Option, none, some}
use Prim.Native.Nat.{ℕ, ◌/◌, ◌%◌, ◌^◌, ◌≤◌, ◌<◌}
use native.Mathlib.Omega.{arith}
use lib.Dec.{eqb, ltb}
use borrow.Author.Tests.{ne_eqb, lt-ltb, le-ltb, lt-leb, leb-true, ltb-true}
use Rattle.ground.specs.Answer.{Answer, refused, given}
use Rattle.ground.specs.Bit.{inverted}
use Rattle.ground.proofs.Bits.{inverted_below}
use Rattle.ground.proofs.Cases.{on_test}
use Rattle.ground.proofs.Searches.{hit}
use Rattle.ground.proofs.Xors.{⊕_self}
use Rattle.std.specs.Prelude.{Option as Answered}
use Rattle.std.specs.Prelude.{None, Some}
use Rattle.word.specs.declared.repair.Repaired.{Repaired}
use Rattle.word.specs.Repair.{distance, differs_at, legal_word, near, nearest, repaired_to, repair_of}
use Rattle.word.specs.Received.{repaired, bit_wrong}
use Rattle.word.specs.Timing.{timing}
use Rattle.word.proofs.Repairs.{lost, no_distance, nearest_is, nearest_none, one_off, two_off}
use Rattle.word.proofs.Timings.{timing_below}
use Rattle.word.proofs.WhichBit.{one_bit_differs, no_difference, this_bit, other_word, same_words}

abbrev answer : ℕ → ℕ → Answered ℕ → Answer Repaired
answer word distance bit = given (record { word = word; distance = distance; bit = bit })

module _ (vh : ℕ) (h : vh < 4) where
  abbrev legal : ℕ
  legal = legal_word vh

  legal_below : legal < 2 ^ 12
  legal_below = timing_below (eqb (vh / 2) 1) (eqb (vh % 2) 1)

  near_legal : (w : ℕ) → w < 4096 → distance w legal ≤ 1 → repair_of w ≡ given (repaired_to w legal)
  near_legal w l d = simp (lt-ltb w 4096 l, nearest_is w vh h d)

  -- none wrong: the word itself; one wrong: the word that it was, and the bit
  pub none_wrong : repair_of legal ≡ given (record { word = legal; distance = 0; bit = None })
  none_wrong =
      let e = no_distance legal in
      near_legal legal legal_below (omega (arith, e)) ∙ ap₂ (answer legal) e (no_difference legal legal (⊕_self legal))

  pub one_wrong : (k : ℕ) → k < 12 → repair_of (inverted k legal) ≡ given (record { word = legal; distance = 1; bit = Some k })
  one_wrong k l =
      let e = one_off k legal l in
      near_legal (inverted k legal) (inverted_below 12 k legal l legal_below) (omega (arith, e)) ∙ ap₂ (answer legal) e (this_bit k legal l)

  -- two wrong: no legal word is near
  pub two_wrong : (j k : ℕ) → j < k → k < 12 → repair_of (inverted j (inverted k legal)) ≡ refused 8 0
  two_wrong j k p q =
      let l : j < 12 = omega arith in
      let n : j ≡ k → ⊥ = λ e. omega arith in
      let w = inverted j (inverted k legal) in
      let e : distance w legal ≡ 2 = two_off j k legal l q ∙ simp (ne_eqb j k n) in
      let small : w < 4096 = inverted_below 12 j (inverted k legal) l (inverted_below 12 k legal q legal_below) in
      simp (lt-ltb w 4096 small, nearest_none w vh h e)

-- the word of any V and H, as it is sent
pub sent_whole : (v h : Bool) → repair_of (timing v h) ≡ given (record { word = timing v h; distance = 0; bit = None })
sent_whole false false = none_wrong 0 (omega arith)
sent_whole false true = none_wrong 1 (omega arith)
sent_whole true false = none_wrong 2 (omega arith)
sent_whole true true = none_wrong 3 (omega arith)

-- the bit of it that is wrong
wrong_bit_of : (vh : ℕ) → vh < 4 → (j k : ℕ) → j < 12 → k < 12 → bit_wrong j (inverted k (legal_word vh)) ≡ cond (eqb j k) 1 0
wrong_bit_of vh h j k p q =
    let w = inverted k (legal_word vh) in
    let near : nearest w ≡ some vh = nearest_is w vh h (omega (arith, one_off k (legal_word vh) q)) in
    let is : repaired w ≡ legal_word vh = rw near in
    ap (differs_at j w) is ∙ one_bit_differs j k (legal_word vh) p q

pub wrong_one : (v h : Bool) (j k : ℕ) → j < 12 → k < 12 → bit_wrong j (inverted k (timing v h)) ≡ cond (eqb j k) 1 0
wrong_one false false = wrong_bit_of 0 (omega arith)
wrong_one false true = wrong_bit_of 1 (omega arith)
wrong_one true false = wrong_bit_of 2 (omega arith)
wrong_one true true = wrong_bit_of 3 (omega arith)

-- ---- any word that is repaired

-- it has twelve bits, and is repaired to a legal word that is near
record RepairedNear (w : ℕ) (r : Repaired) : Type 0 where
  small : w < 4096
  vh : ℕ
  legal : vh < 4
  near : distance w (legal_word vh) ≤ 1
  is : r ≡ repaired_to w (legal_word vh)

is_near : (w : ℕ) (r : Repaired) → repair_of w ≡ given r → RepairedNear w r
unfolding nearest
is_near w r e =
    on_test (ltb w 4096) (λ t. go t (nearest w) refl)
    (λ t. let q : refused 7 0 ≡ given r = rw t at e in let z : ◌≡◌ {A = ℕ} 0 1 = cc in absurd (omega arith))
  where
    go : ltb w 4096 ≡ true → (o : Option ℕ) → nearest w ≡ o → RepairedNear w r
    go t none q = let x : refused 8 0 ≡ given r = rw (t, q) at e in let z : ◌≡◌ {A = ℕ} 0 1 = cc in absurd (omega arith)
    go t (some vh) q =
        let x : given (repaired_to w (legal_word vh)) ≡ given r = rw (t, q) at e in
        let found = hit (near w) 4 vh q in
        record {
          small = ltb-true w 4096 t;
          vh = vh;
          legal = found.below;
          near = leb-true (distance w (legal_word vh)) 1 found.holds;
          is = cc;
        }

-- the bit that is answered, inverted, gives the answered word; where none is, the word is the answered one
module _ (w : ℕ) (r : Repaired) (e : repair_of w ≡ given r) where
  n : RepairedNear w r
  n = is_near w r e

  word_is : legal_word n.vh ≡ r.word
  word_is = ap (λ (x : Repaired). x.word) (sym n.is)

  below : legal_word n.vh < 4096
  below = legal_below n.vh n.legal

  pub near_answered : r.distance ≤ 1
  near_answered = omega (arith, n.near, ap (λ (x : Repaired). x.distance) n.is)

  pub bit_answered : (k : ℕ) → r.bit ≡ Some k → (k < 12) × (inverted k w ≡ r.word)
  bit_answered k q =
      let x = other_word w (legal_word n.vh) n.small below k n.near (ap (λ (x : Repaired). x.bit) (sym n.is) ∙ q) in
      (x.0, x.1 ∙ word_is)

  pub nothing_answered : r.bit ≡ None → w ≡ r.word
  nothing_answered q = same_words w (legal_word n.vh) n.small below (ap (λ (x : Repaired). x.bit) (sym n.is) ∙ q) ∙ word_is

-- ---- which words are refused, in the paper's own numerals

pub repair_meets_7 : (w : ℕ) → 4095 < w → repair_of w ≡ refused 7 0
repair_meets_7 w h = simp (le-ltb w 4096 h)

pub repair_meets_8 : (w : ℕ) → w ≤ 4095
    → ((v h : Bool) → 1 < distance w (timing v h)) → repair_of w ≡ refused 8 0
repair_meets_8 w h far =
    lost w (omega arith) (record { never = λ vh p q. lt-leb (distance w (legal_word vh)) 1 (far (eqb (vh / 2) 1) (eqb (vh % 2) 1)) })
