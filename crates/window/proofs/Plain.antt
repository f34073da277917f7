-- The words of a window that are read out of its symbols as they stand: those of which none is replaced.
-- Assumes nothing.
use mathlib.Core.Path.{◌≡◌, ap, ◌∙◌}
use mathlib.Core.Bool.{true, false}
use mathlib.Core.List.{List}
use Prim.Native.Nat.{ℕ, ◌+◌, ◌*◌, ◌/◌, ◌%◌, ◌≤◌, ◌<◌}
use native.Mathlib.Nat.{mul-le-mul_left}
use native.Mathlib.Omega.{arith}
use lib.Dec.{ltb}
use borrow.Author.Tests.{ltb-true, ltb-false}
use Rattle.ground.proofs.Cases.{on_test}
use Rattle.span.specs.declared.format.Shape.{Shape}
use Rattle.span.specs.Format.{streams, eav_at}
use Rattle.span.specs.Layout.{picture_start, eav_start, line_start}
use Rattle.packing.specs.declared.bytes.TwoWords.{TwoWords}
use Rattle.packing.specs.Bytes.{unpacked}
use Rattle.window.specs.Scan.{byte_of, symbol_at}
use Rattle.window.specs.Words.{pair_at, word_at}
use Rattle.window.specs.Inside.Given.{plain_pair}
use Rattle.window.proofs.Bytes.{byte_else}

-- ---- three symbols

pub pair_is : {x y z : ℕ} (w : List ℕ) (o : ℕ) → x ≡ byte_of (symbol_at w o) → y ≡ byte_of (symbol_at w (o + 1)) → z ≡ byte_of (symbol_at w (o + 2))
    → unpacked (record { first = x; second = y; third = z }) ≡ plain_pair w o
unfolding plain_pair
pair_is w o e f g = rw (e, f, g)

-- ---- which pairs are plain

-- pair q lies after the replaced bytes of the SAV, and before those of the EAV or after them
pub record Behind (p : Shape) (q : ℕ) : Type 0 where
  pub sav : 2 ≤ q
  pub eav : eav_at p ≤ 3 * q + 2 → eav_at p + 4 ≤ 3 * q

-- word j of streams 2u and 2u + 1, where it is none of a timing code
module _ (p : Shape) (j u : ℕ) (h : u < p.stream_pairs) where
  pub in_pair : picture_start ≤ j → (eav_start ≤ j → line_start ≤ j) → Behind p (p.stream_pairs * j + u)
  in_pair behind apart =
      let m : p.stream_pairs * 4 ≤ p.stream_pairs * j = mul-le-mul_left p.stream_pairs behind in
      record { sav = omega arith; eav = λ a. on_test (ltb j eav_start) (before a) after }
    where
      before : eav_at p ≤ 3 * (p.stream_pairs * j + u) + 2 → ltb j eav_start ≡ true → eav_at p + 4 ≤ 3 * (p.stream_pairs * j + u)
      before a t =
          let b : j ≤ 1923 = omega (arith, ltb-true j eav_start t) in
          let m : p.stream_pairs * j ≤ p.stream_pairs * 1923 = mul-le-mul_left p.stream_pairs b in
          omega arith

      after : ltb j eav_start ≡ false → eav_at p + 4 ≤ 3 * (p.stream_pairs * j + u)
      after t =
          let m : p.stream_pairs * line_start ≤ p.stream_pairs * j = mul-le-mul_left p.stream_pairs (apart (ltb-false j eav_start t)) in
          omega arith

-- ---- what they are

module _ (p : Shape) (w : List ℕ) where
  pub pair_plain : (q : ℕ) → Behind p q → pair_at p w q ≡ plain_pair w (3 * q)
  unfolding pair_at plain_pair
  pair_plain q b =
      rw (
        byte_else p w (3 * q) (omega arith) (λ a. omega (arith, b.eav (omega arith))),
        byte_else p w (3 * q + 1) (omega arith) (λ a. omega (arith, b.eav (omega arith))),
        byte_else p w (3 * q + 2) (omega arith) (λ a. omega (arith, b.eav (omega arith))),
      )

  -- the two words of a pair that was read there
  module _ {x : TwoWords} (q : ℕ) (is : x ≡ plain_pair w (3 * q)) (b : Behind p q) where
    same_pair : x ≡ pair_at p w q
    same_pair = rw (pair_plain q b) is

    pub word_a_lem : x.a ≡ word_at p w (2 * q)
    unfolding word_at
    word_a_lem =
        let even : 2 * q % 2 ≡ 0 = omega arith in
        let same : 2 * q / 2 ≡ q = omega arith in
        rw (even, same) (ap (λ (l : TwoWords). l.a) same_pair)

    pub word_b_lem : x.b ≡ word_at p w (2 * q + 1)
    unfolding word_at
    word_b_lem =
        let odd : (2 * q + 1) % 2 ≡ 1 = omega arith in
        let same : (2 * q + 1) / 2 ≡ q = omega arith in
        rw (odd, same) (ap (λ (l : TwoWords). l.b) same_pair)

  -- word j of streams 2u and 2u + 1
  module _ {x : TwoWords} (j u : ℕ) (is : x ≡ plain_pair w (3 * (p.stream_pairs * j + u))) (b : Behind p (p.stream_pairs * j + u)) where
    pub stream_a : x.a ≡ word_at p w (streams p * j + 2 * u)
    stream_a =
        let e : 2 * (p.stream_pairs * j + u) ≡ streams p * j + 2 * u = omega arith in
        word_a_lem (p.stream_pairs * j + u) is b ∙ ap (word_at p w) e

    pub stream_b : x.b ≡ word_at p w (streams p * j + (2 * u + 1))
    stream_b =
        let e : 2 * (p.stream_pairs * j + u) + 1 ≡ streams p * j + (2 * u + 1) = omega arith in
        word_b_lem (p.stream_pairs * j + u) is b ∙ ap (word_at p w) e
