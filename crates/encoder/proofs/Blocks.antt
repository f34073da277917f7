-- The blocks of one character: that they are found in the tables, and what they make.
-- Assumes nothing.
use mathlib.Core.Path.{◌≡◌, refl, sym, ap, ap₂, ◌∙◌}
use mathlib.Core.Bool.{Bool, true, false, not, ◌&&◌, cond}
use mathlib.Core.List.{List}
use Prim.Native.Nat.{ℕ, ◌≤◌, ◌<◌}
use native.Mathlib.Omega.{arith}
use lib.Dec.{eqb, ltb, lit<}
use lib.ListN.{get_or}
use borrow.Author.Tests.{eqb-true, ltb-true, lt-ltb, le-ltb, eq-eqb, ne_eqb}
use Rattle.ground.proofs.Tests.{at_number}
use Rattle.symbol.specs.declared.disparity.Disparity.{Disparity}
use Rattle.symbol.specs.declared.disparity.Disparity.TheVariants.{Negative, Positive}
use Rattle.symbol.specs.Blocks.{six_bits, six_bits_k28, four_bits, alternate, alternate_at}
use Rattle.symbol.specs.Character.{characters, x_of, y_of}
use Rattle.symbol.specs.Code.{one_of, six_of, four_of, between_of, after_of, symbol_of}
use Rattle.symbol.specs.Inside.Disparity.{flipped_if}
use Rattle.symbol.proofs.Characters.{at_character, same, same_is}
use Rattle.encoder.specs.declared.encode.Encoded.{Encoded}
use Rattle.encoder.specs.Encode.{encoded}
use Rattle.encoder.specs.Inside.Character.{four_of_byte}
use Rattle.block.specs.Inside.Bits.{as_symbol, unbalanced}

-- x has five bits, y three
pub x_below : (c : ℕ) → c < characters → x_of c < 32
unfolding x_of
x_below c h = ltb-true (x_of c) 32 (at_number characters (λ k. ltb (x_of k) 32) refl c h)

pub y_below : (c : ℕ) → c < characters → y_of c < 8
unfolding y_of
y_below c h = ltb-true (y_of c) 8 (at_number characters (λ k. ltb (y_of k) 8) refl c h)

-- the six bits of a byte, of K28, and of another special character
pub six_of_byte : (d : Disparity) (c : ℕ) → c < 256 → get_or (six_bits d) (x_of c) 0 ≡ six_of d c
unfolding six_of
six_of_byte d c h = simp (lt-ltb c 256 h)

pub six_of_special : (d : Disparity) (c : ℕ) (t : Bool) → 256 ≤ c → eqb (x_of c) 28 ≡ t → cond t (six_bits_k28 d) (get_or (six_bits d) (x_of c) 0) ≡ six_of d c
unfolding six_of
six_of_special d c t h e =
    sym (ap (λ (b : Bool). cond b (six_bits_k28 d) (get_or (six_bits d) (x_of c) 0)) (ap (λ (b : Bool). not b && eqb (x_of c) 28) (le-ltb c 256 h) ∙ e))

-- the four bits of a byte x.y: where y is not 7, where it is and x takes the alternate form, and where x does not
pub four_below : (d : Disparity) (x y : ℕ) → y < 7 → get_or (four_bits d) y 0 ≡ four_of_byte d x y
unfolding four_of_byte
four_below d x y h = let n : y ≡ 7 → ⊥ = λ e. omega arith in simp (ne_eqb y 7 n)

pub four_alternate : (d : Disparity) (x y : ℕ) → y ≡ 7 → one_of x (alternate_at d) ≡ true → alternate d ≡ four_of_byte d x y
unfolding four_of_byte
four_alternate d x y e t = simp (eq-eqb y 7 e, t)

pub four_primary : (d : Disparity) (x y : ℕ) → y ≡ 7 → one_of x (alternate_at d) ≡ false → get_or (four_bits d) 7 0 ≡ four_of_byte d x y
unfolding four_of_byte
four_primary d x y e t = rw e (simp t)

-- the three x that take the alternate form are below 32
pub alternate_below : (d : Disparity) {l : List ℕ} → l ≡ alternate_at d → (get_or l 0 0 < 32) × (get_or l 1 0 < 32) × (get_or l 2 0 < 32)
unfolding alternate_at
alternate_below Negative e = rw e (lit< tt, lit< tt, lit< tt)
alternate_below Positive e = rw e (lit< tt, lit< tt, lit< tt)

-- Counting ones is enough: the standard's rule for the disparity after a block comes to the same for every block of a character.
pub between_is : (d : Disparity) (c : ℕ) → c < characters → flipped_if (unbalanced 3 (six_of d c)) d ≡ between_of d c
unfolding unbalanced six_of between_of
between_is d c h =
    same_is (flipped_if (unbalanced 3 (six_of d c)) d) (between_of d c)
    (at_character (λ e k. same (flipped_if (unbalanced 3 (six_of e k)) e) (between_of e k)) refl refl d c h)

pub after_is : (d : Disparity) (c : ℕ) → c < characters
    → flipped_if (unbalanced 2 (four_of (between_of d c) c)) (between_of d c) ≡ after_of d c
unfolding unbalanced four_of between_of after_of
after_is d c h =
    same_is (flipped_if (unbalanced 2 (four_of (between_of d c) c)) (between_of d c)) (after_of d c)
    (at_character (λ e k. same (flipped_if (unbalanced 2 (four_of (between_of e k) k)) (between_of e k)) (after_of e k)) refl refl d c h)

-- The two blocks make the symbol.
pub symbol_is : (d : Disparity) (c : ℕ) → c < characters → as_symbol (six_of d c) (four_of (between_of d c) c) ≡ symbol_of d c
unfolding as_symbol six_of four_of between_of symbol_of
symbol_is d c h =
    eqb-true (as_symbol (six_of d c) (four_of (between_of d c) c)) (symbol_of d c)
    (at_character (λ e k. eqb (as_symbol (six_of e k) (four_of (between_of e k) k)) (symbol_of e k)) refl refl d c h)

-- So what is worked out block by block is what encoding answers.
pub encoded_is : (d : Disparity) (c : ℕ) → c < characters → {six four s : ℕ} {t u : Bool} {b a : Disparity} → six ≡ six_of d c
    → t ≡ unbalanced 3 six → b ≡ flipped_if t d → four ≡ four_of b c → u ≡ unbalanced 2 four → a ≡ flipped_if u b → s ≡ as_symbol six four
    → ◌≡◌ {A = Encoded} (record { symbol = s; after = a }) (encoded d c)
encoded_is d c h {six} {four} {s} {t} {u} {b} {a} p q r p' q' r' e =
    let between : b ≡ between_of d c = r ∙ ap (λ (x : Bool). flipped_if x d) (q ∙ ap (unbalanced 3) p) ∙ between_is d c h in
    let fours : four ≡ four_of (between_of d c) c = p' ∙ ap (λ (x : Disparity). four_of x c) between in
    let after : a ≡ after_of d c =
    r' ∙ ap₂ (λ (x : Bool) (y : Disparity). flipped_if x y) (q' ∙ ap (unbalanced 2) fours) between ∙ after_is d c h in
    ap₂ (λ (x : ℕ) (y : Disparity). record { symbol = x; after = y }) (e ∙ ap₂ as_symbol p fours ∙ symbol_is d c h) after
