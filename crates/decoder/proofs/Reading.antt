-- What the entry of a symbol says is so: at each disparity it gives the symbol's character, or none, and the disparity after it.
-- Assumes nothing.
use mathlib.Core.Path.{◌≡◌, refl, sym, ap, ◌∙◌}
use mathlib.Core.Bool.{Bool, true, false, cond, true≢false}
use mathlib.Core.Option.{Option, none, some, none-ne-some, some-injective}
use Prim.Native.Nat.{ℕ, ◌+◌, ◌*◌, ◌/◌, ◌%◌, ◌≤◌, ◌<◌}
use native.Mathlib.Omega.{arith}
use lib.Dec.{eqb, ltb}
use borrow.Author.Tests.{lt-ltb, ltb-true, ltb-false, ne_eqb}
use Rattle.ground.specs.Search.{is_some}
use Rattle.ground.proofs.Cases.{on_test}
use Rattle.symbol.specs.declared.disparity.Disparity.{Disparity}
use Rattle.symbol.specs.declared.disparity.Disparity.TheVariants.{Negative, Positive}
use Rattle.symbol.specs.Character.{characters}
use Rattle.symbol.specs.Code.{symbol_of, char_of, after_of}
use Rattle.symbol.specs.Inside.Code.{flips}
use Rattle.ground.specs.Bit.{bit}
use Rattle.symbol.specs.Inside.Disparity.{flipped_if}
use Rattle.decoder.specs.Decode.{decode_of}
use Rattle.decoder.specs.Meaning.{meaning_of}
use Rattle.symbol.proofs.Characters.{bit_is, bit_below}
use Rattle.decoder.proofs.Entries.{look, entry_giving, entry_at}
use Rattle.symbol.proofs.Inverse.{decoded_below, one_meaning, illegal_is}
use Rattle.symbol.proofs.Ones.{symbol_below, flips_both}
use Rattle.decoder.specs.Inside.Decoder.{decoded_by, decoding_table, entry_after, entry_from, entry_in, entry_of, legal_bit, meaning_by}

abbrev side : {A : Type 0} → Disparity → A → A → A
side Negative n p = n
side Positive n p = p

-- ---- the parts of an entry that gives a character
module _ (c : ℕ) (h : c < 512) (n p : Bool) where
  entry_character : entry_from (some c) n p % 512 ≡ c
  entry_character = omega arith

  entry_legal : (d : Disparity) → legal_bit d (entry_from (some c) n p) ≡ side d n p
  entry_legal Negative =
      let q : entry_from (some c) n p / 512 % 2 ≡ bit n = omega (arith, bit_below n) in ap (λ (x : ℕ). eqb x 1) q ∙ bit_is n
  entry_legal Positive =
      let q : entry_from (some c) n p / 1024 % 2 ≡ bit p = omega (arith, bit_below n, bit_below p) in ap (λ (x : ℕ). eqb x 1) q ∙ bit_is p

  entry_flips : entry_from (some c) n p / 2048 % 4 ≡ 3 * bit (flips c)
  entry_flips = omega (arith, bit_below n, bit_below p, bit_below (flips c))

  entry_look : (d : Disparity) → look d (entry_from (some c) n p) ≡ cond (side d n p) (some c) none
  entry_look d = rw (entry_legal d, entry_character)

-- what an entry e says of a character, or of none, at disparity d
pub record EntrySays (d : Disparity) (e : ℕ) (o : Option ℕ) : Type 0 where
  pub looked : look d e ≡ o
  pub flipped : (c : ℕ) → o ≡ some c → e / 2048 % 4 ≡ 3 * bit (flips c)

given_is : (t : Bool) (b c : ℕ) → cond t (some b) none ≡ some c → b ≡ c
given_is true b c e = some-injective b c e
given_is false b c e = absurd (none-ne-some c e)

says_some : (c : ℕ) → c < 512 → (n p : Bool) (d : Disparity) (o : Option ℕ) → cond (side d n p) (some c) none ≡ o
    → EntrySays d (entry_from (some c) n p) o
says_some c h n p d o e =
    record {
      looked = entry_look c h n p d ∙ e;
      flipped = λ b q. entry_flips c h n p ∙ ap (λ (x : ℕ). 3 * bit (flips x)) (given_is (side d n p) c b (e ∙ q));
    }

says_none : (d : Disparity) → EntrySays d 0 none
says_none Negative = record { looked = refl; flipped = λ c q. absurd (none-ne-some c q) }
says_none Positive = record { looked = refl; flipped = λ c q. absurd (none-ne-some c q) }

-- an entry made of two characters that agree gives each at its disparity
says_giving : (n p : Option ℕ) → ((c : ℕ) → n ≡ some c → c < 512) → ((c : ℕ) → p ≡ some c → c < 512)
    → ((b c : ℕ) → n ≡ some b → p ≡ some c → b ≡ c) → (d : Disparity) → EntrySays d (entry_giving n p) (side d n p)
says_giving none none f g h Negative = says_none Negative
says_giving none none f g h Positive = says_none Positive
says_giving (some b) none f g h Negative = says_some b (f b refl) true false Negative (some b) refl
says_giving (some b) none f g h Positive = says_some b (f b refl) true false Positive none refl
says_giving none (some c) f g h Negative = says_some c (g c refl) false true Negative none refl
says_giving none (some c) f g h Positive = says_some c (g c refl) false true Positive (some c) refl
says_giving (some b) (some c) f g h Negative = says_some b (f b refl) true true Negative (some b) refl
says_giving (some b) (some c) f g h Positive =
    says_some b (f b refl) true true Positive (some c) (ap {B = Option ℕ} some (h b c refl refl))

entry_says : (d : Disparity) (s : ℕ) → EntrySays d (entry_of s) (char_of d s)
unfolding entry_of
entry_says d s =
    let below : (e : Disparity) (c : ℕ) → char_of e s ≡ some c → c < 512 =
    λ e c q. let b : c < characters = decoded_below e s c q in omega arith in
    rw (pick d) at
    (says_giving (char_of Negative s) (char_of Positive s) (below Negative) (below Positive) (λ b c. one_meaning Negative Positive s b c) d)
  where
    pick : (d : Disparity) → side d (char_of Negative s) (char_of Positive s) ≡ char_of d s
    pick Negative = refl
    pick Positive = refl

-- ---- what a reader of the table takes from it

-- at each disparity the entry gives the symbol's character, or none
pub look_is : (d : Disparity) (s : ℕ) → look d (entry_of s) ≡ char_of d s
look_is d s = (entry_says d s).looked

-- it is legal where the symbol has a character
pub legal_is : (d : Disparity) (s : ℕ) → legal_bit d (entry_of s) ≡ is_some (char_of d s)
legal_is d s = sym (some_if (legal_bit d (entry_of s))) ∙ ap is_some (look_is d s)
  where
    some_if : (t : Bool) → is_some (cond t (some (entry_of s % 512)) none) ≡ t
    some_if true = refl
    some_if false = refl

-- then its low nine bits are the character's number
pub number_is : (d : Disparity) (s c : ℕ) → char_of d s ≡ some c → entry_of s % 512 ≡ c
number_is d s c e = given_is (legal_bit d (entry_of s)) (entry_of s % 512) c (look_is d s ∙ e)

-- its bits 11 and 12 say whether the character flips the disparity
pub flip_is : (d : Disparity) (s c : ℕ) → char_of d s ≡ some c → entry_of s / 2048 % 4 ≡ 3 * bit (flips c)
flip_is d s c e = (entry_says d s).flipped c e

-- and so it gives the disparity after it
pub after_is : (d : Disparity) (s c : ℕ) → char_of d s ≡ some c → entry_after d (entry_of s) ≡ after_of d c
after_is d s c e =
    let q : entry_of s / 2048 % 2 ≡ bit (flips c) = omega (arith, flip_is d s c e, bit_below (flips c)) in
    ap (λ (t : Bool). flipped_if t d) (ap (λ (x : ℕ). eqb x 1) q ∙ bit_is (flips c)) ∙ sym (flips_both d c (decoded_below d s c e))

-- its bit 13 is set where the character is a byte, and no higher bit is
record Flagged (e : ℕ) : Type 0 where
  fits : e < 16384
  byte : e / 8192 % 2 ≡ 1 → e / 256 % 2 ≡ 0
  flag : e % 512 < 256 → (e ≡ 0 → ⊥) → e / 8192 % 2 ≡ 1

flagged_some : (c : ℕ) → c < 512 → (n p : Bool) → Flagged (entry_from (some c) n p)
flagged_some c h n p = on_test (ltb c 256) yes_byte no_byte
  where
    small : c + 512 * bit n + 1024 * bit p + 6144 * bit (flips c) < 8192
    small = omega (arith, bit_below n, bit_below p, bit_below (flips c))

    yes_byte : ltb c 256 ≡ true → Flagged (entry_from (some c) n p)
    yes_byte t =
        let l : c < 256 = ltb-true c 256 t in
        rw t
        (record {
          fits = omega (arith, small);
          byte = λ _. omega (arith, bit_below n, bit_below p, bit_below (flips c));
          flag = λ _ _. omega (arith, small);
        })

    no_byte : ltb c 256 ≡ false → Flagged (entry_from (some c) n p)
    no_byte t =
        let l : 256 ≤ c = ltb-false c 256 t in
        rw t
        (record {
          fits = omega (arith, small);
          byte = λ z. absurd (omega (arith, small));
          flag = λ z _. absurd (omega (arith, bit_below n, bit_below p, bit_below (flips c)));
        })

flagged : (s : ℕ) → Flagged (entry_of s)
unfolding entry_of
flagged s = go (char_of Negative s) refl (char_of Positive s) refl
  where
    below : (d : Disparity) (c : ℕ) → char_of d s ≡ some c → c < 512
    below d c e = omega (arith, decoded_below d s c e)

    go : (n : Option ℕ) → char_of Negative s ≡ n → (p : Option ℕ) → char_of Positive s ≡ p → Flagged (entry_giving n p)
    go (some c) e p f = flagged_some c (below Negative c e) true (is_some p)
    go none e (some c) f = flagged_some c (below Positive c f) false true
    go none e none f = record { fits = omega arith; byte = λ z. absurd (omega arith); flag = λ _ x. absurd (x refl) }

pub entry_fits : (s : ℕ) → entry_of s < 16384
entry_fits s = (flagged s).fits

pub flag_byte : (s : ℕ) → entry_of s / 8192 % 2 ≡ 1 → entry_of s / 256 % 2 ≡ 0
flag_byte s = (flagged s).byte

pub byte_flag : (s : ℕ) → entry_of s % 512 < 256 → (entry_of s ≡ 0 → ⊥) → entry_of s / 8192 % 2 ≡ 1
byte_flag s = (flagged s).flag

-- So the entry of a symbol says what decoding answers, and what the symbol means.
pub decode_entry : (d : Disparity) (s : ℕ) → s < 1024 → decoded_by d (entry_of s) ≡ decode_of d s
decode_entry d s h = go (char_of d s) refl
  where
    go : (o : Option ℕ) → char_of d s ≡ o → decoded_by d (entry_of s) ≡ decode_of d s
    go none e = simp (lt-ltb s 1024 h, legal_is d s, e)
    go (some c) e = simp (lt-ltb s 1024 h, legal_is d s, e, number_is d s c e, after_is d s c e)

not_zero : (d : Disparity) (e : ℕ) → legal_bit d e ≡ true → e ≡ 0 → ⊥
not_zero Negative e t q = true≢false (sym (rw q at t))
not_zero Positive e t q = true≢false (sym (rw q at t))

no_entry : (s : ℕ) → char_of Negative s ≡ none → char_of Positive s ≡ none → entry_of s ≡ 0
unfolding entry_of
no_entry s e f = rw (e, f)

pub meaning_entry : (s : ℕ) → s < 1024 → meaning_by (entry_of s) ≡ meaning_of s
meaning_entry s h = go (char_of Negative s) refl (char_of Positive s) refl
  where
    given_at : (d : Disparity) (c : ℕ) → char_of d s ≡ some c → eqb (entry_of s) 0 ≡ false
    given_at d c e = ne_eqb (entry_of s) 0 (not_zero d (entry_of s) (legal_is d s ∙ ap is_some e))

    go : (n : Option ℕ) → char_of Negative s ≡ n → (p : Option ℕ) → char_of Positive s ≡ p → meaning_by (entry_of s) ≡ meaning_of s
    go none e none f = simp (lt-ltb s 1024 h, no_entry s e f, e, f)
    go (some c) e p f =
        simp (lt-ltb s 1024 h, given_at Negative c e, number_is Negative s c e, legal_is Negative s, legal_is Positive s, e)
    go none e (some c) f =
        simp (lt-ltb s 1024 h, given_at Positive c f, number_is Positive s c f, legal_is Negative s, legal_is Positive s, e, f)

-- Above 1023 there is no symbol, so a lent table's entry is the symbol's for every number.
pub above_illegal : (d : Disparity) (s : ℕ) → 1024 ≤ s → char_of d s ≡ none
above_illegal d s h =
    illegal_is d s (λ c l e. let b : symbol_of d c < 1024 = symbol_below d c l in absurd (omega arith))

pub entry_in_lem : (s : ℕ) → entry_in decoding_table s ≡ entry_of s
entry_in_lem s =
    on_test (ltb s 1024) (λ t. rw t (entry_at s (ltb-true s 1024 t)))
    (λ t.
    let h : 1024 ≤ s = ltb-false s 1024 t in
    rw (t, no_entry s (above_illegal Negative s h) (above_illegal Positive s h)))
