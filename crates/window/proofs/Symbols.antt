-- What a symbol stands for, and how the running disparity goes through an encoding.
-- Assumes nothing.
use mathlib.Core.Path.{◌≡◌, refl, sym, ap, ◌∙◌}
use mathlib.Core.Bool.{true, true≢false}
use mathlib.Core.List.{List, [], ◌∷◌}
use mathlib.Core.Option
use mathlib.Core.Option.{Option, none, some}
use Prim.Native.Nat.{ℕ, zero, suc, ◌+◌, ◌%◌, ◌≤◌, ◌<◌}
use native.Mathlib.Omega.{arith}
use lib.Dec.{eqb, ltb}
use lib.ListN.{length, get_or, take}
use lib.Seq.{take-suc}
use borrow.Author.Tests.{lt-ltb, le-ltb}
use Rattle.ground.specs.Search.{first_from, first_below, is_some}
use Rattle.ground.proofs.Ranges.{is_within, not_within}
use Rattle.ground.proofs.Tests.{both_left, both_right}
use Rattle.symbol.specs.declared.disparity.Disparity.{Disparity}
use Rattle.symbol.specs.declared.disparity.Disparity.TheVariants.{Negative, Positive}
use Rattle.symbol.specs.declared.special.Special.TheVariants.{K28_5, K29_7}
use Rattle.symbol.specs.Character.{characters, number_of}
use Rattle.symbol.specs.Code.{symbol_of, char_of, after_of}
use Rattle.symbol.proofs.Inverse.{decode_encode, one_meaning}
use Rattle.decoder.specs.Inside.Decoder.{decoding_table, entry_of, entry_in}
use Rattle.decoder.proofs.Reading.{number_is, entry_in_lem}
use Rattle.span.specs.declared.format.Shape.{Shape}
use Rattle.span.specs.Encoding.{symbols_from, after_run}
use Rattle.span.specs.Format.{eav_at}
use Rattle.span.proofs.Encoding.{after_append, symbol_at_lem}
use Rattle.window.specs.Scan.{byte_of, meant, symbol_at, start_of, running_at, fits, holds20}

-- ---- one symbol

-- the character at a disparity is what the symbol stands for
pub meant_is : (d : Disparity) (s c : ℕ) → char_of d s ≡ some c → meant s ≡ c
unfolding meant
meant_is Negative s c e = rw e
meant_is Positive s c e = go (char_of Negative s) refl
  where
    go : (o : Option ℕ) → char_of Negative s ≡ o → meant s ≡ c
    go none q = rw (q, e)
    go (some b) q = rw q (one_meaning Negative Positive s b c q e)

pub meant_of : (d : Disparity) (c : ℕ) → c < characters → meant (symbol_of d c) ≡ c
meant_of d c h = meant_is d (symbol_of d c) c (decode_encode d c h)

-- 0, which is read where there is no symbol, stands for none
pub no_symbol : meant 0 ≡ 0
unfolding meant char_of symbol_of first_below first_from
no_symbol = refl

-- it stands for a character at one of the two disparities, or for none
module _ (s : ℕ) where
  either : {C : Type 0} → ((d : Disparity) (c : ℕ) → char_of d s ≡ some c → C)
      → (char_of Negative s ≡ none → char_of Positive s ≡ none → C) → C
  either {C} f g = go (char_of Negative s) refl (char_of Positive s) refl
    where
      go : (n : Option ℕ) → char_of Negative s ≡ n → (p : Option ℕ) → char_of Positive s ≡ p → C
      go (some c) e p q = f Negative c e
      go none e (some c) q = f Positive c q
      go none e none q = g e q

  meant_none : char_of Negative s ≡ none → char_of Positive s ≡ none → meant s ≡ 0
  unfolding meant
  meant_none e q = rw (e, q)

  -- the number in its entry
  entry_none : char_of Negative s ≡ none → char_of Positive s ≡ none → entry_of s ≡ 0
  unfolding entry_of
  entry_none e q = rw (e, q)

  pub meant_entry : meant s ≡ entry_of s % 512
  meant_entry =
      either
      (λ d c e. meant_is d s c e ∙ sym (number_is d s c e))
      (λ e q. meant_none e q ∙ sym (ap (λ (x : ℕ). x % 512) (entry_none e q)))

-- the low eight bits of its entry in the decoding table are the byte that it stands for
pub byte_is : {t : List ℕ} {x : ℕ} (s : ℕ) → t ≡ decoding_table → x ≡ entry_in t s % 256 → x ≡ byte_of s
byte_is s e q =
    let low : entry_of s % 256 ≡ byte_of s = omega (arith, meant_entry s) in
    q ∙ ap (λ (l : List ℕ). entry_in l s % 256) e ∙ ap (λ (n : ℕ). n % 256) (entry_in_lem s) ∙ low

-- ---- test 20

-- what is some is some number
pub some_told : (o : Option ℕ) → is_some o ≡ true → o ≡ some (Option.get_or o 0)
some_told none t = absurd (true≢false (sym t))
some_told (some n) t = refl

pub some_meant : (d : Disparity) (s : ℕ) → is_some (char_of d s) ≡ true → char_of d s ≡ some (meant s)
some_meant d s t = let e = some_told (char_of d s) t in e ∙ ap {B = Option ℕ} some (sym (meant_is d s _ e))

-- the kind that stands at symbol i
module _ (p : Shape) (i c : ℕ) where
  pub fits_sav : i < 2 → fits p i c ≡ eqb c (number_of K28_5)
  unfolding fits
  fits_sav h = rw (lt-ltb i 2 h)

  pub fits_eav : 2 ≤ i → eav_at p ≤ i → i ≤ eav_at p + 1 → fits p i c ≡ eqb c (number_of K29_7)
  unfolding fits
  fits_eav h l m = rw (le-ltb i 2 h, is_within (eav_at p) (eav_at p + 1) i l m)

  pub fits_byte : 2 ≤ i → (eav_at p ≤ i → eav_at p + 2 ≤ i) → fits p i c ≡ ltb c 256
  unfolding fits
  fits_byte h q = rw (le-ltb i 2 h, not_within (eav_at p) (eav_at p + 1) i (λ l m. omega (arith, q l)))

module _ (p : Shape) (w : List ℕ) (i : ℕ) where
  -- where it holds, the symbol has its character at the running disparity, of the kind that stands there
  pub legal_told : holds20 p w i ≡ true → char_of (running_at w i) (symbol_at w i) ≡ some (meant (symbol_at w i))
  unfolding holds20
  legal_told t =
      some_meant (running_at w i) (symbol_at w i)
      (both_left (is_some (char_of (running_at w i) (symbol_at w i))) (fits p i (meant (symbol_at w i))) t)

  pub fits_told : holds20 p w i ≡ true → fits p i (meant (symbol_at w i)) ≡ true
  unfolding holds20
  fits_told t = both_right (is_some (char_of (running_at w i) (symbol_at w i))) (fits p i (meant (symbol_at w i))) t

  -- it holds at a symbol of such a character
  pub is_legal : (c : ℕ) → c < characters → symbol_at w i ≡ symbol_of (running_at w i) c → fits p i c ≡ true → holds20 p w i ≡ true
  unfolding holds20
  is_legal c h e t =
      let q : char_of (running_at w i) (symbol_at w i) ≡ some c = ap (char_of (running_at w i)) e ∙ decode_encode (running_at w i) c h in
      let m : meant (symbol_at w i) ≡ c = meant_is (running_at w i) (symbol_at w i) c q in
      rw (q, m) t

-- the running disparity goes on
pub running_on : (w : List ℕ) (i : ℕ) → running_at w (suc i) ≡ after_of (running_at w i) (meant (symbol_at w i))
unfolding running_at
running_on w i = refl

pub running_start : (w : List ℕ) → running_at w 0 ≡ start_of w
unfolding running_at
running_start w = refl

-- ---- an encoding

-- a window that begins with K28.5 starts at the disparity of that form
pub starts : (d : Disparity) (w : List ℕ) → symbol_at w 0 ≡ symbol_of d (number_of K28_5) → start_of w ≡ d
unfolding start_of symbol_of
starts Negative w e = rw e
starts Positive w e = rw e

-- where the symbols stand for characters, the running disparity is the one that the characters before leave
pub running_chars : (w cs : List ℕ) → ((i : ℕ) → i < length cs → meant (symbol_at w i) ≡ get_or cs i 0)
    → (i : ℕ) → i ≤ length cs → running_at w i ≡ after_run (start_of w) (take i cs)
unfolding after_run
running_chars w cs each zero h = running_start w
running_chars w cs each (suc i) h =
    running_on w i
    ∙ rw (running_chars w cs each i (omega arith), take-suc cs i 0 (omega arith), each i (omega arith))
    (sym (after_append (start_of w) (take i cs) (get_or cs i 0 ∷ [])))

module _ (d : Disparity) (cs w : List ℕ) (is : w ≡ symbols_from d cs) (start : start_of w ≡ d)
    (small : (i : ℕ) → i < length cs → get_or cs i 0 < characters) where
  -- symbol i, by the characters before it
  symbol_there : (i : ℕ) → i < length cs → symbol_at w i ≡ symbol_of (after_run d (take i cs)) (get_or cs i 0)
  symbol_there i h = ap (λ (l : List ℕ). get_or l i 0) is ∙ symbol_at_lem d cs i h

  -- it stands for its character
  pub meant_char : (i : ℕ) → i < length cs → meant (symbol_at w i) ≡ get_or cs i 0
  meant_char i h = ap meant (symbol_there i h) ∙ meant_of (after_run d (take i cs)) (get_or cs i 0) (small i h)

  -- the running disparity is the one that the characters before leave
  pub running_is : (i : ℕ) → i ≤ length cs → running_at w i ≡ after_run d (take i cs)
  running_is i h = running_chars w cs meant_char i h ∙ ap (λ (e : Disparity). after_run e (take i cs)) start

  -- each symbol is that of its character at the running disparity
  pub symbol_is : (i : ℕ) → i < length cs → symbol_at w i ≡ symbol_of (running_at w i) (get_or cs i 0)
  symbol_is i h = symbol_there i h ∙ ap (λ (e : Disparity). symbol_of e (get_or cs i 0)) (sym (running_is i (omega arith)))
