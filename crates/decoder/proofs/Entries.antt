-- The entries of the decoding table.
-- Assumes nothing.
use mathlib.Core.Path.{◌≡◌, refl, sym, ◌∙◌}
use mathlib.Core.Bool.{Bool, true, false, ◌&&◌, cond, true≢false}
use mathlib.Core.List.{List}
use mathlib.Core.Option.{Option, none, some}
use Prim.Native.Nat.{ℕ, ◌%◌, ◌<◌}
use lib.Dec.{eqb, ltb}
use lib.ListN.{length, get_or}
use borrow.Author.Tests.{eqb-true, ltb-true}
use Rattle.ground.specs.Search.{is_some}
use Rattle.ground.specs.Inside.Test.{every_at, every_below}
use Rattle.ground.proofs.Tests.{both_left, both_right, at_entry, at_number}
use Rattle.ground.proofs.Writing.{is_table, get_d_table}
use Rattle.symbol.specs.declared.disparity.Disparity.{Disparity}
use Rattle.symbol.specs.declared.disparity.Disparity.TheVariants.{Negative, Positive}
use Rattle.symbol.specs.Character.{characters}
use Rattle.symbol.specs.Code.{symbol_of, char_of}
use Rattle.decoder.specs.Meaning.{first_of}
use Rattle.symbol.proofs.Inverse.{decode_encode, illegal_is}
use Rattle.decoder.specs.Inside.Decoder.{entry_from, entry_of, decoding_table, legal_bit}

-- what holds at both disparities holds at each
pub at_both : (P : Disparity → Type 0) → P Negative → P Positive → (d : Disparity) → P d
at_both P n p Negative = n
at_both P n p Positive = p

-- the character that an entry gives at a disparity, if any
abbrev pub look : Disparity → ℕ → Option ℕ
look d e = cond (legal_bit d e) (some (e % 512)) none

-- the entry that gives one character at negative disparity and one at positive
abbrev pub entry_giving : Option ℕ → Option ℕ → ℕ
entry_giving n p = entry_from (first_of n p) (is_some n) (is_some p)

-- a character that an entry of symbol s gives at a disparity has that symbol there
abbrev sound : Disparity → ℕ → Option ℕ → Bool
sound d s none = true
sound d s (some c) = ltb c characters && eqb (symbol_of d c) s

abbrev is : ℕ → Option ℕ → Bool
is c none = false
is c (some b) = eqb b c

-- What antt computes of a table of 1,024 entries: each is written as the definition writes what it gives; what it gives is so; and each
-- character is given by the entry of its symbol.
pub record EntriesPass (t : List ℕ) : Type 0 where
  pub long : length t ≡ 1024
  pub written : every_at (λ s e. eqb e (entry_giving (look Negative e) (look Positive e))) 0 t ≡ true
  pub so : (d : Disparity) → every_at (λ s e. sound d s (look d e)) 0 t ≡ true
  pub given : (d : Disparity) → every_below characters (λ c. is c (look d (get_or t (symbol_of d c) 0))) ≡ true

module _ (t : List ℕ) (ok : EntriesPass t) where
  given_at : (d : Disparity) (c : ℕ) → c < characters → is c (look d (get_or t (symbol_of d c) 0)) ≡ true
  given_at d = at_number characters (λ c. is c (look d (get_or t (symbol_of d c) 0))) (ok.given d)

  module _ (s : ℕ) (h : s < length t) where
    at_look : (d : Disparity) → char_of d s ≡ look d (get_or t s 0)
    at_look d = go (look d (get_or t s 0)) refl
      where
        go : (o : Option ℕ) → look d (get_or t s 0) ≡ o → char_of d s ≡ look d (get_or t s 0)
        go none e =
            illegal_is d s
            (λ c l q.
            let z : is c none ≡ true = rw (q, e) at (given_at d c l) in
            true≢false (sym z))
            ∙ sym e
        go (some c) e =
            let ok-c : (ltb c characters && eqb (symbol_of d c) s) ≡ true = rw e at (at_entry (λ k x. sound d k (look d x)) t (ok.so d) s h) in
            let b : c < characters = ltb-true c characters (both_left (ltb c characters) (eqb (symbol_of d c) s) ok-c) in
            let q : symbol_of d c ≡ s = eqb-true (symbol_of d c) s (both_right (ltb c characters) (eqb (symbol_of d c) s) ok-c) in
            (rw q at (decode_encode d c b)) ∙ sym e

    at_entry_of : get_or t s 0 ≡ entry_of s
    unfolding entry_of
    at_entry_of =
        let x = get_or t s 0 in
        rw (at_look Negative, at_look Positive)
        (eqb-true x (entry_giving (look Negative x) (look Positive x))
        (at_entry (λ k e. eqb e (entry_giving (look Negative e) (look Positive e))) t ok.written s h))

  pub tested_entries : t ≡ decoding_table
  unfolding decoding_table
  tested_entries = is_table 1024 entry_of 0 t ok.long (λ s h. at_entry_of s (rw ok.long h))

pub entry_at : (s : ℕ) → s < 1024 → get_or decoding_table s 0 ≡ entry_of s
unfolding decoding_table
entry_at s h = get_d_table 1024 entry_of s 0 h
