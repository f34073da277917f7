-- Test 20 is document 01's rule (specs/Rules): it holds up to a symbol where the symbols up to there are those of characters of the right
-- kinds.
-- Assumes nothing.
use mathlib.Core.Path.{◌≡◌, sym, ap, ◌∙◌}
use mathlib.Core.Bool.{true}
use mathlib.Core.List.{List}
use Prim.Native.Nat.{ℕ, ◌+◌, ◌*◌, ◌≤◌, ◌<◌}
use native.Mathlib.Nat.{eq-or-lt_of_le}
use native.Mathlib.Omega.{arith}
use mathlib.Core.Logic.{⊎_elim}
use lib.Dec.{ltb}
use lib.ListN.{length, get_or, take, length-take}
use lib.Seq.{length-take-le, get_or-take, ext_get_or}
use borrow.Author.Tests.{eqb-true, eq-eqb, ltb-true, ltb-false, lt-ltb}
use Rattle.ground.specs.Range.{within}
use Rattle.ground.specs.Written.{table}
use Rattle.ground.proofs.Cases.{on_test}
use Rattle.ground.proofs.Ranges.{from_low, to_high, outside}
use Rattle.ground.proofs.Writing.{length_table, get_d_table}
use Rattle.symbol.specs.declared.disparity.Disparity.{Disparity}
use Rattle.symbol.specs.declared.special.Special.TheVariants.{K28_5, K29_7}
use Rattle.symbol.specs.Character.{characters, number_of}
use Rattle.symbol.specs.Code.{symbol_of}
use Rattle.symbol.proofs.Inverse.{encode_decode}
use Rattle.span.specs.declared.format.Shape.{Shape}
use Rattle.span.specs.Encoding.{symbols_from, after_run}
use Rattle.span.specs.Format.{streams, eav_at}
use Rattle.span.proofs.Encoding.{length_symbols, symbol_at_lem}
use Rattle.window.specs.Rules.{Kind, Rule20}
use Rattle.ground.specs.Inside.Test.{Reflects}
use Rattle.window.specs.Scan.{meant, symbol_at, start_of, running_at, fits, holds20}
use Rattle.window.proofs.Symbols.{meant_of, fits_sav, fits_eav, fits_byte, legal_told, fits_told, is_legal, starts, running_chars}

module _ (p : Shape) (some : 1 ≤ p.stream_pairs) where
  -- ---- the kind of one character

  module _ (i c : ℕ) where
    -- what is not one of the first two of the EAV, but is not before them, is behind them
    past : (2886 * streams p ≤ i → i ≤ 2886 * streams p + 1 → ⊥) → eav_at p ≤ i → eav_at p + 2 ≤ i
    past out l =
        on_test (ltb i (eav_at p + 2))
        (λ u. absurd (out l (let h = ltb-true i (eav_at p + 2) u in omega arith)))
        (λ u. ltb-false i (eav_at p + 2) u)

    kind_told : fits p i c ≡ true → Kind (streams p) i c
    kind_told t =
        record {
          sav = λ h. eqb-true c (number_of K28_5) (sym (fits_sav p i c h) ∙ t);
          eav = λ l m. eqb-true c (number_of K29_7) (sym (fits_eav p i c (omega (arith, some)) l m) ∙ t);
          byte = λ h out. ltb-true c 256 (sym (fits_byte p i c h (past out)) ∙ t);
        }

    kind_fits : Kind (streams p) i c → fits p i c ≡ true
    kind_fits k =
        on_test (ltb i 2)
        (λ u. let h = ltb-true i 2 u in fits_sav p i c h ∙ eq-eqb c (number_of K28_5) (k.sav h))
        (λ u.
        let h = ltb-false i 2 u in
        on_test (within (eav_at p) (eav_at p + 1) i)
        (λ v.
        let l = from_low (eav_at p) (eav_at p + 1) i v in
        let m = to_high (eav_at p) (eav_at p + 1) i v in
        fits_eav p i c h l m ∙ eq-eqb c (number_of K29_7) (k.eav l m))
        (λ v.
        let out = outside (eav_at p) (eav_at p + 1) i v in
        fits_byte p i c h (past out) ∙ lt-ltb c 256 (k.byte h out)))

    kind_below : Kind (streams p) i c → c < characters
    kind_below k =
        on_test (ltb i 2)
        (λ u. omega (arith, k.sav (ltb-true i 2 u)))
        (λ u.
        on_test (within (eav_at p) (eav_at p + 1) i)
        (λ v. omega (arith, k.eav (from_low (eav_at p) (eav_at p + 1) i v) (to_high (eav_at p) (eav_at p + 1) i v)))
        (λ v. omega (arith, k.byte (ltb-false i 2 u) (outside (eav_at p) (eav_at p + 1) i v))))

  -- ---- the symbols up to symbol k
  module _ (w : List ℕ) (k : ℕ) where
    -- where the test holds at all of them: the characters that they stand for
    module _ (h : k < length w) (all : (i : ℕ) → i ≤ k → holds20 p w i ≡ true) where
      abbrev stood : List ℕ
      stood = table (k + 1) (λ i. meant (symbol_at w i))

      stood_at : (i : ℕ) → i ≤ k → get_or stood i 0 ≡ meant (symbol_at w i)
      stood_at i l = get_d_table (k + 1) (λ i. meant (symbol_at w i)) i 0 (omega arith)

      length_stood : length stood ≡ k + 1
      length_stood = length_table (k + 1) (λ i. meant (symbol_at w i))

      running : (i : ℕ) → i ≤ k → running_at w i ≡ after_run (start_of w) (take i stood)
      running i l =
          running_chars w stood (λ j m. sym (stood_at j (omega (arith, length_stood)))) i (omega (arith, length_stood))

      symbol_stood : (i : ℕ) → i ≤ k → symbol_at w i ≡ get_or (symbols_from (start_of w) stood) i 0
      symbol_stood i l =
          sym (encode_decode (running_at w i) (symbol_at w i) (meant (symbol_at w i)) (legal_told p w i (all i l)))
          ∙ rw (running i l, ← (stood_at i l)) (sym (symbol_at_lem (start_of w) stood i (omega (arith, length_stood))))

      scanned : Rule20 (streams p) w k
      scanned =
          let short : length (take (k + 1) w) ≡ k + 1 = length-take-le (k + 1) w (omega arith) in
          record {
            before = start_of w;
            chars = stood;
            long = length_stood;
            kinds = λ i l. rw (stood_at i l) (kind_told i (meant (symbol_at w i)) (fits_told p w i (all i l)));
            symbols =
                ext_get_or 0 (take (k + 1) w) (symbols_from (start_of w) stood)
                (short ∙ sym (length_symbols (start_of w) stood ∙ length_stood))
                (λ i l. let b : i ≤ k = omega (arith, short) in get_or-take (k + 1) w i 0 (omega arith) ∙ symbol_stood i b);
          }

    -- where the rule is met, the test holds at each of them
    module _ (r : Rule20 (streams p) w k) where
      symbol_is : (i : ℕ) → i ≤ k → symbol_at w i ≡ symbol_of (after_run r.before (take i r.chars)) (get_or r.chars i 0)
      symbol_is i l =
          sym (get_or-take (k + 1) w i 0 (omega arith))
          ∙ ap (λ (x : List ℕ). get_or x i 0) r.symbols
          ∙ symbol_at_lem r.before r.chars i (omega (arith, r.long))

      small : (i : ℕ) → i ≤ k → get_or r.chars i 0 < characters
      small i l = kind_below i (get_or r.chars i 0) (r.kinds i l)

      stands : (i : ℕ) → i < length r.chars → meant (symbol_at w i) ≡ get_or r.chars i 0
      stands i l =
          let b : i ≤ k = omega (arith, r.long) in
          ap meant (symbol_is i b) ∙ meant_of (after_run r.before (take i r.chars)) (get_or r.chars i 0) (small i b)

      start : start_of w ≡ r.before
      unfolding after_run
      start =
          starts r.before w
          (symbol_is 0 (omega arith) ∙ ap (symbol_of r.before) ((r.kinds 0 (omega arith)).sav (omega arith)))

      pub holds_before : (i : ℕ) → i ≤ k → holds20 p w i ≡ true
      holds_before i l =
          let run : running_at w i ≡ after_run r.before (take i r.chars) =
          running_chars w r.chars stands i (omega (arith, r.long)) ∙ ap (λ (d : Disparity). after_run d (take i r.chars)) start in
          is_legal p w i (get_or r.chars i 0) (small i l)
          (symbol_is i l ∙ ap (λ (d : Disparity). symbol_of d (get_or r.chars i 0)) (sym run))
          (kind_fits i (get_or r.chars i 0) (r.kinds i l))

      -- there are so many symbols
      long_enough : k < length w
      long_enough =
          omega (arith, sym (length-take (k + 1) w) ∙ ap length r.symbols ∙ length_symbols r.before r.chars ∙ r.long)

  -- the test at symbol k, where it holds before it
  pub says_20 : (w : List ℕ) (k : ℕ) → k < length w → ((i : ℕ) → i < k → holds20 p w i ≡ true)
      → Reflects (holds20 p w k) (Rule20 (streams p) w k)
  says_20 w k h before =
      record {
        told = λ t. scanned w k h (λ i l. ⊎_elim (λ e. rw e t) (λ b. before i b) (eq-or-lt_of_le l));
        holds = λ r. holds_before w k r k (omega arith);
      }

  -- what is met at a symbol is met at those before it
  pub rule_before : (w : List ℕ) (i k : ℕ) → i ≤ k → Rule20 (streams p) w k → Rule20 (streams p) w i
  rule_before w i k h r =
      scanned w i (let l = long_enough w k r in omega arith) (λ j l. holds_before w k r j (omega arith))
