-- What the single pass finds, and what is answered from it.
-- Assumes nothing.
use Rattle.std.specs.Prelude.{Option, None, Result, Ok, Err}
use Rattle.std.specs.Result.{result_ok}
use mathlib.Core.Path.{refl, ◌≡◌, sym, ap, subst, ◌∙◌}
use mathlib.Core.Bool.{Bool, true, false, true≢false}
use mathlib.Core.List.{List}
use Prim.Native.Nat.{ℕ}
use lib.Dec.{eqb}
use lib.ListN.{length, replicate}
use borrow.Author.Tests.{ne_eqb, eqb-true}
use Rattle.ground.proofs.Cases.{on_test}
use Rattle.span.specs.declared.format.Format.{Format}
use Rattle.span.specs.declared.format.Shape.{Shape}
use Rattle.span.specs.Format.{shape_of}
use Rattle.span.specs.Inside.Fit.{ready}
use Rattle.window.specs.Inside.Fill.{fill_right}
use Rattle.read_test20.specs.declared.whole.PassError.{PassError}
use Rattle.read_test20.specs.declared.whole.PassError.TheVariants.{Faulty, NotExamined as NoWindow}
use Rattle.read_test20.specs.declared.whole.Reached.{Reached}
use Rattle.read_test20.specs.declared.whole.TakeError.TheVariants.{Invalid}
use Rattle.read_test20.specs.declared.whole.Valid.{Valid}
use Rattle.read_test20.specs.Inside.Run.{ScanInv, place20}
use Rattle.read_test20.specs.Inside.Whole.{AllHold, PassedWindow, PassedIf, taken_if, rows_if, is_all_valid, whole_if, rows_whole}
use Rattle.read_test20.proofs.Kept.{all_right}

-- ---- a fault

-- what is asked of the fill: in haste that it is right
abbrev Asked : Shape → List ℕ → Bool → Type 0
Asked p w haste = haste ≡ true → fill_right p w ≡ true

pub is_faulty : {x y : Reached} (p : Shape) (w : List ℕ) (haste : Bool) (rows : List ℕ) → y ≡ x
    → (AllHold p w → Asked p w haste → ⊥) → ScanInv p w x.place x.mask → PassedWindow p w haste rows (Err y)
is_faulty p w haste rows e not-all scan = (not-all, rw e scan)

some_wrong : (p : Shape) (w : List ℕ) → (AllHold p w → Asked p w false → ⊥) → eqb (place20 p w) (length w) ≡ false
some_wrong p w not-all = ne_eqb (place20 p w) (length w) (λ e. not-all (all_right p w e) (λ z. absurd (true≢false (sym z))))

-- ---- a window of a known format is passed

abbrev pub as_passed : Result Valid Reached → Result Valid PassError
as_passed (Ok v) = Ok v
as_passed (Err x) = Err (Faulty x)

pub window_passed : (f : Format) (w : List ℕ) (haste : Bool) (entry rows : List ℕ) (o : Result Valid Reached) {r : Result Valid PassError}
    → ready f (length w) (length entry) ≡ true → PassedWindow (shape_of f) w haste rows o → r ≡ as_passed o → PassedIf f w haste entry rows r
window_passed f w haste entry rows (Ok v) fit h e = rw e (fit, h)
window_passed f w haste entry rows (Err x) fit h e = rw e (fit, h)

-- ---- what is answered

module _ (f : Format) (w entry rows : List ℕ) (o : Result Valid PassError) where
  abbrev p : Shape
  p = shape_of f

  -- with the place of a fault, and rows that are zero then
  module _ (passed : PassedIf f w false entry rows o) where
    abbrev by : Result Valid PassError → Type 0
    by o = PassedIf f w false entry rows o

    pub fault_taken : {x : Reached} {k : ℕ} → o ≡ Err (Faulty x) → k ≡ place20 p w → Err (Invalid k) ≡ taken_if f w entry
    fault_taken e place =
        let (fit, (not-all, scan)) = subst by e passed in
        rw (fit, some_wrong p w not-all) (ap (λ (k : ℕ). Err (Invalid k)) place)

    pub fault_rows : {x : Reached} {l : List ℕ} (n : ℕ) → o ≡ Err (Faulty x) → n ≡ length entry → l ≡ replicate n 0 → l ≡ rows_if f w entry
    fault_rows n e long zero =
        let (fit, (not-all, scan)) = subst by e passed in
        zero ∙ rw (fit, some_wrong p w not-all, long)

  -- without it, and in haste
  module _ (passed : PassedIf f w true entry rows o) where
    abbrev hastily : Result Valid PassError → Type 0
    hastily o = PassedIf f w true entry rows o

    abbrev Says : Option Valid → Type 0
    Says x = (x ≡ whole_if f w (length entry)) × (rows ≡ rows_whole f w (length entry) rows)

    not_whole : is_all_valid f w (length entry) ≡ false → Says None
    not_whole e = (rw e, rw e)

    fault_examined : {x : Reached} → o ≡ Err (Faulty x) → Says None
    fault_examined e =
        let (fit, (not-all, scan)) = subst hastily e passed in
        not_whole
        (on_test (eqb (place20 p w) (length w))
        (λ t.
        on_test (fill_right p w) (λ u. absurd (not-all (all_right p w (eqb-true (place20 p w) (length w) t)) (λ _. u))) (λ u. rw (fit, t, u)))
        (λ t. rw (fit, t)))

    nothing_examined : o ≡ Err NoWindow → Says None
    nothing_examined e = let (unfit, same) = subst hastily e passed in not_whole (rw unfit)

-- a fault, or what is not examined
pub refused_examined : (f : Format) (w entry rows : List ℕ) (o : Result Valid PassError) → PassedIf f w true entry rows o → result_ok o ≡ None
    → (None ≡ whole_if f w (length entry)) × (rows ≡ rows_whole f w (length entry) rows)
refused_examined f w entry rows (Ok v) h e = cc
refused_examined f w entry rows (Err (Faulty x)) h e = fault_examined f w entry rows _ h refl
refused_examined f w entry rows (Err NoWindow) h e = nothing_examined f w entry rows _ h refl
