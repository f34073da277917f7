-- What a call has to give, and what it makes of it.
-- Assumes nothing.
use mathlib.Core.Path.{◌≡◌, sym, ap, ◌∙◌}
use mathlib.Core.Bool.{Bool, true, false, cond, ◌&&◌}
use mathlib.Core.List.{List}
use Prim.Native.Nat.{ℕ, ◌≤◌}
use lib.Dec.{eqb, leb}
use lib.ListN.{length, replicate}
use borrow.Author.Tests.{le-leb, eq-eqb, leb-true, eqb-true}
use Rattle.ground.proofs.Cases.{on_test}
use Rattle.ground.proofs.Tests.{both_left, both_right}
use Rattle.recording.specs.Recording.{delivery_from}
use Rattle.reception.specs.Link.{link}
use Rattle.reception.specs.Receiving.{heard_from, shown_from, receivable, heard_by, shown_by}

module _ (first symbols heard picture : ℕ) where
  pub record Ready : Type 0 where
    pub line : first ≤ 1121
    pub short : symbols ≤ 95040
    pub flags : heard ≡ 5
    pub rows : picture ≡ 38400

  pub ready_told : receivable first symbols heard picture ≡ true → Ready
  ready_told t =
      let rooms = eqb heard 5 && eqb picture 38400 in
      let behind = both_right (leb first 1121) (leb symbols 95040 && rooms) t in
      let both = both_right (leb symbols 95040) rooms behind in
      record {
        line = leb-true first 1121 (both_left (leb first 1121) (leb symbols 95040 && rooms) t);
        short = leb-true symbols 95040 (both_left (leb symbols 95040) rooms behind);
        flags = eqb-true heard 5 (both_left (eqb heard 5) (eqb picture 38400) both);
        rows = eqb-true picture 38400 (both_right (eqb heard 5) (eqb picture 38400) both);
      }

  pub is_ready : Ready → receivable first symbols heard picture ≡ true
  is_ready r = simp (le-leb first 1121 r.line, le-leb symbols 95040 r.short, eq-eqb heard 5 r.flags, eq-eqb picture 38400 r.rows)

  pub not_ready : (first ≤ 1121 → symbols ≤ 95040 → heard ≡ 5 → picture ≡ 38400 → ⊥) → receivable first symbols heard picture ≡ false
  not_ready x =
      on_test (receivable first symbols heard picture)
      (λ t. let r = ready_told t in absurd (x r.line r.short r.flags r.rows))
      (λ t. t)

-- the call, where it was ready and where it was not
module _ (first : ℕ) (symbols heard picture : List ℕ) where
  abbrev was_ready : Bool
  was_ready = receivable first (length symbols) (length heard) (length picture)

  abbrev Made : Bool → List ℕ → List ℕ → Type 0
  Made r heardExit pictureExit =
      (r ≡ was_ready) × ((heardExit ≡ cond was_ready (heard_by first symbols) heard) × (pictureExit ≡ cond was_ready (shown_by first symbols) picture))

  pub made : {noFlags black heardExit pictureExit : List ℕ} → was_ready ≡ true
      → noFlags ≡ replicate (length heard) 0 → black ≡ replicate (length picture) 0
      → heardExit ≡ heard_from first noFlags (delivery_from link symbols 0)
      → pictureExit ≡ shown_from first black (delivery_from link symbols 0)
      → Made true heardExit pictureExit
  made t clear dark h p =
      let r = ready_told first (length symbols) (length heard) (length picture) t in
      let flags = clear ∙ ap (λ (n : ℕ). replicate n 0) r.flags in
      let rows = dark ∙ ap (λ (n : ℕ). replicate n 0) r.rows in (
        sym t,
        (
          h ∙ ap (λ (l : List ℕ). heard_from first l (delivery_from link symbols 0)) flags ∙ simp t,
          p ∙ ap (λ (l : List ℕ). shown_from first l (delivery_from link symbols 0)) rows ∙ simp t,
        ),
      )
