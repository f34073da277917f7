-- What is read at one place of a recording.
-- Assumes nothing.
use mathlib.Core.Path.{◌≡◌, refl, sym, ap, ◌∙◌}
use mathlib.Core.Bool.{true, false}
use mathlib.Core.List.{List}
use mathlib.Core.Option.{Option, none, some}
use Prim.Native.Nat.{ℕ, ◌+◌, ◌-◌, ◌≤◌}
use native.Mathlib.Omega.{arith}
use lib.ListN.{length, take, drop, length-take, length-drop}
use Rattle.ground.specs.Answer.{Answer, refused, given}
use Rattle.ground.specs.Search.{is_some}
use Rattle.span.specs.declared.format.Format.{Format}
use Rattle.span.specs.Format.{is_known, shape_of, samples_in, symbols_in}
use Rattle.window.specs.declared.delivery.Delivery.{Delivery}
use Rattle.window.specs.Read.{picture_of, read_span, read_of}
use Rattle.window.proofs.Windows.{read_is}
use Rattle.read.specs.Inside.Accept.{delivered_in, rows_accepted}
use Rattle.recording.specs.Call.{spanned, words_or}
use Rattle.recording.specs.Recording.{Reading, reading}
use Rattle.recording.specs.Inside.Look.{begins_at}
use Rattle.recording.proofs.Looking.{no_begin}
use Rattle.recording.proofs.Readings.{is_read, not_read, accepted_begins}
use Rattle.finding.specs.Inside.Seek.{read_at}

module _ (f : Format) (r : List ℕ) (q : ℕ) (known : is_known f ≡ true) where
  abbrev n : ℕ
  n = symbols_in (shape_of f)

  -- nothing where K28.5 does not stand twice
  pub unbegun : (rows : List ℕ) → begins_at r q ≡ false → (none ≡ spanned (read_at f r q)) × (rows ≡ words_or rows (read_at f r q))
  unbegun rows e = go (reading f (take n (drop q r))) refl
    where
      go : (o : Option Reading) → reading f (take n (drop q r)) ≡ o → (none ≡ spanned (read_at f r q)) × (rows ≡ words_or rows (read_at f r q))
      go none x = (rw x, rw x)
      go (some y) x = absurd (no_begin r n e (accepted_begins f known r q (ap is_some x)))

  -- the n symbols from q on, as the code takes them out
  module _ {m room : ℕ} (is : m ≡ n) (inside : q + m ≤ length r) (enough : room ≡ samples_in (shape_of f)) where
    abbrev w : List ℕ
    w = take (q + m - q) (drop q r)

    window : w ≡ take n (drop q r)
    window = let e : q + m - q ≡ n = omega arith in ap (λ (k : ℕ). take k (drop q r)) e

    long : length w ≡ n
    long = omega (arith, length-take (q + m - q) (drop q r), length-drop q r)

    answer : read_of f w room ≡ read_span f w
    answer = read_is f w (record { known = known; long = long }) room enough

    -- a window that is refused
    pub refuse : (rows : List ℕ) → none ≡ delivered_in (read_of f w room)
        → (none ≡ spanned (read_at f r q)) × (rows ≡ words_or rows (read_at f r q))
    refuse rows e = go (read_of f w room) refl e
      where
        go : (a : Answer Delivery) → read_of f w room ≡ a → none ≡ delivered_in a
            → (none ≡ spanned (read_at f r q)) × (rows ≡ words_or rows (read_at f r q))
        go (refused number place) x e =
            let here : reading f (take n (drop q r)) ≡ none = ap (reading f) (sym window) ∙ not_read f w long (sym answer ∙ x) in
            (rw here, rw here)
        go (given d) x e = let z : ◌≡◌ {A = ℕ} 0 1 = cc e in absurd (omega arith)

    -- one that is delivered
    pub deliver : {d : Delivery} (rows : List ℕ) → some d ≡ delivered_in (read_of f w room) → rows ≡ rows_accepted (read_of f w room) (picture_of f w) rows
        → (some (record { place = q; delivery = d }) ≡ spanned (read_at f r q)) × (rows ≡ words_or rows (read_at f r q))
    deliver {d} rows e there = go (read_of f w room) refl e there
      where
        go : (a : Answer Delivery) → read_of f w room ≡ a → some d ≡ delivered_in a → rows ≡ rows_accepted a (picture_of f w) rows
            → (some (record { place = q; delivery = d }) ≡ spanned (read_at f r q)) × (rows ≡ words_or rows (read_at f r q))
        go (refused number place) x e there = let z : ◌≡◌ {A = ℕ} 0 1 = cc e in absurd (omega arith)
        go (given c) x e there =
            let same : d ≡ c = cc e in
            let here : reading f (take n (drop q r)) ≡ some (record { values = c; words = picture_of f w }) =
            ap (reading f) (sym window) ∙ is_read f w long (sym answer ∙ x) in
            (rw (here, same), rw here there)
