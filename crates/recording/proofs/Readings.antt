-- What the reading of a window is, and where K28.5 stands in one that is read: twice at its beginning and nowhere else, so that no span
-- begins inside another.
-- Assumes nothing.
use mathlib.Core.Path.{◌≡◌, refl, sym, ap, ◌∙◌}
use mathlib.Core.Bool.{true, true≢false}
use mathlib.Core.List.{List}
use mathlib.Core.Option.{Option, none, some}
use Prim.Native.Nat.{ℕ, ◌+◌, ◌-◌, ◌≤◌, ◌<◌}
use native.Mathlib.Omega.{arith}
use lib.Dec.{eqb}
use lib.ListN.{length, get_or, take, drop}
use lib.Seq.{get_or-take, get_or-drop}
use borrow.Author.Tests.{eqb-true, eq-eqb}
use Rattle.ground.specs.Answer.{Answer, refused, given}
use Rattle.ground.specs.Search.{is_some}
use Rattle.ground.proofs.Cases.{on_test}
use Rattle.delivery.specs.Inside.Marked.{Whole, Marked}
use Rattle.symbol.specs.declared.disparity.Disparity.{Disparity}
use Rattle.symbol.specs.declared.disparity.Disparity.TheVariants.{Negative, Positive}
use Rattle.symbol.specs.declared.special.Special.TheVariants.{K28_5}
use Rattle.symbol.specs.Character.{number_of}
use Rattle.symbol.specs.Code.{symbol_of}
use Rattle.span.specs.declared.format.Format.{Format}
use Rattle.span.specs.Format.{is_known, shape_of, symbols_in}
use Rattle.span.proofs.Lengths.{known_has_streams}
use Rattle.window.specs.declared.delivery.Delivery.{Delivery}
use Rattle.window.specs.Read.{picture_of, read_span}
use Rattle.window.specs.Scan.{start_of, running_at}
use Rattle.window.proofs.Accepting.{Accepted, accepted_told}
use Rattle.window.proofs.Specials.{k28_5_at, only_k28_5}
use Rattle.recording.specs.Recording.{Reading, with_words, reading, accepts}
use Rattle.recording.specs.Inside.Look.{is_comma, MayBegin}

module _ (f : Format) (w : List ℕ) where
  -- what is read has a span's length, and `read_span` answers it
  pub record Told (x : Reading) : Type 0 where
    pub long : length w ≡ symbols_in (shape_of f)
    pub values : read_span f w ≡ given x.values
    pub words : x.words ≡ picture_of f w

  pub reading_told : (x : Reading) → reading f w ≡ some x → Told x
  unfolding reading
  reading_told x e =
      on_test (eqb (length w) (symbols_in (shape_of f)))
      (λ t. go (eqb-true (length w) (symbols_in (shape_of f)) t) (read_span f w) refl (rw t at e))
      (λ t. let z : ◌≡◌ {A = ℕ} 0 1 = cc (rw t at e) in absurd (omega arith))
    where
      go : length w ≡ symbols_in (shape_of f) → (a : Answer Delivery) → read_span f w ≡ a → with_words (read_span f w) (picture_of f w) ≡ some x
          → Told x
      go long (refused number place) is e = let z : ◌≡◌ {A = ℕ} 0 1 = cc (rw is at e) in absurd (omega arith)
      go long (given d) is e =
          let same : some (record { values = d; words = picture_of f w }) ≡ some x = rw is at e in
          let x-is : record { values = d; words = picture_of f w } ≡ x = cc same in
          record {
            long = long;
            values = is ∙ ap (λ (y : Reading). given y.values) x-is;
            words = sym (ap (λ (y : Reading). y.words) x-is);
          }

  module _ (long : length w ≡ symbols_in (shape_of f)) where
    -- and the other way round
    pub is_read : {d : Delivery} → read_span f w ≡ given d → reading f w ≡ some (record { values = d; words = picture_of f w })
    unfolding reading
    is_read e = simp (eq-eqb (length w) (symbols_in (shape_of f)) long, e)

    pub not_read : {number place : ℕ} → read_span f w ≡ refused number place → reading f w ≡ none
    unfolding reading
    not_read e = simp (eq-eqb (length w) (symbols_in (shape_of f)) long, e)

-- either form
form : (d : Disparity) → is_comma (symbol_of d (number_of K28_5)) ≡ true
unfolding is_comma symbol_of
form Negative = refl
form Positive = refl

-- it is one of the two
of_form : (s : ℕ) → is_comma s ≡ true → (d : Disparity) × (s ≡ symbol_of d (number_of K28_5))
unfolding is_comma
of_form s t =
    on_test (eqb s (symbol_of Negative (number_of K28_5))) (λ u. (Negative, eqb-true s (symbol_of Negative (number_of K28_5)) u))
    (λ u. (Positive, eqb-true s (symbol_of Positive (number_of K28_5)) (rw u at t)))

module _ (f : Format) (known : is_known f ≡ true) where
  abbrev n : ℕ
  n = symbols_in (shape_of f)

  -- longer than the two symbols at which it begins
  pub long : 3 ≤ n
  long = omega (arith, known_has_streams f known)

  module _ (w : List ℕ) (x : Reading) (e : reading f w ≡ some x) where
    acc : Accepted f w
    acc = accepted_told f w x.values (reading_told f w x e).values

    -- a window that is read begins with K28.5, and K28.5 again, and has it nowhere else
    first : is_comma (get_or w 0 0) ≡ true
    first = ap is_comma (k28_5_at f w known acc).0 ∙ form (start_of w)

    second : is_comma (get_or w 1 0) ≡ true
    second = ap is_comma (k28_5_at f w known acc).1 ∙ form (running_at w 1)

    only : (i : ℕ) → i < n → is_comma (get_or w i 0) ≡ true → i < 2
    only i h t = let (d, is) = of_form (get_or w i 0) t in only_k28_5 f w known acc i h d is

  pub span_whole : Whole n (reading f)
  span_whole = record { least = omega (arith, long); long = λ w x e. (reading_told f w x e).long }

  pub span_marked : Marked n (reading f) is_comma
  span_marked = record { three = omega (arith, long); whole = span_whole; first = first; second = second; only = only }

  -- the window at a place of a recording
  module _ (r : List ℕ) (q : ℕ) where
    abbrev window : List ℕ
    window = take n (drop q r)

    at : (i : ℕ) → i < n → get_or window i 0 ≡ get_or r (q + i) 0
    at i h = get_or-take n (drop q r) i 0 h ∙ get_or-drop q r i 0

    read_there : accepts f window ≡ true → (x : Reading) × (reading f window ≡ some x)
    read_there t = go (reading f window) refl
      where
        go : (o : Option Reading) → reading f window ≡ o → (x : Reading) × (reading f window ≡ some x)
        go none e = absurd (true≢false (sym t ∙ ap is_some e))
        go (some x) e = (x, e)

    -- so the search passes over no place where a span is read
    pub accepted_begins : accepts f window ≡ true → MayBegin n r q
    accepted_begins t =
        let (x, e) = read_there t in
        let here : q + 0 ≡ q = omega arith in
        let one = sym (ap is_comma (at 0 (omega (arith, long)))) ∙ first window x e in
        record {
          first = rw here at one;
          second = sym (ap is_comma (at 1 (omega (arith, long)))) ∙ second window x e;
          only = λ j h l.
              on_test (is_comma (get_or r j 0))
              (λ u.
              let place : q + (j - q) ≡ j = omega arith in
              let early = only window x e (j - q) (omega arith) (ap is_comma (at (j - q) (omega arith)) ∙ rw place u) in
              absurd (omega arith))
              (λ u. u);
        }
