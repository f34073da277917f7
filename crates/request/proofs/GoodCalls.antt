-- Accepted calls are sent, and no others, in document 01's own numbers.
-- Assumes nothing.
use mathlib.Core.Path.{◌≡◌, refl, sym, subst, ◌∙◌}
use mathlib.Core.Bool.{Bool, true, false}
use mathlib.Core.List.{List}
use mathlib.Core.Logic.{⊎_elim}
use Prim.Native.Nat.{ℕ, ◌≤◌, ◌<◌}
use native.Mathlib.Omega.{arith}
use lib.Dec.{eqb, ltb}
use lib.ListN.{length, get_or}
use borrow.Author.Tests.{eqb-true, eqb-false, eq-eqb, ne_eqb, not-false, ltb-true, ltb-false}
use Rattle.ground.specs.Answer.{Answer, refused, given}
use Rattle.ground.specs.Range.{within}
use Rattle.ground.proofs.Cases.{on_test}
use Rattle.ground.proofs.Ranges.{is_within, not_within, from_low, to_high, outside}
use Rattle.ground.proofs.Writing.{length_table, get_d_table}
use Rattle.line.specs.Stream.{is_line, is_active}
use Rattle.picture.specs.Choice.{row_on}
use Rattle.symbol.specs.declared.disparity.Disparity.{Disparity}
use Rattle.span.specs.Content.{Content}
use Rattle.span.specs.declared.format.Format.{Format}
use Rattle.span.specs.Blanking.{blank_row}
use Rattle.span.specs.Format.{is_known, shape_of, samples_in, symbols_in}
use Rattle.span.specs.Inside.Sample.{bounds_of}
use Rattle.span.specs.Numbers.{Samples}
use Rattle.span.specs.Sample.{blank_word}
use Rattle.span.specs.Span.{span_after}
use Rattle.span.specs.Stream.{Request}
use Rattle.span.proofs.Formats.{is_known_lem, known_told}
use Rattle.span.proofs.Numbers.{symbols_are, samples_are, symbols_told, samples_told, blank_told, blank_is}
use Rattle.request.specs.Laws.{GoodCall, chosen_request}
use Rattle.request.specs.Send.{send_of}
use Rattle.request.specs.Inside.Check.{first_outside}
use Rattle.request.specs.Inside.Send.{Accepted}
use Rattle.request.proofs.Checking.{outside_never}
use Rattle.request.proofs.Refusals.{forbidden_is, send_meets_1, send_meets_2, send_meets_3, send_meets_4, send_meets_6, sends, is_good}

-- the bounds of a line, in those numbers
module _ (f : Format) (n x : ℕ) where
  abbrev in_bounds : Bool
  in_bounds = within (bounds_of f n).low (bounds_of f n).high x

  at_ten : f.depth ≡ 10 → is_active n ≡ true → in_bounds ≡ within 4 1019 x
  at_ten e active = simp (active, eq-eqb f.depth 10 e)

  at_twelve : f.depth ≡ 12 → is_active n ≡ true → in_bounds ≡ within 16 4079 x
  at_twelve e active =
      let other : f.depth ≡ 10 → ⊥ = λ ten. omega arith in
      simp (active, ne_eqb f.depth 10 other)

  in_blanking : is_active n ≡ false → in_bounds ≡ within (blank_word f) (blank_word f) x
  in_blanking t = simp t

-- an answer that is given is no refusal
not_refused : {A : Type 0} {r : Answer A} {e : A} {number place : ℕ} → r ≡ given e → r ≡ refused number place → ⊥
not_refused g x = let z : ◌≡◌ {A = ℕ} 0 1 = cc in omega arith

module _ (d : Disparity) (f : Format) (a : Request) (room : ℕ) where
  abbrev inside : ℕ → Type 0
  inside i = in_bounds f a.line (get_or a.samples i 0) ≡ true

  each_inside : GoodCall f a.line a.samples room → (i : ℕ) → i < length a.samples → inside i
  each_inside g i h =
      let n = a.line in
      let x = get_or a.samples i 0 in
      on_test (is_active n)
      (λ t.
      let p = from_low 42 1121 n t in
      let q = to_high 42 1121 n t in
      ⊎_elim
      (λ e. let b = g.ten e p q i h in at_ten f n x e t ∙ is_within 4 1019 x b.0 b.1)
      (λ e. let b = g.twelve e p q i h in at_twelve f n x e t ∙ is_within 16 4079 x b.0 b.1)
      g.format.bits)
      (λ t.
      let e : x ≡ blank_word f = blank_is f g.format x (g.blanking (outside 42 1121 n t) i h) in
      in_blanking f n x t ∙ is_within (blank_word f) (blank_word f) x (omega arith) (omega arith))

  -- a good call is sent
  pub good_is_sent : GoodCall f a.line a.samples room → send_of d f a room ≡ given (span_after d f a)
  good_is_sent g =
      sends d f a room
      (is_known_lem f g.format)
      (is_within 1 1125 a.line g.first g.last)
      (samples_are f (length a.samples) g.samples)
      (symbols_are f room g.symbols)
      (length a.samples)
      (sym (outside_never _ _ _ (each_inside g)))
      (omega arith)

  -- what is sent, told by the refusals that it did not meet
  module _ (e : Disparity) (sent : send_of d f a room ≡ given e) where
    never : {number place : ℕ} → send_of d f a room ≡ refused number place → ⊥
    never x = not_refused sent x

    known : is_known f ≡ true
    known = on_test (is_known f) (λ t. t) (λ t. absurd (never (send_meets_1 d f a room t)))

    line : is_line a.line ≡ true
    line = on_test (is_line a.line) (λ t. t) (λ t. absurd (never (send_meets_2 d f a room known t)))

    samples : length a.samples ≡ samples_in (shape_of f)
    samples =
        on_test (eqb (length a.samples) (samples_in (shape_of f)))
        (eqb-true _ _)
        (λ t. absurd (never (send_meets_3 d f a room known line (eqb-false _ _ t))))

    symbols : room ≡ symbols_in (shape_of f)
    symbols =
        on_test (eqb room (symbols_in (shape_of f)))
        (eqb-true _ _)
        (λ t. absurd (never (send_meets_4 d f a room known line samples (eqb-false _ _ t))))

    good : Accepted f a
    good =
        let w = first_outside (bounds_of f a.line).low (bounds_of f a.line).high a.samples in
        on_test (ltb w (length a.samples))
        (λ t. absurd (never (send_meets_6 d f a room known line samples symbols w refl (ltb-true _ _ t))))
        (λ t. is_good d f a room known line samples symbols w refl (ltb-false _ _ t))

    was_inside : (i : ℕ) → i < length a.samples → inside i
    was_inside i h = not-false _ (sym (forbidden_is f a known i) ∙ good.allowed i h)

    -- so it was a good call
    pub sent_is_good : GoodCall f a.line a.samples room
    sent_is_good =
        let k = known_told f known in
        let n = a.line in record {
          format = k;
          samples = samples_told f (length a.samples) k samples;
          symbols = symbols_told f room k symbols;
          first = from_low 1 1125 n line;
          last = to_high 1 1125 n line;
          ten = λ e p q i h.
              let t = sym (at_ten f n _ e (is_within 42 1121 n p q)) ∙ was_inside i h in
              (from_low 4 1019 _ t, to_high 4 1019 _ t);
          twelve = λ e p q i h.
              let t = sym (at_twelve f n _ e (is_within 42 1121 n p q)) ∙ was_inside i h in
              (from_low 16 4079 _ t, to_high 16 4079 _ t);
          blanking = λ x i h.
              let t = sym (in_blanking f n _ (not_within 42 1121 n x)) ∙ was_inside i h in
              blank_told f k _ (omega (arith, from_low (blank_word f) (blank_word f) _ t, to_high (blank_word f) (blank_word f) _ t));
        }

-- ---- the row that the choice gives

module _ (d : Disparity) (f : Format) (content : Content) (picture : List ℕ) (room active n : ℕ) (p : 42 ≤ active) (q : active ≤ 1121)
    (g : GoodCall f active picture room) (low : 1 ≤ n) (high : n ≤ 1125) where
  -- it is as long as the picture row
  blank_long : length (blank_row f) ≡ length picture
  blank_long = length_table (samples_in (shape_of f)) (λ i. blank_word f) ∙ sym (samples_are f (length picture) g.samples)

  -- it is a good call in either case
  chosen_good : GoodCall f n (row_on n picture (blank_row f)) room
  chosen_good =
      on_test (is_active n)
      (λ t.
      let is : row_on n picture (blank_row f) ≡ picture = simp t in
      subst (λ (row : List ℕ). GoodCall f n row room) (sym is)
      (record {
        format = g.format;
        samples = g.samples;
        symbols = g.symbols;
        first = low;
        last = high;
        ten = λ e a b i h. g.ten e p q i h;
        twelve = λ e a b i h. g.twelve e p q i h;
        blanking = λ x i h. absurd (x (from_low 42 1121 n t) (to_high 42 1121 n t));
      }))
      (λ t.
      let is : row_on n picture (blank_row f) ≡ blank_row f = simp t in
      subst (λ (row : List ℕ). GoodCall f n row room) (sym is)
      (record {
        format = g.format;
        samples = subst (Samples f) (sym blank_long) g.samples;
        symbols = g.symbols;
        first = low;
        last = high;
        ten = λ e a b i h. absurd (outside 42 1121 n t a b);
        twelve = λ e a b i h. absurd (outside 42 1121 n t a b);
        blanking = λ x i h.
            blank_told f g.format _
            (get_d_table (samples_in (shape_of f)) (λ k. blank_word f) i 0 (omega (arith, length_table (samples_in (shape_of f)) (λ k. blank_word f))));
      }))

  pub chosen_is_sent : send_of d f (chosen_request f content picture n) room ≡ given (span_after d f (chosen_request f content picture n))
  chosen_is_sent = good_is_sent d f (chosen_request f content picture n) room chosen_good
