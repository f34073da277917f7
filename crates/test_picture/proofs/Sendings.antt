-- The samples of the test picture may be sent, on every line of a stream.
-- Assumes nothing.
use mathlib.Core.Path.{◌≡◌, refl, sym, ap, subst, ◌∙◌}
use mathlib.Core.Bool.{Bool, true, false, cond}
use mathlib.Core.List.{List}
use Prim.Native.Nat.{ℕ, ◌+◌, ◌*◌, ◌/◌, ◌%◌, ◌<◌}
use native.Mathlib.Omega.{arith}
use lib.Dec.{eqb}
use lib.ListN.{length, get_or}
use Rattle.ground.specs.Answer.{given}
use Rattle.ground.specs.Range.{within}
use Rattle.ground.proofs.Cases.{on_test}
use Rattle.ground.proofs.Ranges.{is_within}
use Rattle.ground.proofs.Writing.{length_table, get_d_table}
use Rattle.line.specs.Stream.{is_line, is_active}
use Rattle.picture.specs.Choice.{row_on}
use Rattle.symbol.specs.declared.disparity.Disparity.{Disparity}
use Rattle.span.specs.Content.{Content}
use Rattle.span.specs.declared.format.Format.{Format}
use Rattle.span.specs.Format.{is_known, shape_of, samples_in, symbols_in}
use Rattle.span.specs.Sample.{blank_word}
use Rattle.span.specs.Span.{span_after}
use Rattle.request.specs.Send.{request, send_of}
use Rattle.request.proofs.Checking.{outside_never}
use Rattle.request.proofs.Refusals.{sends}
use Rattle.span.specs.Blanking.{blank_row}
use Rattle.span.specs.Inside.Sample.{bounds_of}
use Rattle.test_picture.specs.TestPicture.{code_step, sample_by, test_samples}
use Rattle.test_picture.proofs.Codes.{code_low, code_high}
use Rattle.test_picture.proofs.Images.{picture_long, sample_at}

module _ (f : Format) (n : ℕ) where
  -- a number that the line may carry
  abbrev Inside : ℕ → Type 0
  Inside x = within (bounds_of f n).low (bounds_of f n).high x ≡ true

  pub are_blanking : is_active n ≡ false → test_samples f n ≡ blank_row f
  unfolding test_samples
  are_blanking t = simp t

  -- a code at the depth of the format
  code_inside : is_active n ≡ true → (line sample : ℕ) → Inside (sample_by (code_step f) line sample)
  code_inside active line sample =
      let low = code_low line sample in
      let high = code_high line sample in
      on_test (eqb f.depth 10)
      (λ ten. simp (active, ten) (is_within 4 1019 _ (omega arith) (omega arith)))
      (λ twelve. simp (active, twelve) (is_within 16 4079 _ (omega arith) (omega arith)))

  -- as many samples as a span has
  pub samples_long : length (test_samples f n) ≡ samples_in (shape_of f)
  samples_long =
      on_test (is_active n) (picture_long f n)
      (λ t. rw (are_blanking t) (length_table (samples_in (shape_of f)) (λ i. blank_word f)))

  pub each_inside : (i : ℕ) → i < length (test_samples f n) → Inside (get_or (test_samples f n) i 0)
  each_inside i h =
      on_test (is_active n)
      (λ active.
      let t = i / 1920 in
      let j = i % 1920 in
      let place : 1920 * t + j ≡ i = omega arith in
      let few : t < 2 * (shape_of f).stream_pairs = omega (arith, samples_long) in
      let is = sample_at f n active t j few (omega arith) in
      subst (λ (k : ℕ). Inside (get_or (test_samples f n) k 0)) place (subst Inside (sym is) (code_inside active _ _)))
      (λ t.
      let inside : i < samples_in (shape_of f) = omega (arith, samples_long) in
      rw (are_blanking t, get_d_table (samples_in (shape_of f)) (λ k. blank_word f) i 0 inside)
      (simp t (is_within (blank_word f) (blank_word f) (blank_word f) (omega arith) (omega arith))))

  -- so a call with them is refused nothing
  pub is_sent :
      (d : Disparity) (content : Content)
      → is_known f ≡ true → is_line n ≡ true
      → send_of d f (request n content (test_samples f n)) (symbols_in (shape_of f)) ≡ given (span_after d f (request n content (test_samples f n)))
  is_sent d content known line =
      sends d f (request n content (test_samples f n)) (symbols_in (shape_of f)) known line samples_long refl (length (test_samples f n))
      (sym (outside_never _ _ _ each_inside)) (omega arith)

-- the row that the choice gives of the picture's row, which is only there on an active line, and a blanking row
pub is_chosen :
    (f : Format) (n : ℕ) {R : Type 0} (now : R → List ℕ) (shown blanking : R) {row : R} (old : List ℕ)
    → row ≡ row_on n shown blanking → now shown ≡ row_on n (test_samples f n) old → now blanking ≡ blank_row f → now row ≡ test_samples f n
is_chosen f n {R} now shown blanking old e p q =
    on_test (is_active n)
    (λ t. ap now (e ∙ ap (λ (b : Bool). cond b shown blanking) t) ∙ p ∙ ap (λ (b : Bool). cond b (test_samples f n) old) t)
    (λ t. ap now (e ∙ ap (λ (b : Bool). cond b shown blanking) t) ∙ q ∙ sym (are_blanking f n t))
