-- `test_picture::samples::put_picture` meets its contract: after i iterations the images of i rows are there.
-- Assumes nothing.
use mathlib.Core.Path.{◌≡◌, refl, sym, ap, ap₂, ◌∙◌}
use mathlib.Core.Bool.{Bool, true, false, cond, true≢false}
use mathlib.Core.List.{List, ◌++◌}
use Prim.Native.Nat.{ℕ, zero, suc, ◌*◌, ◌-◌, ◌≤◌, ◌<◌}
use native.Mathlib.Omega.{arith}
use borrow.Author.Rules.{rules}
use lib.Seq.{sets}
use Rattle.ground.specs.Written.{upto}
use Rattle.ground.proofs.Cases.{on_test}
use Rattle.line.specs.Stream.{is_active}
use Rattle.picture.specs.Choice.{row_on}
use Rattle.dividing.specs.Row.{divided}
use Rattle.span.specs.declared.format.Shape.{Shape}
use Rattle.span.specs.Format.{shape_of, streams}
use Rattle.span.proofs.Formats.{small}
use Rattle.test_picture.specs.TestPicture.{code_step, row_in_steps, test_samples}
use Rattle.test_picture.proofs.Images.{carried, none_carried, row_carried, all_carried, row_active, row_line, row_blanking, are_carried}
use Rattle.test_picture.proofs.samples.put_picture.Goals as goal

-- nothing was put where the line is not active
unchanged :
    (n i step l : ℕ) (o made : List ℕ) {now : List ℕ}
    → is_active n ≡ false → (1 ≤ i → is_active n ≡ true) → now ≡ sets o 0 (upto (2 * i) (carried step l)) → now ≡ row_on n made o
unfolding upto
unchanged n zero step l o made t some put = put ∙ ap (λ (b : Bool). cond b made o) (sym t)
unchanged n (suc i) step l o made t some put = absurd (true≢false (sym (some (omega arith)) ∙ t))

pub loop-i-init : goal.loop-i-init
loop-i-init c =
    let a = c.args in
    (omega arith, refl, none_carried c.step_of-step.result (a.l.0 - 41) a.samples.now, λ h. absurd (omega arith))

pub overflow_cast-i : goal.overflow_cast-i
overflow_cast-i c =
    omega (arith, (small c.args.f c.shape_of-rows.ensures).half)

pub returns-in_default : goal.returns-in_default
returns-in_default c =
    let v = c.loop-i in
    let n = c.args.l.0 in
    let few : v.i < 2 = omega (arith, (small c.args.f c.shape_of-rows.ensures).half) in
    let blank = row_blanking n v.i few c.picture_line_on.result c.picture_line_on.ensures c.in_default.is in
    unchanged n v.i c.step_of-step.result (n - 41) c.args.samples.now (test_samples c.args.f n) blank v.invariant.3 v.invariant.2

pub loop-i-preserved : goal.loop-i-preserved
loop-i-preserved c =
    let v = c.loop-i in
    let n = c.args.l.0 in
    let step = c.step_of-step.result in
    let o = c.args.samples.now in
    let few : v.i < 2 = omega (arith, (small c.args.f c.shape_of-rows.ensures).half) in
    let r = c.picture_line_on.result in
    let is = row_line n v.i few r c.picture_line_on.ensures c.in-Some.is in
    let put : List ℕ → ℕ → List ℕ = λ s m. sets s (3840 * v.i) (divided 0 1920 (row_in_steps step m) ++ divided 1 1920 (row_in_steps step m)) in (
      omega arith,
      search rules,
      c.put_images.ensures ∙ ap₂ put v.invariant.2 is ∙ row_carried step (n - 41) o v.i,
      λ h. row_active n v.i few r c.picture_line_on.ensures c.in-Some.is,
    )

pub returns : goal.returns
returns c =
    let v = c.loop-i in
    let f = c.args.f in
    let n = c.args.l.0 in
    let o = c.args.samples.now in
    let s = streams (shape_of f) in
    let step = c.step_of-step.result in
    let end : 2 * v.i ≡ s = omega (arith, ap (λ (p : Shape). p.stream_pairs) c.shape_of-rows.ensures) in
    on_test (is_active n)
    (λ active.
    v.invariant.2
    ∙ ap (λ (m : ℕ). sets o 0 (upto m (carried step (n - 41)))) end
    ∙ ap (λ (t : ℕ). sets o 0 (upto s (carried t (n - 41)))) c.step_of-step.ensures
    ∙ all_carried (code_step f) (n - 41) o s (omega (arith, c.requires.samples_len))
    ∙ are_carried f n active
    ∙ ap (λ (b : Bool). cond b (test_samples f n) o) (sym active))
    (λ t. unchanged n v.i step (n - 41) o (test_samples f n) t v.invariant.3 v.invariant.2)
