-- `read::picture::judge_picture` meets its contract.
-- Assumes nothing.
use mathlib.Core.Path.{sym, ap₂, ◌∙◌}
use mathlib.Core.List.{List}
use Prim.Native.Nat.{ℕ}
use Rattle.read.specs.Inside.Picture.{right_picture}
use Rattle.read.proofs.Picturing.{both_hold, fill_fails, picture_fails}
use Rattle.read.proofs.picture.judge_picture.Goals as goal

pub returns-then-filled : goal.returns-then-filled
returns-then-filled c =
    let a = c.args in
    let right =
    sym (ap₂ (λ (n : ℕ) (l : List ℕ). right_picture a.f n l) c.requires.line_value c.requires.rows_value)
    ∙ sym c.picture_is_right.ensures ∙ c.if-picture_is_right.true in
    both_hold a.f a.symbols.now c.requires.window right (sym c.requires.filled_value ∙ c.if-filled.true)

pub returns-then-picture_is_right : goal.returns-then-picture_is_right
returns-then-picture_is_right c =
    let a = c.args in
    let right =
    sym (ap₂ (λ (n : ℕ) (l : List ℕ). right_picture a.f n l) c.requires.line_value c.requires.rows_value)
    ∙ sym c.picture_is_right.ensures ∙ c.if-picture_is_right.true in
    fill_fails a.f a.symbols.now c.requires.window right c.verdict_at.ensures

pub returns : goal.returns
returns c =
    let a = c.args in
    let right =
    sym (ap₂ (λ (n : ℕ) (l : List ℕ). right_picture a.f n l) c.requires.line_value c.requires.rows_value)
    ∙ sym c.picture_is_right.ensures ∙ c.if-picture_is_right.false in
    picture_fails a.f a.symbols.now c.requires.window right c.verdict_at-2.ensures
