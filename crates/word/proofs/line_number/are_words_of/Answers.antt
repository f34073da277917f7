-- `word::line_number::are_words_of` meets its contract: the tests say which case of the definition holds.
-- Assumes nothing.
use mathlib.Core.Path.{◌≡◌, sym, ap, ◌∙◌}
use mathlib.Core.Bool.{true, false}
use borrow.Author.Tests.{eq-eqb, ne_eqb}
use Rattle.line.specs.Stream.{is_line}
use Rattle.word.specs.declared.line_number.LineWords.{LineWords}
use Rattle.word.specs.LineNumber.{ln0, ln1}
use Rattle.word.proofs.line_number.are_words_of.Goals as goal

pub returns-then-sent-ln0 : goal.returns-then-sent-ln0
returns-then-sent-ln0 c =
    let a = c.args in
    let t : is_line a.given.0 ≡ true = sym c.is_line.ensures ∙ c.if-is_line.true in
    let w = c.words_of-sent.ensures in
    let p : ln0 a.given.0 ≡ a.ln0 = sym (ap (λ (r : LineWords). r.ln0) w) ∙ c.if-sent-ln0.true in
    let q : c.words_of-sent.result.ln1 ≡ ln1 a.given.0 = ap (λ (r : LineWords). r.ln1) w in
    simp (t, eq-eqb (ln0 a.given.0) a.ln0 p, q)

pub returns-else-sent-ln0 : goal.returns-else-sent-ln0
returns-else-sent-ln0 c =
    let a = c.args in
    let t : is_line a.given.0 ≡ true = sym c.is_line.ensures ∙ c.if-is_line.true in
    let w = c.words_of-sent.ensures in
    let p : ln0 a.given.0 ≡ a.ln0 → ⊥ = λ e. c.if-sent-ln0.false (ap (λ (r : LineWords). r.ln0) w ∙ e) in
    simp (t, ne_eqb (ln0 a.given.0) a.ln0 p)

pub returns-else-is_line : goal.returns-else-is_line
returns-else-is_line c =
    let t : is_line c.args.given.0 ≡ false = sym c.is_line.ensures ∙ c.if-is_line.false in
    simp t
