-- `word::line_number::read_line_words` meets its contract: only the number that the bits give can be named.
-- Assumes nothing.
use mathlib.Core.Path.{◌≡◌, sym, ap, ◌∙◌}
use mathlib.Core.Bool.{true, false}
use Prim.Native.Nat.{ℕ, ◌≤◌}
use native.Mathlib.Omega.{arith}
use Rattle.ground.specs.Answer.{Answer, given}
use Rattle.line.specs.declared.stream.StreamLine.{StreamLine}
use Rattle.word.specs.LineNumber.{are_words_of}
use Rattle.word.proofs.LineNumbers.{number_in, names_line, names_none}
use Rattle.word.proofs.Words.{both_words}
use Rattle.word.proofs.line_number.read_line_words.Goals as goal

abbrev named : ℕ → Answer StreamLine
named n = given (record { 0 = n })

pub returns-then-are_words_of : goal.returns-then-are_words_of
returns-then-are_words_of c =
    let a = c.args in
    let n = c.stream_line-l.ensures in
    let t : are_words_of a.ln0 a.ln1 (number_in a.ln0 a.ln1) ≡ true =
    ap (are_words_of a.ln0 a.ln1) (sym n) ∙ sym c.are_words_of.ensures ∙ c.if-are_words_of.true in
    let p : a.ln0 ≤ 4095 = omega arith in
    let q : a.ln1 ≤ 4095 = omega arith in
    simp (both_words a.ln0 a.ln1 p q, names_line a.ln0 a.ln1 t) (ap named n)

pub returns : goal.returns
returns c =
    let a = c.args in
    let n = c.stream_line-l.ensures in
    let t : are_words_of a.ln0 a.ln1 (number_in a.ln0 a.ln1) ≡ false =
    ap (are_words_of a.ln0 a.ln1) (sym n) ∙ sym c.are_words_of.ensures ∙ c.if-are_words_of.false in
    let p : a.ln0 ≤ 4095 = omega arith in
    let q : a.ln1 ≤ 4095 = omega arith in
    simp (both_words a.ln0 a.ln1 p q, names_none a.ln0 a.ln1 t)
