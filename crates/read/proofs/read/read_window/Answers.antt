-- `read::read::read_window` meets its contract.
-- Assumes nothing.
use mathlib.Core.Path.{◌≡◌, sym, ap, ◌∙◌}
use Prim.Native.Nat.{ℕ}
use native.Mathlib.Omega.{arith}
use lib.ListN.{length, get_or, length-append, length-take, length-drop, get_or-append}
use borrow.Author.Rules.{rules}
use Rattle.read_test20.proofs.Zeros.{all_zero, are_zeros, behind}
use Rattle.read.specs.Call.{paper_read}
use Rattle.read.proofs.Verdicts.{handed}
use Rattle.read.proofs.Windows.{taken_is, taken_refused, taken_rows, whole_told, rows_whole_lem, read_rows, refused_rows}
use Rattle.read.proofs.read.read_window.Goals as goal

pub returns-in_err-v : goal.returns-in_err-v
returns-in_err-v c =
    let a = c.args in
    let w = a.symbols.now in
    let is = c.requires.window in
    let taken = sym c.in_err-v.was ∙ c.take.ensures.taken ∙ taken_is a.f w is a.rows.now c.requires.rows_len in
    record {
      answer = ap paper_read (handed _ c.from_residual.ensures.1) ∙ taken_refused a.f w is _ taken;
      rows = taken_rows a.f w is a.rows.now c.requires.rows_len _ taken c.take.ensures.rows;
    }

pub read_words-read-requires-clause-rows_value : goal.read_words-read-requires-clause-rows_value
read_words-read-requires-clause-rows_value c =
    let a = c.args in
    let w = a.symbols.now in
    let is = c.requires.window in
    let told = whole_told a.f w is (sym c.in_ok-v.was ∙ c.take.ensures.taken ∙ taken_is a.f w is a.rows.now c.requires.rows_len) in
    c.take.ensures.rows ∙ rows_whole_lem a.f w is a.rows.now c.requires.rows_len told.0

pub returns-then-is_err-clause-rows : goal.returns-then-is_err-clause-rows
returns-then-is_err-clause-rows c =
    let a = c.args in
    let w = a.symbols.now in
    let is = c.requires.window in
    let told = whole_told a.f w is (sym c.in_ok-v.was ∙ c.take.ensures.taken ∙ taken_is a.f w is a.rows.now c.requires.rows_len) in
    let zeros : (j : ℕ) → get_or c.fill.new.self j 0 ≡ 0 = λ j. rw (c.fill.ensures.after (λ y e. e)) (all_zero _ j) in
    refused_rows a.f w is a.rows.now told.0 _ c.read_words-read.ensures (sym c.is_err.ensures.value ∙ c.if-is_err.true) (length c.take.new.rows) (search rules)
    (are_zeros _ _ (omega (arith, length-append {A = ℕ}, length-take {A = ℕ}, length-drop {A = ℕ}, c.fill.ensures.len))
    (λ i h. omega (arith, zeros, behind, get_or-append {A = ℕ}, length-append {A = ℕ}, length-take {A = ℕ}, length-drop {A = ℕ}, c.fill.ensures.len)))

pub returns-else-is_err-clause-rows : goal.returns-else-is_err-clause-rows
returns-else-is_err-clause-rows c =
    let a = c.args in
    let w = a.symbols.now in
    let is = c.requires.window in
    let told = whole_told a.f w is (sym c.in_ok-v.was ∙ c.take.ensures.taken ∙ taken_is a.f w is a.rows.now c.requires.rows_len) in
    read_rows a.f w is a.rows.now told.0 _ c.read_words-read.ensures (sym c.is_err.ensures.value ∙ c.if-is_err.false)
    (c.take.ensures.rows ∙ rows_whole_lem a.f w is a.rows.now c.requires.rows_len told.0)
