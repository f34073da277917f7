-- `read_test21_26::holds::crcc_after` meets its contract: six words more.
-- Assumes nothing.
use mathlib.Core.Path.{◌≡◌, ap, ap₂, ◌∙◌}
use Prim.Native.Nat.{ℕ, ◌+◌, ◌*◌, ◌%◌}
use native.Mathlib.Omega.{arith}
use Rattle.span.specs.Format.{streams}
use Rattle.span.specs.Layout.{eav_start, line_start, eav_xyz}
use Rattle.crcc.specs.Crcc.{crc_word, crcc_words}
use Rattle.word.specs.Received.{repaired}
use Rattle.window.specs.Words.{word_at}
use Rattle.read_test21_26.proofs.Reading.{six}
use Rattle.read_test21_26.proofs.holds.crcc_after.Goals as goal

pub returns : goal.returns
returns c =
    let a = c.args in
    let k0 : eav_start * (2 * a.w.shape.stream_pairs) + a.i ≡ streams a.w.shape * eav_start + a.i = omega arith in
    let x0 = c.word_at.ensures.word ∙ ap (word_at a.w.shape a.w.symbols.now) k0 in
    let k1 : eav_start * (2 * a.w.shape.stream_pairs) + a.i + 2 * a.w.shape.stream_pairs ≡ streams a.w.shape * (eav_start + 1) + a.i = omega arith in
    let x1 = c.word_at-2.ensures.word ∙ ap (word_at a.w.shape a.w.symbols.now) k1 in
    let k2 : eav_start * (2 * a.w.shape.stream_pairs) + a.i + 2 * (2 * a.w.shape.stream_pairs) ≡ streams a.w.shape * (eav_start + 2) + a.i = omega arith in
    let x2 = c.word_at-3.ensures.word ∙ ap (word_at a.w.shape a.w.symbols.now) k2 in
    let k3 : eav_start * (2 * a.w.shape.stream_pairs) + a.i + 3 * (2 * a.w.shape.stream_pairs) ≡ streams a.w.shape * eav_xyz + a.i = omega arith in
    let x3 = c.word_at-xyz.ensures.word ∙ ap (word_at a.w.shape a.w.symbols.now) k3 in
    let k4 : eav_start * (2 * a.w.shape.stream_pairs) + a.i + 4 * (2 * a.w.shape.stream_pairs) ≡ streams a.w.shape * line_start + a.i = omega arith in
    let x4 = c.word_at-4.ensures.word ∙ ap (word_at a.w.shape a.w.symbols.now) k4 in
    let k5 : eav_start * (2 * a.w.shape.stream_pairs) + a.i + 5 * (2 * a.w.shape.stream_pairs) ≡ streams a.w.shape * (line_start + 1) + a.i = omega arith in
    let x5 = c.word_at-5.ensures.word ∙ ap (word_at a.w.shape a.w.symbols.now) k5 in
    let low : c.word_at-xyz.result % 4096 ≡ c.word_at-xyz.result = omega (arith, c.word_at-xyz.ensures.small) in
    let xyz = c.repaired_word.ensures ∙ ap (λ (x : ℕ). repaired x) (low ∙ x3) in
    c.crcc_words.ensures
    ∙ ap (λ (x : ℕ). crcc_words x)
    (c.crc_word.ensures
    ∙ ap₂ crc_word
    (c.crc_word-c5.ensures
    ∙ ap₂ crc_word
    (c.crc_word-c4.ensures
    ∙ ap₂ crc_word
    (c.crc_word-c3.ensures
    ∙ ap₂ crc_word
    (c.crc_word-c2.ensures ∙ ap₂ crc_word (c.crc_word-c1.ensures ∙ ap (λ (x : ℕ). crc_word a.c x) x0) x1) x2) xyz) x4) x5)
    ∙ six a.w.shape a.w.symbols.now a.i a.c
