-- `send::parts::put_after_picture` meets its contract: EAV, line number and CRCC, one after the other.
-- Assumes nothing.
-- the characters, where the line's words and the timing word are what the calls answer
use Rattle.std.proofs.Common.{◌≡◌, ℕ, Bool, true, ◌++◌, sym, ap, ◌∙◌, ap₂, arith}
use Rattle.crcc.specs.declared.sums.Sums.{Sums}
use Rattle.line.specs.Stream.{v_of, line_after}
use Rattle.word.specs.declared.line_number.LineWords.{LineWords}
use Rattle.word.specs.LineNumber.{line_words}
use Rattle.word.specs.Timing.{timing}
use Rattle.span.specs.declared.content.ContentBytes.{ContentBytes}
use Rattle.send.specs.Inside.Put.{timing_chars, group_chars, crcc_chars, after_picture_chars}
use Rattle.send.proofs.Putting.{made, renamed, then, length_group}
use Rattle.send.proofs.TimingCodes.{length_timing}
use Rattle.send.proofs.parts.put_after_picture.Goals as goal

as_put : (pairs : ℕ) (s : Sums) (content : ContentBytes) (m : ℕ) {xyz : ℕ} {n : LineWords} → n ≡ line_words m → xyz ≡ timing (v_of m) true
    → after_picture_chars pairs s m content
    ≡ timing_chars pairs 266 content.eav1 content.eav2 xyz
    ++ (group_chars pairs (λ _. n.ln0) ++ (group_chars pairs (λ _. n.ln1) ++ crcc_chars pairs s xyz n))
unfolding after_picture_chars
as_put pairs s content m e q =
    ap₂ (λ (n : LineWords) (xyz : ℕ).
    timing_chars pairs 266 content.eav1 content.eav2 xyz
    ++ (group_chars pairs (λ _. n.ln0) ++ (group_chars pairs (λ _. n.ln1) ++ crcc_chars pairs s xyz n))) (sym e) (sym q)

pub returns : goal.returns
returns c =
    let a = c.args in
    let next = c.line_after-next in
    let n = c.words_after-n in
    let xyz = c.timing_word-xyz in
    let code = xyz.ensures ∙ ap (λ (v : Bool). timing v true) (c.v_of.ensures ∙ ap v_of next.ensures) in
    let l = length_timing a.pairs 266 a.content.eav1 a.content.eav2 xyz.result c.requires.le_pairs c.requires.pairs_bound in
    let g0 = length_group a.pairs (λ _. n.result.ln0) in
    let g1 = length_group a.pairs (λ _. n.result.ln1) in
    let p = made (c.put_timing-d1.ensures.offset, c.put_timing-d1.ensures.out) in
    let q = made (c.put_same-d2.ensures.offset, c.put_same-d2.ensures.out) in
    let r = made (c.put_same-d3.ensures.offset, c.put_same-d3.ensures.out) in
    let e = renamed (as_put a.pairs a.sums a.content (line_after a.l.0) n.ensures code)
    (then p (omega (arith, l)) (then q (omega (arith, g0)) (then r (omega (arith, g1)) (made (c.put_crcc.ensures.offset, c.put_crcc.ensures.out))))) in
    record { offset = e.offset; out = e.out }
