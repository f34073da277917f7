-- `send::parts::put_span` meets its contract: the parts one after the other.
-- Assumes nothing.
-- the picture, by the offset and the buffer that it leaves
use Rattle.std.proofs.Common.{◌≡◌, ℕ, Bool, false, List, sym, ap, ◌∙◌, arith}
use Rattle.crcc.specs.declared.sums.Sums.{Sums}
use Rattle.line.specs.Stream.{v_of, line_after}
use Rattle.row_crc.specs.Inside.Sums.{sums_in}
use Rattle.word.specs.Timing.{timing}
use Rattle.send.specs.declared.picture_words.Passed.{Passed}
use Rattle.send.specs.Inside.Put.{put, timing_chars, picture_word, picture_chars, passed_at, after_picture_chars, whole_chars}
use Rattle.send.proofs.Passing.{length_picture}
use Rattle.send.proofs.Putting.{PutChars, made, renamed, then, is_offset}
use Rattle.send.proofs.Runs.{blanking_made}
use Rattle.send.proofs.Sizes.{length_after_picture}
use Rattle.send.proofs.TimingCodes.{length_timing}
use Rattle.send.proofs.parts.put_span.Goals as goal

passed_put : (pairs : ℕ) (ws : List ℕ) {d at : ℕ} {q : Passed} {before after : List ℕ}
    → (q ≡ passed_at pairs d ws) × (after ≡ put d (picture_chars pairs 1920 (picture_word ws)) at before)
    → PutChars d (picture_chars pairs 1920 (picture_word ws)) at before q.offset after
passed_put pairs ws e = made (ap (λ (q : Passed). q.offset) e.0, e.1)

pub returns : goal.returns
unfolding whole_chars
returns c =
    let a = c.args in
    let pairs = a.p.stream_pairs in
    let ws = a.words.now in
    let some = c.requires.bound in
    let few = c.requires.small.half in
    let xyz = timing (v_of a.l.0) false in
    let next = line_after a.l.0 in
    let code = c.timing_word-xyz.ensures ∙ ap (λ (v : Bool). timing v false) c.v_of.ensures in
    let sums = ap (λ (q : Passed). q.sums) c.put_picture-q.ensures.passed in
    let p1 = renamed (ap (timing_chars pairs 261 a.content.sav1 a.content.sav2) (sym code)) (made (c.put_timing-d1.ensures.offset, c.put_timing-d1.ensures.out)) in
    let p2 = passed_put pairs ws (c.put_picture-q.ensures.passed, c.put_picture-q.ensures.out) in
    let p3 = renamed (ap (λ (x : Sums). after_picture_chars pairs x next a.content) (sym sums)) (made (c.put_after_picture-d2.ensures.offset, c.put_after_picture-d2.ensures.out)) in
    let p4 = blanking_made (is_offset p3) a.p c.requires.keeps_disparity c.put_blanking.ensures in
    let l1 = length_timing pairs 261 a.content.sav1 a.content.sav2 xyz some few in
    let l2 = length_picture pairs (picture_word ws) 1920 in
    let l3 = length_after_picture pairs some few (sums_in ws) next a.content in
    let r = then p1 (omega (arith, l1)) (then p2 (omega (arith, l2)) (then p3 (omega (arith, l3)) p4)) in
    record { offset = r.offset; out = r.out }
