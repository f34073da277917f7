-- How many characters stand after the picture, and in a run.
-- Assumes nothing.
use Rattle.std.proofs.Common.{◌≡◌, ℕ, ◌*◌, ◌≤◌, true, List, ◌++◌, length, refl, ◌∙◌, arith, length-append}
use Rattle.ground.proofs.Writing.{length_upto}
use Rattle.crcc.specs.declared.sums.Sums.{Sums}
use Rattle.crcc.specs.Inside.Sums.{sum_in}
use Rattle.line.specs.Stream.{v_of}
use Rattle.word.specs.declared.line_number.LineWords.{LineWords}
use Rattle.word.specs.LineNumber.{line_words}
use Rattle.word.specs.Timing.{timing}
use Rattle.span.specs.declared.content.ContentBytes.{ContentBytes}
use Rattle.send.specs.Inside.Put.{pair_chars, timing_chars, group_chars, crcc_after, crcc_chars, after_picture_chars, run_chars}
use Rattle.send.proofs.Putting.{length_group}
use Rattle.send.proofs.TimingCodes.{length_timing}

length_crcc : (pairs : ℕ) (s : Sums) (xyz : ℕ) (n : LineWords) → length (crcc_chars pairs s xyz n) ≡ 6 * pairs
unfolding crcc_chars
length_crcc pairs s xyz n =
    let first : ℕ → ℕ = λ t. (crcc_after (sum_in s t) xyz n).crcc0 in
    let second : ℕ → ℕ = λ t. (crcc_after (sum_in s t) xyz n).crcc1 in
    length-append (group_chars pairs first) (group_chars pairs second) ∙ omega (arith, length_group pairs first, length_group pairs second)

pub length_after_picture : (pairs : ℕ) → 1 ≤ pairs → pairs ≤ 2 → (s : Sums) (m : ℕ) (content : ContentBytes)
    → length (after_picture_chars pairs s m content) ≡ 24 * pairs
unfolding after_picture_chars
length_after_picture pairs some few s m content =
    let xyz : ℕ = timing (v_of m) true in
    let n : LineWords = line_words m in
    let code : List ℕ = timing_chars pairs 266 content.eav1 content.eav2 xyz in
    let g0 : List ℕ = group_chars pairs (λ _. n.ln0) in
    let g1 : List ℕ = group_chars pairs (λ _. n.ln1) in
    let sums : List ℕ = crcc_chars pairs s xyz n in
    length-append code (g0 ++ (g1 ++ sums))
    ∙ omega (
      arith,
      length-append g0 (g1 ++ sums),
      length-append g1 sums,
      length_timing pairs 266 content.eav1 content.eav2 xyz some few,
      length_group pairs (λ _. n.ln0),
      length_group pairs (λ _. n.ln1),
      length_crcc pairs s xyz n,
    )

pub length_run : (n w : ℕ) → length (run_chars n w) ≡ 3 * n
unfolding run_chars
length_run n w = length_upto 3 (λ _. pair_chars w w) (λ m. refl) n
