-- Tests 21 to 24 in turn, each over the words of which it asks something.
-- Assumes nothing.
use Rattle.std.specs.Prelude.{Ok, Err, IsErrAnd}
use mathlib.Core.Path.{◌≡◌, refl, sym, ap, ◌∙◌}
use mathlib.Core.Bool.{true, false, not, true≢false}
use mathlib.Core.List.{List, ◌∷◌}
use mathlib.Core.Option.{Option, none, some}
use Prim.Native.Nat.{ℕ, ◌+◌, ◌*◌, ◌/◌, ◌%◌, ◌≤◌, ◌<◌}
use native.Mathlib.Omega.{arith}
use lib.ListN.{drop}
use borrow.Author.Tests.{le-ltb, ne_eqb, not-false}
use Rattle.ground.specs.Answer.{Row}
use Rattle.ground.specs.Search.{is_some}
use Rattle.ground.proofs.Searches.{miss}
use Rattle.ground.proofs.Ranges.{not_within}
use Rattle.span.specs.declared.format.Format.{Format}
use Rattle.span.specs.declared.format.Shape.{Shape}
use Rattle.span.specs.Format.{streams, pairs_in}
use Rattle.span.specs.Layout.{picture_start, eav_start, line_start, crcc_start, ancillary_start, sav_xyz, eav_xyz}
use Rattle.crcc.specs.declared.sums.Sums.{Sums}
use Rattle.window.specs.Read.{lowest, placed}
use Rattle.window.specs.Tests.{named, holds21, holds22, holds23}
use Rattle.window.specs.Words.{word_at}
use Rattle.read_test21_26.specs.declared.service.Fault.{Fault}
use Rattle.read_test21_26.specs.declared.service.Test.{Test}
use Rattle.read_test21_26.specs.declared.service.Test.TheVariants.{Timing, Line, V, Crcc}
use Rattle.read_test21_26.specs.Inside.Verdict.{test_of}
use Rattle.read_test21_26.specs.Inside.Holds.{holds24_by, holds_of, holds_at, wrong_in}
use Rattle.read_test21_26.specs.Inside.Verdict.{Verdict, is_failed, verdict_of, first_row, service_tests}
use Rattle.read_test21_26.proofs.Regions.{in_one_run, in_two_runs}
use Rattle.read_test21_26.proofs.Reading.{first_word, first_stream}
use Rattle.read_test21_26.proofs.Sizes.{within_window}
use Rattle.read_test21_26.proofs.Tests.{first_22}

-- the fault that is handed on
pub refused_as : {x : Fault} (r : Verdict) → IsErrAnd r (λ e. e ≡ x) → r ≡ Err x
refused_as (Ok done) m = absurd m
refused_as (Err e) m = ap Err m

-- where each test asks nothing
module _ (s : ℕ) (word : ℕ → ℕ) (j t : ℕ) where
  right_21 : (0 ≤ j → picture_start ≤ j) → (eav_start ≤ j → line_start ≤ j) → holds21 s word j t ≡ true
  unfolding holds21
  right_21 x y = rw (le-ltb j picture_start (x (omega arith)), not_within eav_start eav_xyz j (λ h l. omega (arith, y h)))

  right_22 : (line_start ≤ j → crcc_start ≤ j) → holds22 s word j t ≡ true
  unfolding holds22
  right_22 x = rw (not_within line_start (line_start + 1) j (λ h l. omega (arith, x h)))

  right_23 : (sav_xyz ≤ j → picture_start ≤ j) → (eav_xyz ≤ j → line_start ≤ j) → holds23 s word j t ≡ true
  unfolding holds23
  right_23 x y = rw (ne_eqb j sav_xyz (λ e. omega (arith, x (omega arith))), ne_eqb j eav_xyz (λ e. omega (arith, y (omega arith))))

right_24 : (p : Shape) (w : List ℕ) (c : Sums) (j t : ℕ) → (crcc_start ≤ j → ancillary_start ≤ j) → holds24_by p w c j t ≡ true
unfolding holds24_by
right_24 p w c j t x = rw (ne_eqb j crcc_start (λ e. omega (arith, x (omega arith))), ne_eqb j (crcc_start + 1) (λ e. omega (arith, x (omega arith))))

module _ (f : Format) (p : Shape) (w : List ℕ) (c : Sums) where
  -- a test over words from a to before b, and else the rest
  abbrev judged : Test → ℕ → ℕ → Verdict → Verdict
  judged test a b rest = verdict_of test (wrong_in (holds_at test f p w c) (streams p * a) (streams p * b)) rest

  abbrev from_crcc : Verdict
  from_crcc = judged Crcc crcc_start ancillary_start (Ok tt)

  abbrev from_next_v : Verdict
  from_next_v = judged V eav_xyz line_start from_crcc

  abbrev from_v : Verdict
  from_v = judged V sav_xyz picture_start from_next_v

  abbrev from_line : Verdict
  from_line = judged Line line_start crcc_start from_v

  abbrev from_eav_lem : Verdict
  from_eav_lem = judged Timing eav_start line_start from_line

  abbrev from_sav_lem : Verdict
  from_sav_lem = judged Timing 0 picture_start from_eav_lem

  abbrev answer : Verdict
  answer = first_row (service_tests p w c)

  in_turn : 1 ≤ p.stream_pairs → answer ≡ from_sav_lem
  unfolding holds_of
  in_turn h =
      let s = streams p in
      let n = 2 * pairs_in p in
      let word = word_at p w in
      let some-stream : 1 ≤ s = omega arith in
      in_two_runs s some-stream (holds21 s word) n Timing _ (omega arith) (omega arith) (omega arith) (within_window p (omega arith)) (right_21 s word)
      ∙ ap (λ (v : Verdict). judged Timing 0 picture_start (judged Timing eav_start line_start v))
      (in_one_run s some-stream (holds22 s word) n Line _ (omega arith) (within_window p (omega arith)) (right_22 s word)
      ∙ ap (judged Line line_start crcc_start)
      (in_two_runs s some-stream (holds23 s word) n V _ (omega arith) (omega arith) (omega arith) (within_window p (omega arith)) (right_23 s word)
      ∙ ap (λ (v : Verdict). judged V sav_xyz picture_start (judged V eav_xyz line_start v))
      (in_one_run s some-stream (holds24_by p w c) n Crcc (Ok tt) (omega arith) (within_window p (omega arith)) (right_24 p w c))))

  -- a test that says something is the answer; where it says nothing, the rest is
  module _ (test : Test) (a b : ℕ) (rest : Verdict) (e : answer ≡ judged test a b rest) {v : Verdict} (is : v ≡ judged test a b (Ok tt)) where
    ends_here : is_failed v ≡ true → v ≡ answer
    ends_here x = go (wrong_in (holds_at test f p w c) (streams p * a) (streams p * b)) e is
      where
        go : (o : Option ℕ) → answer ≡ verdict_of test o rest → v ≡ verdict_of test o (Ok tt) → v ≡ answer
        go none e is = absurd (true≢false (sym x ∙ ap is_failed is))
        go (some k) e is = is ∙ sym e

    goes_on : is_failed v ≡ false → answer ≡ rest
    goes_on z = go (wrong_in (holds_at test f p w c) (streams p * a) (streams p * b)) e is
      where
        go : (o : Option ℕ) → answer ≡ verdict_of test o rest → v ≡ verdict_of test o (Ok tt) → answer ≡ rest
        go none e is = e
        go (some k) e is = absurd (true≢false (sym (ap is_failed is) ∙ z))

  -- the six runs one after the other
  module _ (half : 1 ≤ p.stream_pairs) {sav : Verdict} (sav_is : sav ≡ judged Timing 0 picture_start (Ok tt)) where
    pub sav_wrong : is_failed sav ≡ true → sav ≡ answer
    sav_wrong = ends_here Timing 0 picture_start from_eav_lem (in_turn half) sav_is

    to_eav : is_failed sav ≡ false → answer ≡ from_eav_lem
    to_eav = goes_on Timing 0 picture_start from_eav_lem (in_turn half) sav_is

    module _ (sav-right : is_failed sav ≡ false) {eav : Verdict} (eav_is : eav ≡ judged Timing eav_start line_start (Ok tt)) where
      pub eav_wrong : is_failed eav ≡ true → eav ≡ answer
      eav_wrong = ends_here Timing eav_start line_start from_line (to_eav sav-right) eav_is

      to_line : is_failed eav ≡ false → answer ≡ from_line
      to_line = goes_on Timing eav_start line_start from_line (to_eav sav-right) eav_is

      module _ (eav-right : is_failed eav ≡ false) {line : Verdict} (line_is : line ≡ judged Line line_start crcc_start (Ok tt)) where
        pub line_wrong : is_failed line ≡ true → line ≡ answer
        line_wrong = ends_here Line line_start crcc_start from_v (to_line eav-right) line_is

        to_v : is_failed line ≡ false → answer ≡ from_v
        to_v = goes_on Line line_start crcc_start from_v (to_line eav-right) line_is

        module _ (line-right : is_failed line ≡ false) {v : Verdict} (v-is : v ≡ judged V sav_xyz picture_start (Ok tt)) where
          pub v_wrong : is_failed v ≡ true → v ≡ answer
          v_wrong = ends_here V sav_xyz picture_start from_next_v (to_v line-right) v-is

          to_next_v : is_failed v ≡ false → answer ≡ from_next_v
          to_next_v = goes_on V sav_xyz picture_start from_next_v (to_v line-right) v-is

          module _ (v-right : is_failed v ≡ false) {next-v : Verdict} (next-v-is : next-v ≡ judged V eav_xyz line_start (Ok tt)) where
            pub next_v_wrong : is_failed next-v ≡ true → next-v ≡ answer
            next_v_wrong = ends_here V eav_xyz line_start from_crcc (to_next_v v-right) next-v-is

            -- the last of them is the answer where all before it say nothing
            pub crcc_last : is_failed next-v ≡ false → {crcc : Verdict} → crcc ≡ from_crcc → crcc ≡ answer
            crcc_last next-v-right crcc_is =
                crcc_is ∙ sym (goes_on V eav_xyz line_start from_crcc (to_next_v v-right) next-v-is next-v-right)

-- where all hold, stream 1 names a line
module _ (p : Shape) (w : List ℕ) (c : Sums) (half : 1 ≤ p.stream_pairs) where
  second_held : (r q : Row) (rs : List Row) → first_row (r ∷ q ∷ rs) ≡ (Ok tt) → q.fails ≡ none
  second_held r q rs e = go r.fails q.fails refl refl
    where
      go : (a b : Option ℕ) → r.fails ≡ a → q.fails ≡ b → q.fails ≡ none
      go (some k) b x y = let z : Err (record { test = test_of r.number; place = k }) ≡ (Ok tt) = rw x at e in absurd (true≢false (ap is_failed z))
      go none none x y = y
      go none (some k) x y =
          let z : Err (record { test = test_of q.number; place = k }) ≡ (Ok tt) = rw (x, y) at e in absurd (true≢false (ap is_failed z))

  pub some_named : first_row (service_tests p w c) ≡ (Ok tt) → is_some (named (streams p) (word_at p w)) ≡ true
  some_named e =
      let s = streams p in
      let word = word_at p w in
      let k = line_start * s in
      let n = 2 * pairs_in p in
      let some_streams : 1 ≤ s = omega arith in
      let inside : k < n = omega (arith, within_window p (let h : crcc_start ≤ ancillary_start = omega arith in h)) in
      let held = (miss (λ k. not (placed s (holds22 s word) k)) n (second_held (lowest 21 n (placed s (holds21 s word))) (lowest 22 n (placed s (holds22 s word))) (drop 2 (service_tests p w c)) e)).never k (omega arith) inside in
      sym (first_22 s word (k / s) (k % s) (first_word s some_streams k line_start refl) (first_stream s some_streams k line_start refl))
      ∙ not-false (placed s (holds22 s word) k) held
