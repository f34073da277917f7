-- Lines that are sent: a call for one is answered, and one line after the other is the signal.
-- Assumes nothing.
use mathlib.Core.Path.{◌≡◌, refl, sym, ap, ap₂, ◌∙◌}
use mathlib.Core.Bool.{true}
use mathlib.Core.List.{List, [], ◌++◌, append_assoc}
use Prim.Native.Nat.{ℕ, zero, suc, ◌+◌, ◌-◌, ◌*◌, ◌≤◌, ◌<◌}
use native.Mathlib.Omega.{arith}
use lib.ListN.{length, length-append}
use lib.Seq.{sets}
use borrow.Author.Tests.{lt-ltb}
use Rattle.ground.specs.Answer.{given}
use Rattle.ground.proofs.Answers.{when_given}
use Rattle.ground.proofs.Ranges.{is_within}
use Rattle.ground.proofs.Writing.{sets_append, sets_whole}
use Rattle.symbol.specs.declared.disparity.Disparity.{Disparity}
use Rattle.line.specs.Stream.{is_line, line_after}
use Rattle.std.specs.Prelude.{None, Result, Ok}
use Rattle.std.specs.Result.{result_unwrap_or}
use Rattle.span.specs.declared.format.Format.{Format}
use Rattle.span.specs.Span.{span_symbols, span_after, signal_from}
use Rattle.span.specs.Stream.{Request}
use Rattle.span.proofs.Lengths.{known_has_streams, length_of_symbols}
use Rattle.request.specs.declared.sent.SendError.{SendError}
use Rattle.request.specs.Send.{request, paper_sent, send_of, sent_buffer}
use Rattle.request.proofs.OneToOne.{sent_one_to_one}
use Rattle.test_picture.specs.Putting.{samples_put}
use Rattle.test_picture.specs.TestPicture.{test_samples}
use Rattle.test_picture.proofs.Puttings.{puts_samples}
use Rattle.test_picture.proofs.Sendings.{is_sent}
use Rattle.reception.specs.Link.{link}
use Rattle.rig.specs.Sending.{request_on, after_from}
use Rattle.reception.proofs.Links.{link_known, link_samples, link_symbols}
use Rattle.rig.specs.Inside.Sending.{requests_from, sent_from}

-- ---- one line

pub length_span : (d : Disparity) (n : ℕ) → length (span_symbols d link (request_on n)) ≡ 19008
length_span d n = length_of_symbols link (request_on n) (known_has_streams link link_known) d ∙ link_symbols

module _ (n : ℕ) (low : 1 ≤ n) (high : n ≤ 1125) where
  is_line_lem : is_line n ≡ true
  is_line_lem = is_within 1 1125 n low high

  pub line_sent : (d : Disparity) → send_of d link (request_on n) 19008 ≡ given (span_after d link (request_on n))
  line_sent d = ap (send_of d link (request_on n)) (sym link_symbols) ∙ is_sent link n d None link_known is_line_lem

  -- what the code asks for, where the format was answered
  pub asked_is : {f : Format} (words : List ℕ) {samples : List ℕ} → f ≡ link → length words ≡ 7680 → samples ≡ samples_put f n words
      → request n None samples ≡ request_on n
  asked_is {f} words {samples} e long put =
      let are : samples ≡ test_samples link n =
      put
      ∙ ap (λ (g : Format). samples_put g n words) e
      ∙ sym (when_given words (test_samples link n) (puts_samples link n words link_known is_line_lem (long ∙ sym link_samples))) in
      ap (request n None) are

  -- and what it is answered
  module _ (d : Disparity) {f : Format} {a : Request} (symbols : List ℕ) (e : f ≡ link) (is : a ≡ request_on n) (room : length symbols ≡ 19008) where
    answer : send_of d f a (length symbols) ≡ given (span_after d link (request_on n))
    answer =
        ap₂ (λ (g : Format) (b : Request). send_of d g b (length symbols)) e is
        ∙ ap (send_of d link (request_on n)) room
        ∙ line_sent d

    pub after_is : (r : Result Disparity SendError) → paper_sent r ≡ send_of d f a (length symbols) → result_unwrap_or r d ≡ span_after d link (request_on n)
    after_is r x =
        let after = span_after d link (request_on n) in
        let is_sent : r ≡ Ok after = sent_one_to_one r (Ok after) (x ∙ answer) in
        ap (λ (q : Result Disparity SendError). result_unwrap_or q d) is_sent

    pub symbols_are : {out : List ℕ} → out ≡ sent_buffer d f a symbols → out ≡ span_symbols d link (request_on n)
    symbols_are x =
        x
        ∙ sym (when_given symbols (span_symbols d f a) answer)
        ∙ ap₂ (λ (g : Format) (b : Request). span_symbols d g b) e is

-- ---- one after the other

-- the line after one that is not the last has the next number
pub next_line_lem : (n : ℕ) → n < 1125 → line_after n ≡ n + 1
next_line_lem n h = simp (lt-ltb n 1125 h)

pub no_line_more : (d : Disparity) (n : ℕ) → (sent_from d n 0 ≡ []) × (after_from d n 0 ≡ d)
unfolding requests_from signal_from after_from
no_line_more d n = (refl, refl)

pub sent_more : (d : Disparity) (n m : ℕ)
    → sent_from d n (suc m) ≡ span_symbols d link (request_on n) ++ sent_from (span_after d link (request_on n)) (suc n) m
unfolding requests_from signal_from
sent_more d n m = refl

after_more : (d : Disparity) (n m : ℕ) → after_from d n (suc m) ≡ after_from (span_after d link (request_on n)) (suc n) m
unfolding after_from
after_more d n m = refl

pub length_sent : (d : Disparity) (n m : ℕ) → length (sent_from d n m) ≡ 19008 * m
length_sent d n zero = ap length (no_line_more d n).0
length_sent d n (suc m) =
    let rest = sent_from (span_after d link (request_on n)) (suc n) m in
    ap length (sent_more d n m)
    ∙ length-append (span_symbols d link (request_on n)) rest
    ∙ omega (arith, length_span d n, length_sent (span_after d link (request_on n)) (suc n) m)

pub all_sent : (d : Disparity) (n : ℕ) (symbols : List ℕ) → length symbols ≡ 95040 → sets symbols 0 (sent_from d n 5) ≡ sent_from d n 5
all_sent d n symbols room = sets_whole symbols (sent_from d n 5) (length_sent d n 5 ∙ sym room)

-- lines in two runs are one signal, the disparity handed from the one to the other
pub sent_on : (d : Disparity) (n a b : ℕ) → sent_from d n (a + b) ≡ sent_from d n a ++ sent_from (after_from d n a) (n + a) b
sent_on d n zero b =
    let p : 0 + b ≡ b = omega arith in
    let q : n ≡ n + 0 = omega arith in
    let none = no_line_more d n in
    ap (sent_from d n) p
    ∙ ap₂ (λ (e : Disparity) (i : ℕ). sent_from e i b) (sym none.1) q
    ∙ ap (λ (l : List ℕ). l ++ sent_from (after_from d n 0) (n + 0) b) (sym none.0)
sent_on d n (suc a) b =
    let p : suc a + b ≡ suc (a + b) = omega arith in
    let q : suc n + a ≡ n + suc a = omega arith in
    let span = span_symbols d link (request_on n) in
    let e = span_after d link (request_on n) in
    ap (sent_from d n) p
    ∙ sent_more d n (a + b)
    ∙ ap (λ (l : List ℕ). span ++ l) (sent_on e (suc n) a b)
    ∙ sym (append_assoc span (sent_from e (suc n) a) (sent_from (after_from e (suc n) a) (suc n + a) b))
    ∙ ap₂ (λ (l m : List ℕ). l ++ m) (sym (sent_more d n a))
    (ap₂ (λ (x : Disparity) (i : ℕ). sent_from x i b) (sym (after_more d n a)) q)

pub after_on : (d : Disparity) (n a b : ℕ) → after_from d n (a + b) ≡ after_from (after_from d n a) (n + a) b
after_on d n zero b =
    let p : 0 + b ≡ b = omega arith in
    let q : n ≡ n + 0 = omega arith in
    ap (after_from d n) p ∙ ap₂ (λ (e : Disparity) (i : ℕ). after_from e i b) (sym (no_line_more d n).1) q
after_on d n (suc a) b =
    let p : suc a + b ≡ suc (a + b) = omega arith in
    let q : suc n + a ≡ n + suc a = omega arith in
    let e = span_after d link (request_on n) in
    ap (after_from d n) p
    ∙ after_more d n (a + b)
    ∙ after_on e (suc n) a b
    ∙ ap₂ (λ (x : Disparity) (i : ℕ). after_from x i b) (sym (after_more d n a)) q

-- a loop over five lines: what is left, put after what is there, is the whole
module _ (first k : ℕ) (h : k < 5) (d : Disparity) {after : Disparity} (n : ℕ) (here : n ≡ first + k) (was : after ≡ span_after d link (request_on n)) where
  is : after ≡ span_after d link (request_on (first + k))
  is = was ∙ ap (λ (i : ℕ). span_after d link (request_on i)) here

  pub after_step : after_from after (first + (k + 1)) (5 - (k + 1)) ≡ after_from d (first + k) (5 - k)
  after_step =
      let m = 5 - (k + 1) in
      let more : 5 - k ≡ suc m = omega arith in
      let next : suc (first + k) ≡ first + (k + 1) = omega arith in
      ap₂ (λ (e : Disparity) (n : ℕ). after_from e n m) is (sym next)
      ∙ sym (ap (after_from d (first + k)) more ∙ after_more d (first + k) m)

  pub sent_step : (symbols : List ℕ) {out : List ℕ} → out ≡ sets symbols (19008 * k) (span_symbols d link (request_on n))
      → sets out (19008 * (k + 1)) (sent_from after (first + (k + 1)) (5 - (k + 1))) ≡ sets symbols (19008 * k) (sent_from d (first + k) (5 - k))
  sent_step symbols put =
      let m = 5 - (k + 1) in
      let more : 5 - k ≡ suc m = omega arith in
      let next : suc (first + k) ≡ first + (k + 1) = omega arith in
      let span = span_symbols d link (request_on (first + k)) in
      let rest = sent_from (span_after d link (request_on (first + k))) (suc (first + k)) m in
      ap₂ (λ (l r : List ℕ). sets l (19008 * (k + 1)) r)
      (put ∙ ap (λ (i : ℕ). sets symbols (19008 * k) (span_symbols d link (request_on i))) here)
      (ap₂ (λ (e : Disparity) (n : ℕ). sent_from e n m) is (sym next))
      ∙ sets_append symbols span rest (19008 * k) (19008 * (k + 1)) (omega (arith, length_span d (first + k)))
      ∙ ap (sets symbols (19008 * k)) (sym (ap (sent_from d (first + k)) more ∙ sent_more d (first + k) m))
