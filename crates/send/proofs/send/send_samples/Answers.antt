-- `send::send::send_samples` meets its contract: what the check finds decides, and `send_span` says what is written.
-- Assumes nothing.
use Rattle.std.proofs.Common.{◌≡◌, ℕ, ◌<◌, List, length, sym, ap, ◌∙◌, arith}
use Rattle.ground.specs.Answer.{given}
use Rattle.ground.proofs.Answers.{when_refused, when_given}
use Rattle.span.specs.declared.sample.Bounds.{Bounds}
use Rattle.request.specs.Send.{request}
use Rattle.request.specs.Inside.Check.{first_outside}
use Rattle.request.proofs.Refusals.{send_meets_6, sends, is_good}
use Rattle.send.proofs.send.send_samples.Goals as goal

found_by : (xs : List ℕ) {w : ℕ} {b m : Bounds} → w ≡ first_outside b.low b.high xs → b ≡ m → w ≡ first_outside m.low m.high xs
found_by xs e q = e ∙ ap (λ (b : Bounds). first_outside b.low b.high xs) q

pub returns-in-Some : goal.returns-in-Some
returns-in-Some c =
    let a = c.args in
    let b = c.bounds_of-bounds.result in
    let inside : c.in-Some.wrong < length a.samples.now = grind arith in
    let found : c.in-Some.wrong ≡ first_outside b.low b.high a.samples.now = grind arith in
    let bad = send_meets_6 a.d a.f (request a.l.0 a.content a.samples.now) (length a.symbols.now) c.requires.f_value c.requires.l_value c.requires.samples_len c.requires.symbols_len _ (found_by a.samples.now found c.bounds_of-bounds.ensures) inside in
    record { answer = sym bad; symbols = when_refused _ _ bad }

pub send_span-requires-clause-accepted : goal.send_span-requires-clause-accepted
send_span-requires-clause-accepted c =
    let a = c.args in
    let b = c.bounds_of-bounds.result in
    let none : length a.samples.now ≡ first_outside b.low b.high a.samples.now = grind arith in
    is_good a.d a.f (request a.l.0 a.content a.samples.now) (length a.symbols.now) c.requires.f_value c.requires.l_value c.requires.samples_len c.requires.symbols_len _ (found_by a.samples.now none c.bounds_of-bounds.ensures) (omega arith)

pub returns : goal.returns
returns c =
    let a = c.args in
    let b = c.bounds_of-bounds.result in
    let none : length a.samples.now ≡ first_outside b.low b.high a.samples.now = grind arith in
    let good = sends a.d a.f (request a.l.0 a.content a.samples.now) (length a.symbols.now) c.requires.f_value c.requires.l_value c.requires.samples_len c.requires.symbols_len _ (found_by a.samples.now none c.bounds_of-bounds.ensures) (omega arith) in
    record { answer = ap given c.send_span.ensures.after ∙ sym good; symbols = c.send_span.ensures.symbols ∙ when_given _ _ good }
