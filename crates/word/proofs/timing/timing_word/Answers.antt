-- `word::timing::timing_word` meets its contract: at each return V and H are known.
-- Assumes nothing.
use mathlib.Core.Path.{◌≡◌}
use mathlib.Core.Bool.{true, false}
use Rattle.word.specs.Timing.{timing}
use Rattle.word.proofs.timing.timing_word.Goals as goal

pub returns-then-h : goal.returns-then-h
unfolding timing
returns-then-h c =
    let v : c.args.v ≡ true = c.if-v.true in
    let h : c.args.h ≡ true = c.if-h.true in
    rw (v, h)

pub returns-then-v : goal.returns-then-v
unfolding timing
returns-then-v c =
    let v : c.args.v ≡ true = c.if-v.true in
    let h : c.args.h ≡ false = c.if-h.false in
    rw (v, h)

pub returns-then-h-2 : goal.returns-then-h-2
unfolding timing
returns-then-h-2 c =
    let v : c.args.v ≡ false = c.if-v.false in
    let h : c.args.h ≡ true = c.if-h-2.true in
    rw (v, h)

pub returns : goal.returns
unfolding timing
returns c =
    let v : c.args.v ≡ false = c.if-v.false in
    let h : c.args.h ≡ false = c.if-h-2.false in
    rw (v, h)
