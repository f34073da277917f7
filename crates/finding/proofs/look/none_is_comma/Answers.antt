-- `finding::look::none_is_comma` meets its contract: the marks together are 0 only if each is, and if each is.
-- Assumes nothing.
use mathlib.Core.Path.{◌≡◌, sym, ◌∙◌}
use mathlib.Core.Bool.{false}
use native.Mathlib.Omega.{arith}
use lib.Bits.{or_add_and, and_le_l, and_le_r}
use Rattle.ground.proofs.Cases.{on_test}
use Rattle.recording.proofs.Looking.{one_behind}
use Rattle.finding.proofs.look.none_is_comma.Goals as goal

pub loop-k-preserved : goal.loop-k-preserved
loop-k-preserved c =
    let v = c.loop-k in
    let mark = c.from-found.result in
    record {
      sound =
          (λ z.
          let before : v.found ≡ 0 = omega (arith, or_add_and v.found mark, and_le_r v.found mark) in
          let here : mark ≡ 0 = omega (arith, or_add_and v.found mark, and_le_l v.found mark) in
          let none : c.is_comma.result ≡ false = on_test c.is_comma.result (λ t. let one : mark ≡ 1 = rw t at c.from-found.ensures in absurd (omega arith)) (λ t. t) in
          one_behind c.args.symbols.now (v.invariant.sound before) (sym c.is_comma.ensures ∙ none));
      kept =
          (λ clear.
          let before : v.found ≡ 0 = v.invariant.kept (record { none = λ j p l. clear.none j p (omega arith) }) in
          let none : c.is_comma.result ≡ false = c.is_comma.ensures ∙ clear.none v.k (omega arith) (omega arith) in
          let here : mark ≡ 0 = rw none at c.from-found.ensures in
          omega (arith, or_add_and v.found mark));
    }
