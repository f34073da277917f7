-- What is a window, what is given with one, and what the calls answer of it.
-- Assumes nothing.
use Rattle.std.specs.Prelude.{Option as Answered}
use mathlib.Core.Path.{◌≡◌, refl, sym, ap, ◌∙◌}
use mathlib.Core.Bool.{true, false}
use mathlib.Core.List.{List}
use mathlib.Core.Option.{Option, some, get_or}
use Prim.Native.Nat.{ℕ, ◌+◌, ◌*◌}
use native.Mathlib.Omega.{arith}
use lib.Dec.{eqb}
use lib.ListN.{length}
use borrow.Author.Tests.{eqb-true}
use Rattle.ground.proofs.Tests.{both_left, both_right}
use Rattle.decoder.specs.Inside.Decoder.{decoding_table}
use Rattle.line.specs.declared.stream.StreamLine.{StreamLine}
use Rattle.line.specs.Stream.{line_before}
use Rattle.span.specs.declared.content.ContentBytes.{ContentBytes}
use Rattle.span.specs.declared.format.Format.{Format}
use Rattle.span.specs.declared.format.Shape.{Shape}
use Rattle.span.specs.Format.{is_known, shape_of, symbols_in, streams, eav_at}
use Rattle.span.specs.Layout.{picture_start, eav_start, ancillary_start}
use Rattle.span.specs.Inside.Layout.{eav_symbol}
use Rattle.span.proofs.Formats.{small}
use Rattle.span.proofs.Lengths.{known_has_streams}
use Rattle.crcc.specs.declared.sums.Sums.{Sums}
use Rattle.window.specs.declared.delivery.Repairs.{Repairs}
use Rattle.window.specs.Read.{content_in, repairs_of}
use Rattle.window.specs.Scan.{byte_of, symbol_at}
use Rattle.window.specs.Tests.{named, next_line, line_read, repair_count, repairs_at}
use Rattle.window.specs.Words.{word_at}
use Rattle.window.specs.Inside.Given.{Given}
use Rattle.read_test21_26.specs.declared.service.Test.TheVariants.{Timing, Line, V, Crcc, Sample, Fill}
use Rattle.read_test21_26.specs.declared.service.Test.{Test}
use Rattle.read_test21_26.specs.Inside.Call.{is_window, service_of, wrong25, wrong26, place_of}
use Rattle.read_test21_26.specs.Inside.Holds.{holds_of, holds_at, wrong_in, lowest_of}

module _ (f : Format) (n : ℕ) where
  pub known : is_known f ≡ true → {symbols : ℕ} → symbols ≡ symbols_in (shape_of f) → eqb n symbols ≡ is_window f n
  known k e = rw (k, e)

  pub not_known : is_known f ≡ false → false ≡ is_window f n
  not_known k = rw k

-- what functions over its words are given
pub given : {p : Shape} {t w : List ℕ} (f : Format) → is_window f (length w) ≡ true → p ≡ shape_of f → t ≡ decoding_table → Given p t w
given {p} {t} {w} f is e table =
    let long = eqb (length w) (symbols_in (shape_of f)) in
    record {
      table = table;
      half = rw e (known_has_streams f (both_left (is_known f) long is));
      small = small f e;
      long = eqb-true _ _ (both_right (is_known f) long is) ∙ ap symbols_in (sym e);
    }

-- ---- the content bytes
module _ (p : Shape) (w : List ℕ) {x1 x2 x3 x4 : ℕ} where
  pub content_is : x1 ≡ byte_of (symbol_at w 2) → x2 ≡ byte_of (symbol_at w 3) → x3 ≡ byte_of (symbol_at w (eav_symbol * p.stream_pairs + 2))
      → x4 ≡ byte_of (symbol_at w (eav_symbol * p.stream_pairs + 3)) → record { sav1 = x1; sav2 = x2; eav1 = x3; eav2 = x4 } ≡ content_in p w
  content_is e1 e2 e3 e4 = let at : eav_symbol * p.stream_pairs ≡ eav_at p = omega arith in rw (e1, e2, e3, e4, at)

-- ---- the answers
module _ (p : Shape) (w : List ℕ) where
  pub service_is : {l m : StreamLine} {r : Repairs} {b : ContentBytes} → some m.0 ≡ named (streams p) (word_at p w) → l.0 ≡ line_before m.0
      → b ≡ content_in p w → r ≡ repairs_of (repair_count (streams p) (word_at p w)) (repairs_at (streams p) (word_at p w))
      → record { line = l; content = b; repairs = r } ≡ service_of p w
  unfolding line_read next_line
  service_is {l} {m} {r} {b} named_is el eb er =
      let line : l.0 ≡ line_read (streams p) (word_at p w) =
      el ∙ ap (λ (o : Option ℕ). line_before (get_or o 0)) named_is in
      rw (eb, er, ← line)

-- by the shape in hand, the test and the range in any form
module _ (f : Format) (w : List ℕ) {p : Shape} (e : p ≡ shape_of f) (c : Sums) {r : Answered ℕ} {test : Test} {from to : ℕ} where
  pub is_place_25 : r ≡ lowest_of (wrong_in (holds_at test f p w c) from to) → from ≡ picture_start * streams p → to ≡ eav_start * streams p
      → test ≡ Sample → r ≡ lowest_of (wrong25 f w)
  unfolding wrong25 holds_of
  is_place_25 is low high asked = is ∙ rw (low, high, asked, e)

  pub is_place_26 : r ≡ lowest_of (wrong_in (holds_at test f p w c) from to) → from ≡ streams p * (ancillary_start + p.ancillary)
      → to ≡ streams p * (ancillary_start + p.ancillary) + 2 * p.fill_pairs → test ≡ Fill → r ≡ lowest_of (wrong26 f w)
  unfolding wrong26 holds_of
  is_place_26 is low high asked = is ∙ rw (low, high, asked, e)

pub other_place : (test : Test) (f : Format) (w : List ℕ) → (test ≡ Sample → ⊥) → place_of test f w ≡ wrong26 f w
other_place Timing f w n = refl
other_place Line f w n = refl
other_place V f w n = refl
other_place Crcc f w n = refl
other_place Sample f w n = absurd (n refl)
other_place Fill f w n = refl
