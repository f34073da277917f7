-- What a symbol means, said by the symbols of the characters alone, proved.
-- Assumes nothing.
use mathlib.Core.Path.{◌≡◌, refl, sym, ap, ◌∙◌}
use mathlib.Core.Bool.{true, true≢false}
use mathlib.Core.Option.{Option, none, some, map}
use Prim.Native.Nat.{ℕ, ◌<◌}
use native.Mathlib.Omega.{arith}
use lib.Dec.{ltb}
use borrow.Author.Tests.{ltb-true, ltb-false}
use Rattle.ground.specs.Answer.{Answer, refused, given}
use Rattle.ground.specs.Search.{is_some}
use Rattle.ground.proofs.Cases.{on_test}
use Rattle.symbol.specs.declared.disparity.Disparity.{Disparity}
use Rattle.symbol.specs.declared.disparity.Disparity.TheVariants.{Negative, Positive}
use Rattle.symbol.specs.Character.{character_of}
use Rattle.symbol.specs.Code.{symbol_of, char_of}
use Rattle.symbol.proofs.Inverse.{decode_encode, encode_decode, decoded_below, illegal_is, one_meaning}
use Rattle.symbol.proofs.Ones.{symbol_below}
use Rattle.decoder.specs.Meaning.{Means, first_of, meant_by, meaning_of}
use Rattle.decoder.specs.Paper.{IsSymbol, DecoderPaper}
use Rattle.decoder.proofs.Answers.{meaning_told, meaning_meets_7}

-- a symbol is a character's where the search finds one
found : (d : Disparity) (s : ℕ) → is_some (char_of d s) ≡ true → IsSymbol d s
found d s t = go (char_of d s) refl t
  where
    go : (o : Option ℕ) → char_of d s ≡ o → is_some o ≡ true → IsSymbol d s
    go none e t = absurd (true≢false (sym t))
    go (some c) e t = (c, decoded_below d s c e, encode_decode d s c e)

finds : (d : Disparity) (s : ℕ) → IsSymbol d s → is_some (char_of d s) ≡ true
finds d s (c, h, e) = ap is_some (ap (char_of d) (sym e) ∙ decode_encode d c h)

-- the first of two that is there is the one, where both are the same
first_of_lem : (a b : Option ℕ) (c : ℕ) → ((x : ℕ) → a ≡ some x → x ≡ c) → b ≡ some c → first_of a b ≡ some c
first_of_lem none b c same e = e
first_of_lem (some x) b c same e = ap some (same x refl)

meant_is : (d : Disparity) (c : ℕ) → c < 268 → meant_by (symbol_of d c) ≡ some c
meant_is Negative c h = rw (decode_encode Negative c h) refl
meant_is Positive c h =
    let s = symbol_of Positive c in
    let here = decode_encode Positive c h in
    first_of_lem (char_of Negative s) (char_of Positive s) c (λ x e. one_meaning Negative Positive s x c e here) here

-- what is told of a number
abbrev told : ℕ → Means
told s =
    record {
      character = map character_of (meant_by s);
      negative = is_some (char_of Negative s);
      positive = is_some (char_of Positive s);
    }

as_told : (s : ℕ) (m : Means) → meaning_of s ≡ given m → (m.negative ≡ is_some (char_of Negative s)) × (m.positive ≡ is_some (char_of Positive s))
as_told s m e =
    on_test (ltb s 1024)
    (λ t.
    let same : given m ≡ given (told s) = sym e ∙ meaning_told s (omega (arith, ltb-true s 1024 t)) in
    let is : m ≡ told s = cc same in
    (ap (λ (x : Means). x.negative) is, ap (λ (x : Means). x.positive) is))
    (λ t.
    let z : ◌≡◌ {A = Answer Means} (given m) (refused 7 0) = sym e ∙ meaning_meets_7 s (ltb-false s 1024 t) in
    let y : ◌≡◌ {A = ℕ} 0 1 = cc z in absurd (omega arith))

pub decoder_paper : DecoderPaper
decoder_paper = record {
  means = λ d c h. (
    told (symbol_of d c),
    meaning_told (symbol_of d c) (omega (arith, symbol_below d c h)),
    ap (map character_of) (meant_is d c h),
  );
  negative = λ s m e.
      let (is, _) = as_told s m e in (λ t. found Negative s (sym is ∙ t), λ x. is ∙ finds Negative s x);
  positive = λ s m e.
      let (_, is) = as_told s m e in (λ t. found Positive s (sym is ∙ t), λ x. is ∙ finds Positive s x);
  nothing = λ s h none-at.
      let no : (d : Disparity) → char_of d s ≡ none = λ d. illegal_is d s (λ c l e. none-at d (c, l, e)) in
      meaning_told s h ∙ rw (no Negative, no Positive) refl;
}
