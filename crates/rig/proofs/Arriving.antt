-- The span of a line as it arrives: read as it was sent where nothing of it is struck, and not read where something is; and K28.5 stands in it
-- at its first two symbols at most.
-- Assumes nothing.
use mathlib.Core.Path.{◌≡◌, refl, sym, ap, ◌∙◌}
use mathlib.Core.Bool.{Bool, true, false, cond}
use mathlib.Core.List.{List}
use mathlib.Core.Option.{Option, none, some}
use Prim.Native.Nat.{ℕ, ◌+◌, ◌-◌, ◌*◌, ◌≤◌, ◌<◌}
use native.Mathlib.Omega.{arith}
use lib.ListN.{length, get_or}
use lib.Seq.{ext_get_or}
use Rattle.ground.specs.Search.{first_from, first_below}
use Rattle.ground.proofs.Cases.{on_test}
use Rattle.ground.proofs.Searches.{hit_from, miss_from}
use Rattle.symbol.specs.declared.disparity.Disparity.{Disparity}
use Rattle.symbol.specs.declared.disparity.Disparity.TheVariants.{Negative, Positive}
use Rattle.symbol.specs.Code.{symbol_of, char_of}
use Rattle.span.specs.declared.format.Format.{Format}
use Rattle.span.specs.Format.{shape_of, symbols_in}
use Rattle.span.specs.Span.{span_symbols, span_after}
use Rattle.window.specs.Scan.{running_at}
use Rattle.window.proofs.Accepting.{accepted_told}
use Rattle.window.proofs.Symbols.{legal_told}
use Rattle.delivery.proofs.Finding.{told, untold}
use Rattle.delivery.proofs.Marks.{Apart}
use Rattle.recording.specs.Recording.{Reading, reading}
use Rattle.recording.specs.Inside.Look.{is_comma}
use Rattle.recording.proofs.Readings.{reading_told, span_marked}
use Rattle.demands.specs.Form.{Sending, WasSent, reading_of}
use Rattle.demands.proofs.Sendings.{sent_read}
use Rattle.rig.specs.declared.knock.Knock.{Knock}
use Rattle.reception.specs.Link.{link}
use Rattle.rig.specs.Knock.{struck, lost}
use Rattle.rig.specs.Sending.{request_on}
use Rattle.rig.proofs.Knocking.{length_knocked, knocked_at}
use Rattle.rig.proofs.Lines.{length_span, line_sent}
use Rattle.reception.proofs.Links.{link_known, link_symbols}
use Rattle.rig.specs.Inside.Knock.{knocked}

-- ---- 0 is no symbol

no_character : (d : Disparity) → char_of d 0 ≡ none
unfolding char_of symbol_of first_below first_from
no_character Negative = refl
no_character Positive = refl

-- so a window with 0 in it is not read
not_read : (f : Format) (w : List ℕ) (i : ℕ) → i < symbols_in (shape_of f) → get_or w i 0 ≡ 0 → reading f w ≡ none
not_read f w i h dark = go (reading f w) refl
  where
    go : (o : Option Reading) → reading f w ≡ o → reading f w ≡ none
    go none e = e
    go (some x) e =
        let legal = legal_told (shape_of f) w i ((accepted_told f w x.values (reading_told f w x e).values).scan i h) in
        let z : ◌≡◌ {A = ℕ} 0 1 = cc (sym (no_character (running_at w i)) ∙ rw dark at legal) in
        absurd (omega arith)

-- and it is not K28.5
no_comma : is_comma 0 ≡ false
unfolding is_comma symbol_of
no_comma = refl

-- ---- a span that was sent

-- a line's sending
abbrev pub sending : Disparity → ℕ → Sending
sending d n = record { before = d; asked = request_on n }

-- the place of its first symbol in the frame, and its symbols as they arrive
abbrev pub place_of : ℕ → ℕ
place_of n = 19008 * (n - 1)

abbrev pub arrived : Knock → Disparity → ℕ → List ℕ
arrived k d n = knocked k (place_of n) (span_symbols d link (request_on n))

module _ (k : Knock) (d : Disparity) (n : ℕ) (low : 1 ≤ n) (high : n ≤ 1125) where
  abbrev span : List ℕ
  span = span_symbols d link (request_on n)

  was_sent : WasSent link (sending d n)
  was_sent = record {
    room = 19008;
    after = span_after d link (request_on n);
    sent = line_sent n low high d;
    content = record { sav1 = omega arith; sav2 = omega arith; eav1 = omega arith; eav2 = omega arith };
  }

  read_as_sent : reading link span ≡ some (reading_of link (sending d n))
  read_as_sent = sent_read link (sending d n) was_sent

  length_arrived : length (arrived k d n) ≡ symbols_in (shape_of link)
  length_arrived = length_knocked k (place_of n) span ∙ length_span d n ∙ sym link_symbols

  struck_at : (i : ℕ) (b : Bool) → struck k (place_of n + i) ≡ b → get_or (arrived k d n) i 0 ≡ cond b 0 (get_or span i 0)
  struck_at i b t = knocked_at k (place_of n) span i ∙ ap (λ (c : Bool). cond c 0 (get_or span i 0)) t

  -- nothing of it is struck
  pub arrives : lost k n ≡ false → reading link (arrived k d n) ≡ some (reading_of link (sending d n))
  unfolding lost
  arrives t =
      let never = (miss_from (struck k) _ _ (untold _ t)).never in
      let same : arrived k d n ≡ span =
      ext_get_or 0 (arrived k d n) span (length_knocked k (place_of n) span)
      (λ i h. struck_at i false (never (place_of n + i) (omega arith) (omega (arith, length_knocked k (place_of n) span, length_span d n)))) in
      ap (reading link) same ∙ read_as_sent

  -- something is
  pub is_lost_lem : lost k n ≡ true → reading link (arrived k d n) ≡ none
  unfolding lost
  is_lost_lem t =
      let (j, e) = told _ t in
      let at = hit_from (struck k) _ _ j e in
      let i = j - place_of n in
      let here : place_of n + i ≡ j = omega (arith, at.from) in
      let dark = struck_at i true (ap (struck k) here ∙ at.holds) in
      not_read link (arrived k d n) i (omega (arith, at.from, at.below, link_symbols)) dark

  -- K28.5 may stand at its first two symbols, and stands nowhere else
  pub none_inside : Apart (symbols_in (shape_of link)) (reading link) is_comma (span_marked link link_known) (arrived k d n)
  none_inside = record {
    long = length_arrived;
    none = λ i from to.
        on_test (struck k (place_of n + i))
        (λ t. ap is_comma (struck_at i true t) ∙ no_comma)
        (λ t.
        ap is_comma (struck_at i false t)
        ∙ on_test (is_comma (get_or span i 0))
        (λ c. let early = (span_marked link link_known).only span (reading_of link (sending d n)) read_as_sent i to c in absurd (omega arith))
        (λ c. c));
  }
