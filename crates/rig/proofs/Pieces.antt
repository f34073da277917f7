-- A piece of the frame: each of its lines is delivered, with what was sent on it, or lost, and nothing else is delivered.
-- Assumes nothing.
use mathlib.Core.Path.{◌≡◌, refl, sym, ap, ap₂, ◌∙◌}
use mathlib.Core.Bool.{true, false}
use mathlib.Core.List.{List, [], ◌++◌, append-nil}
use mathlib.Core.Option.{Option}
use Prim.Native.Nat.{ℕ, zero, suc, ◌+◌, ◌-◌, ◌*◌, ◌≤◌, ◌<◌}
use native.Mathlib.Nat.{add-zero}
use native.Mathlib.Omega.{arith}
use lib.ListN.{length, replicate}
use lib.Seq.{sets}
use Rattle.ground.specs.Written.{upto}
use Rattle.ground.proofs.Cases.{on_test}
use Rattle.ground.proofs.Ranges.{is_within}
use Rattle.ground.proofs.Writing.{upto_more, length_upto}
use Rattle.symbol.specs.declared.disparity.Disparity.{Disparity}
use Rattle.span.specs.Format.{shape_of, symbols_in}
use Rattle.span.specs.Span.{span_symbols, span_after}
use Rattle.delivery.specs.Delivery.{Found, either, deliver, deliver_by as deliver_by}
use Rattle.delivery.proofs.Marks.{apart}
use Rattle.delivery.proofs.Steps.{of_nothing}
use Rattle.recording.specs.Recording.{Reading, reading, delivery_from}
use Rattle.recording.specs.Inside.Look.{is_comma}
use Rattle.recording.proofs.Readings.{span_marked}
use Rattle.demands.specs.Form.{reading_of}
use Rattle.rig.specs.declared.knock.Knock.{Knock}
use Rattle.reception.specs.Link.{link}
use Rattle.rig.specs.Knock.{lost}
use Rattle.reception.specs.Receiving.{put_one, put_all}
use Rattle.rig.specs.Sending.{request_on}
use Rattle.rig.proofs.Arriving.{sending, place_of, arrived, arrives, is_lost_lem, none_inside}
use Rattle.rig.proofs.Knocking.{knocked_append}
use Rattle.rig.proofs.Lines.{length_span, no_line_more, sent_more}
use Rattle.reception.proofs.Links.{link_known}
use Rattle.rig.specs.Inside.Knock.{knocked}
use Rattle.rig.specs.Inside.Sending.{sent_from}
use Rattle.rig.proofs.Slots.{padded, slot_put}

abbrev N : ℕ
N = symbols_in (shape_of link)

-- delivery of symbols from place p on
abbrev on : ℕ → List ℕ → List (Found Reading)
on p l = deliver N (reading link) p 0 l

module _ (k : Knock) where
  -- the symbols of m lines from line n on, as they arrive
  abbrev pub arrived_from : Disparity → ℕ → ℕ → List ℕ
  arrived_from d n m = knocked k (place_of n) (sent_from d n m)

  -- the first of them by itself, and then the others
  pub line_then : (d : Disparity) (n m : ℕ) → 1 ≤ n → n ≤ 1125 → (p : ℕ)
      → let rest = on (p + N) (arrived_from (span_after d link (request_on n)) (suc n) m) in
      on p (arrived_from d n (suc m)) ≡ either p (reading link (arrived k d n)) rest rest
  line_then d n m low high p =
      let span = span_symbols d link (request_on n) in
      let rest = sent_from (span_after d link (request_on n)) (suc n) m in
      let q : place_of n + length span ≡ place_of (suc n) = omega (arith, length_span d n) in
      ap (λ (l : List ℕ). on p (knocked k (place_of n) l)) (sent_more d n m)
      ∙ ap (on p) (knocked_append k (place_of n) span rest ∙ ap (λ (j : ℕ). arrived k d n ++ knocked k j rest) q)
      ∙ apart N (reading link) is_comma (span_marked link link_known) (arrived k d n) _ p (none_inside k d n low high)

  -- what is made of a line's span is put at its line's slot: a slot for each line
  pub record Slots (size : ℕ) (what : Reading → List ℕ) (slot : ℕ → List ℕ) : Type 0 where
    pub sized : (n : ℕ) → length (slot n) ≡ size
    pub dark : (n : ℕ) → lost k n ≡ true → slot n ≡ padded size []
    pub fits : (d : Disparity) (n : ℕ) → length (what (reading_of link (sending d n))) ≤ size
    pub shown : (d : Disparity) (n : ℕ) → 1 ≤ n → n ≤ 1125 → lost k n ≡ false → slot n ≡ padded size (what (reading_of link (sending d n)))

  module _ {size : ℕ} {what : Reading → List ℕ} {slot : ℕ → List ℕ} (s : Slots size what slot) (first : ℕ) (low : 1 ≤ first) (high : first ≤ 1121) where
    abbrev of : ℕ → List ℕ
    of i = slot (first + i)

    -- the slots of j lines, and m that are empty
    abbrev filled : ℕ → ℕ → List ℕ
    filled j m = upto j of ++ replicate (size * m) 0

    -- the next slot
    next : (j m : ℕ) (c : List ℕ) → length c ≤ size → of j ≡ padded size c → sets (filled j (suc m)) (size * j) c ≡ filled (j + 1) m
    next j m c h e =
        slot_put size m (upto j of) c (size * j) (length_upto size of (λ i. s.sized (first + i)) j) h
        ∙ ap (λ (l : List ℕ). l ++ replicate (size * m) 0)
        (ap (λ (l : List ℕ). upto j of ++ l) (sym e) ∙ sym (upto_more j of))

    -- one line: its slot is filled, or stays empty
    line_put : (j m : ℕ) (d : Disparity) (p : ℕ) → j < 5
        → put_all size what first (filled j (suc m)) (on p (arrived_from d (first + j) (suc m)))
        ≡ put_all size what first (filled (j + 1) m) (on (p + N) (arrived_from (span_after d link (request_on (first + j))) (first + (j + 1)) m))
    unfolding put_all
    line_put j m d p h =
        ap (put_all size what first (filled j (suc m))) (line_then d n m (omega arith) (omega arith) p)
        ∙ on_test (lost k n)
        (λ t. by (is_lost_lem k d n (omega arith) (omega arith) t) ∙ then (next j m [] (omega arith) (s.dark n t)))
        (λ t. by (arrives k d n (omega arith) (omega arith) t) ∙ then (one t))
        ∙ ap (λ (i : ℕ). put_all size what first (filled (j + 1) m) (on (p + N) (arrived_from (span_after d link (request_on n)) i m))) q
      where
        n : ℕ
        n = first + j

        rest : List (Found Reading)
        rest = on (p + N) (arrived_from (span_after d link (request_on n)) (suc n) m)

        q : suc n ≡ first + (j + 1)
        q = omega arith

        by : {a b : Option Reading} → a ≡ b
            → put_all size what first (filled j (suc m)) (either p a rest rest) ≡ put_all size what first (filled j (suc m)) (either p b rest rest)
        by e = ap (λ (o : Option Reading). put_all size what first (filled j (suc m)) (either p o rest rest)) e

        then : {a b : List ℕ} → a ≡ b → put_all size what first a rest ≡ put_all size what first b rest
        then e = ap (λ (l : List ℕ). put_all size what first l rest) e

        one : lost k n ≡ false → put_one size what first (filled j (suc m)) (reading_of link (sending d n)) ≡ filled (j + 1) m
        one t =
            let here : n - first ≡ j = omega arith in
            rw (is_within first (first + 4) n (omega arith) (omega arith), here)
            (next j m (what (reading_of link (sending d n))) (s.fits d n) (s.shown d n (omega arith) (omega arith) t))

    all_put : (m j : ℕ) (d : Disparity) (p : ℕ) → j + m ≡ 5
        → put_all size what first (filled j m) (on p (arrived_from d (first + j) m)) ≡ upto 5 of
    unfolding knocked put_all
    all_put zero j d p e =
        let all : j ≡ 5 = omega arith in
        let none_left : on p (arrived_from d (first + j) 0) ≡ [] =
        ap (λ (l : List ℕ). on p (knocked k (place_of (first + j)) l)) (no_line_more d (first + j)).0 ∙ of_nothing N (reading link) p 0 in
        let empty : size * 0 ≡ 0 = omega arith in
        ap (put_all size what first (filled j 0)) none_left
        ∙ ap₂ (λ (i z : ℕ). upto i of ++ replicate z 0) all empty
        ∙ append-nil (upto 5 of)
    all_put (suc m) j d p e =
        line_put j m d p (omega arith) ∙ all_put m (j + 1) (span_after d link (request_on (first + j))) (p + N) (omega arith)

    -- the law: of five lines from line `first` on, the slots are what is made of their delivery
    pub piece_put : (d : Disparity) → put_all size what first (replicate (size * 5) 0) (delivery_from link (arrived_from d first 5) 0) ≡ upto 5 of
    unfolding deliver_by upto
    piece_put d =
        let q : first ≡ first + 0 = sym (add-zero first) in
        ap (λ (n : ℕ). put_all size what first (replicate (size * 5) 0) (delivery_from link (arrived_from d n 5) 0)) q
        ∙ all_put 5 0 d 0 refl
