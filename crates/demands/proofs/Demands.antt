-- The three demands, and what is held beyond them, proved: each field cites the law that says it.
-- Assumes nothing.
use mathlib.Core.Path.{◌≡◌, refl, sym, ap, ◌∙◌}
use mathlib.Core.Bool.{Bool, true, false}
use mathlib.Core.List.{List, ◌++◌}
use mathlib.Core.Option.{Option, none, some}
use Prim.Native.Nat.{ℕ, ◌+◌, ◌%◌, ◌≤◌, ◌<◌}
use native.Mathlib.Omega.{arith}
use lib.ListN.{length, take, drop, length-append}
use borrow.Author.Tests.{eqb-true}
use Rattle.ground.specs.Answer.{refused, given}
use Rattle.ground.specs.Bit.{inverted}
use Rattle.ground.specs.Written.{upto}
use Rattle.ground.proofs.Answers.{given_is, when_given}
use Rattle.symbol.specs.declared.disparity.Disparity.{Disparity}
use Rattle.symbol.proofs.Paper.{symbol_paper}
use Rattle.decoder.proofs.Paper.{decoder_paper}
use Rattle.line.proofs.Paper.{line_paper}
use Rattle.picture.proofs.Paper.{picture_paper}
use Rattle.dividing.proofs.Paper.{dividing_paper}
use Rattle.way_back.proofs.Paper.{way_back_paper}
use Rattle.way_back.proofs.Undone.{undone}
use Rattle.word.proofs.Paper.{word_paper}
use Rattle.crcc.proofs.Paper.{crcc_paper}
use Rattle.packing.proofs.Paper.{packing_paper}
use Rattle.span.proofs.Paper.{span_paper}
use Rattle.decoder.proofs.Answers.{decodes}
use Rattle.std.specs.Prelude.{Some}
use Rattle.word.specs.Repair.{legal_word, repair_of}
use Rattle.word.specs.Timing.{timing}
use Rattle.word.proofs.WrongWords.{one_wrong, two_wrong}
use Rattle.picture.specs.Division.{w}
use Rattle.dividing.specs.Row.{divided, joined, split_of, join_of}
use Rattle.dividing.proofs.RoundTrip.{join_split, split_join, place_agrees}
use Rattle.span.specs.Content.{Content, content_of}
use Rattle.span.specs.declared.format.Format.{Format}
use Rattle.span.specs.Format.{is_known, shape_of, streams, symbols_in}
use Rattle.span.specs.Span.{span_symbols, span_after}
use Rattle.span.specs.Stream.{Request, picture}
use Rattle.span.specs.Numbers.{IsFormat, Symbols}
use Rattle.window.specs.Encoded.{AreContent}
use Rattle.window.specs.Read.{picture_of, read_of}
use Rattle.window.proofs.Accepting.{row_passed}
use Rattle.window.proofs.Paper.{window_paper}
use Rattle.window.proofs.RoundTrip.{sent_encodes, round_trip, picture_back}
use Rattle.window.proofs.TimingWords.{repaired_delivered}
use Rattle.delivery.specs.Delivery.{Found}
use Rattle.delivery.proofs.Paper.{delivery_paper}
use Rattle.delivery.proofs.Keeping.{kept_start, kept_last}
use Rattle.delivery.proofs.Finding.{untold, not_at_the_end, found_at_lem, found_told, found_nowhere, nowhere_told, literally, stands_whole}
use Rattle.recording.specs.Call.{find_rows, find_of}
use Rattle.recording.specs.Recording.{accepts, limit, Reading, reading, find_from, delivery_from}
use Rattle.recording.proofs.Calling.{finds}
use Rattle.recording.proofs.Paper.{recording_paper}
use Rattle.recording.proofs.Readings.{span_whole}
use Rattle.span.specs.Blanking.{fill_of, blank_row}
use Rattle.request.specs.Send.{request, refusals, send_of, sent_buffer}
use Rattle.request.specs.Laws.{GoodCall}
use Rattle.request.proofs.GoodCalls.{good_is_sent}
use Rattle.demands.specs.Form.{Sending, WasSent, reading_of, DeliveredFrom, Delivered}
use Rattle.demands.specs.Demands.{Demand1, Delivers, Demand2, Demand3, Beyond}
use Rattle.demands.proofs.Again.{again}
use Rattle.demands.proofs.Delivering.{steps_are, delivered, accepted, anywhere, alone, damaged, nothing, fewer, one_inverted, beginning, found_none, found_and_read}
use Rattle.demands.proofs.PictureBack.{images_two, images_four, two_good, two_back, four_good, four_back}
use Rattle.recording.proofs.Steps.{refused_stays, end_stays, steps_deliver}
use Rattle.demands.proofs.Refusing.{known_says, samples_say, meaning_tried, decode_tried, repair_tried, line_words_tried, read_line_words_tried, crcc_tried, pack_tried, place_tried, back_tried, lent, split_tried, join_tried, lengths_tried, fill_tried, send_tried, judge_tried, read_tried, rows_left_lem, find_tried, next_tried, next_some}
use Rattle.demands.proofs.Sendings.{row_holds, sendable, sent_crcc}

-- ==== 1 ====

pub demand_1 : Demand1
demand_1 = record {
  meaning = meaning_tried;
  decode = decode_tried;
  repair = repair_tried;
  line_words = line_words_tried;
  read_line_words = read_line_words_tried;
  crcc = crcc_tried;
  pack = pack_tried;
  place = place_tried;
  back = back_tried;
  split =
      λ whole first second.
      let r = split_of whole first second in
      (split_tried whole first second, lent r first (divided 0 1920 whole), lent r second (divided 1 1920 whole));
  join =
      λ first second whole.
      (join_tried first second whole, lent (join_of first second whole) whole (joined 1920 first second));
  lengths = lengths_tried;
  fill = λ f entry. (fill_tried f entry, lent (fill_of f entry) entry (blank_row f));
  send =
      λ d f a entry.
      (send_tried d f a (length entry), lent (send_of d f a (length entry)) entry (span_symbols d f a));
  judge = judge_tried;
  read = λ f w entry. (read_tried f w (length entry), rows_left_lem (read_of f w (length entry)) entry (picture_of f w));
  find = find_tried;
  next = λ f r start entry. next_tried f r start (length entry);
  next_refused = refused_stays;
  next_none = λ f r start entry e.
      let n = symbols_in (shape_of f) in
      let at = end_stays f r start entry e in (
        at.0,
        λ h. at.1 ∙ kept_start n (length r) start h,
        λ h. ap (λ (k : ℕ). k + n) at.1 ∙ kept_last n (length r) start h,
      );
  next_some = next_some;
}

-- ==== 2 ====

-- the words of V and H by their number
timed : (C : ℕ → Type 0) → ((vh : ℕ) → vh < 4 → C (legal_word vh)) → (v h : Bool) → C (timing v h)
timed C each false false = each 0 (omega arith)
timed C each false true = each 1 (omega arith)
timed C each true false = each 2 (omega arith)
timed C each true true = each 3 (omega arith)

-- w of an image, which is 0 for images 1 and 3 and 1 for 2 and 4
which : (u : ℕ) → 1 ≤ u → u ≤ 4 → w u ≡ (u + 1) % 2
unfolding w
which u p q = omega arith

-- a call that is answered has sent the span
as_asked : (d e : Disparity) (f : Format) (a : Request) (entry : List ℕ) → send_of d f a (length entry) ≡ given e
    → (sent_buffer d f a entry ≡ span_symbols d f a) × (e ≡ span_after d f a)
as_asked d e f a entry sent = (sym (when_given entry (span_symbols d f a) sent), sym (given_is (refusals f a (length entry)) (span_after d f a) e sent))

-- a recording is delivered as its delivery says, from any place on
from_place : (f : Format) → IsFormat f → (r : List ℕ) → length r ≤ limit → (p : ℕ) → p ≤ length r → (list : List (Found Reading))
    → delivery_from f r p ≡ list → DeliveredFrom f r p list
from_place f known r short p inside list e rows room k h =
    delivered f ((known_says f).holds known) r short p inside list e rows
    (eqb-true _ _ ((samples_say f known (length rows)).holds room)) k h

by_calls : (f : Format) → IsFormat f → (r : List ℕ) → length r ≤ limit → (list : List (Found Reading)) → delivery_from f r 0 ≡ list
    → Delivered f r list
by_calls f known r short list e = from_place f known r short 0 (omega arith) list e

-- a good call of a line of the picture: it is sent, and delivered wherever it stands
module _ (f : Format) (known : IsFormat f) (l : ℕ) (content : Content) (samples : List ℕ) (bytes : AreContent (content_of f content))
    (good : (room : ℕ) → Symbols f room → GoodCall f (l + 41) samples room) where
  abbrev a : Request
  a = request (l + 41) content samples

  is_sent : (d : Disparity) (entry : List ℕ) → Symbols f (length entry) → send_of d f a (length entry) ≡ given (span_after d f a)
  is_sent d entry s = good_is_sent d f a (length entry) (good (length entry) s)

  delivers : Delivers f l content samples (upto (streams (shape_of f)) (picture f a))
  delivers = record {
    sent = is_sent;
    found = λ d before entry behind s short.
        let x : Sending = record { before = d; asked = a } in
        let sent : WasSent f x = record { room = length entry; after = span_after d f a; sent = is_sent d entry s; content = bytes } in
        let put = (as_asked d (span_after d f a) f a entry (is_sent d entry s)).0 in
        let r = before ++ (sent_buffer d f a entry ++ behind) in
        let e = ap (λ (l : List ℕ). delivery_from f (before ++ (l ++ behind)) 0) put ∙ anywhere f ((known_says f).holds known) x sent before behind in (
          (reading_of f x).values,
          refl,
          delivery_from f before 0,
          _,
          by_calls f known r short _ e,
        );
  }

pub demand_2 : Demand2
demand_2 = record {
  published = symbol_paper;
  meanings = decoder_paper;
  lines = line_paper;
  words = word_paper;
  crcc = crcc_paper;
  packing = packing_paper;
  pictures = picture_paper;
  ways_back = way_back_paper;
  rows = dividing_paper;
  spans = span_paper;
  code = decodes;
  sent = as_asked;
  crcc_call = λ f x t sent l. sent_crcc f x sent t l;
  encodes = λ f x sent. sent_encodes f x.asked (sendable f x sent) x.before;
  back = λ f x sent.
      let good = sendable f x sent in
      (round_trip f x.asked good x.before, picture_back f x.asked good x.before);
  windows = window_paper;
  sent_again = again;
  one_wrong = λ v h k l.
      timed (λ x. repair_of (inverted k x) ≡ given (record { word = x; distance = 1; bit = Some k })) (λ vh m. one_wrong vh m k l) v h;
  two_wrong = λ v h j k i l. timed (λ x. repair_of (inverted j (inverted k x)) ≡ refused 8 0) (λ vh m. two_wrong vh m j k i l) v h;
  repaired = λ f x sent words disturbed near w d c e.
      repaired_delivered f x.asked (sendable f x sent) words disturbed w d c e near;
  join_split = λ whole e. join_split 1920 whole e;
  split_join = λ first second p q. (split_join 1920 first second 0 (omega arith) p, split_join 1920 first second 1 (omega arith) q);
  undone = undone;
  places = λ whole u l j p q r s t.
      let same : w u ≡ (u + 1) % 2 = which u p q in
      let agree = place_agrees whole u l j p q r s t in
      (agree.0, rw same at agree.1);
  picture_of_two = λ f content whole pair l known few a b p q row bytes. (
    images_two f pair l known few a b p q,
    _,
    delivers f known l content _ bytes (two_good f whole l known few p q row),
    two_back f whole l known few p q row content,
  );
  picture_of_four = λ f content odd even l known three p q first second bytes.
      let back = four_back f odd even l known three p q first second content in (
        images_four f l three p q,
        _,
        delivers f known l content _ bytes (four_good f odd even l known three p q first second),
        back.0,
        back.1,
      );
}

-- ==== 3 ====

module _ (f : Format) (r : List ℕ) (start : ℕ) where
  -- a call of the finder that is answered has a known format, and its answer is the search's
  module _ (o : Option ℕ) (e : find_of f r start ≡ given o) where
    asked_known : is_known f ≡ true
    asked_known = row_holds _ (row_passed (find_rows f r start) (find_from f r start) o e 0)

    answered : find_from f r start ≡ o
    answered = given_is (find_rows f r start) (find_from f r start) o e

pub demand_3 : Demand3
demand_3 = record {
  found_if = λ f r start q known short h t before.
      let k = (known_says f).holds known in
      let whole = span_whole f k in
      let inside : start ≤ length r = omega (arith, stands_whole (symbols_in (shape_of f)) (reading f) whole r q t, h) in
      finds f r start k short inside ∙ ap given (found_at_lem (symbols_in (shape_of f)) (reading f) whole r start q h t before);
  found_only_if = λ f r start q e.
      found_told (symbols_in (shape_of f)) (reading f) (span_whole f (asked_known f r start (some q) e)) r start q (answered f r start (some q) e);
  none_if = λ f r start known short inside never.
      let k = (known_says f).holds known in
      finds f r start k short inside ∙ ap given (found_nowhere (symbols_in (shape_of f)) (reading f) (span_whole f k) r start never);
  none_only_if = λ f r start e.
      nowhere_told (symbols_in (shape_of f)) (reading f) (span_whole f (asked_known f r start none e)) r start (answered f r start none e);
  at_the_end = λ f r known short.
      let k = (known_says f).holds known in
      let n = symbols_in (shape_of f) in
      let whole = span_whole f k in
      let never : (j : ℕ) → length r ≤ j → accepts f (take n (drop j r)) ≡ false =
      λ j h. not_at_the_end n (reading f) whole r j (omega (arith, whole.least)) in
      finds f r (length r) k short (omega arith) ∙ ap given (found_nowhere n (reading f) whole r (length r) never);
  next_is = found_and_read;
  next_is_none = found_none;
  literally = λ f r k p known h. literally (symbols_in (shape_of f)) (reading f) (span_whole f ((known_says f).holds known)) r k p h;
  stepping = λ f r rows k p known short room inside enough.
      steps_are f ((known_says f).holds known) r short k p rows (eqb-true _ _ ((samples_say f known (length rows)).holds room)) inside enough;
  recordings = recording_paper;
  deliveries = delivery_paper Sending Reading;
  anywhere = λ f x before behind sent short.
      let known = (sendable f x sent).known in
      by_calls f ((known_says f).told known) _ short _ (anywhere f known x sent before behind);
  alone = λ f xs known each short. by_calls f known _ short _ (alone f ((known_says f).holds known) xs each);
  one_inverted = λ f xs ys x i k before sent behind h l short.
      let known = (sendable f x sent).known in
      by_calls f ((known_says f).told known) _ short _ (one_inverted f known xs ys x i k before sent behind h l);
}

-- ==== beyond ====

pub beyond : Beyond
beyond = record {
  accepted = λ f w before behind x p known is inside short.
      let r = before ++ (w ++ behind) in
      from_place f known r short p (omega (arith, length-append before (w ++ behind))) _
      (accepted f ((known_says f).holds known) w x is before behind p inside);
  damaged = λ f xs ys d known before behind short.
      by_calls f known _ short _ (damaged f ((known_says f).holds known) xs ys d before behind);
  nothing = λ f d known h e. nothing f ((known_says f).holds known) d h (untold (reading f d) e);
  fewer = λ f xs ys d known before behind h short.
      by_calls f known _ short _ (fewer f ((known_says f).holds known) xs ys d before behind h);
  cut = λ f r m known. beginning f ((known_says f).holds known) r m;
  for_ever = λ f r rows k p known short room inside.
      steps_deliver f ((known_says f).holds known) r short p rows (eqb-true _ _ ((samples_say f known (length rows)).holds room)) inside k;
}
