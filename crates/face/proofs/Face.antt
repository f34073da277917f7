-- What a caller from C has, proved: out of the demands, and out of how each answer crosses.
-- Assumes nothing.
use mathlib.Core.Path.{◌≡◌, refl, sym, ap, ◌∙◌, subst}
use mathlib.Core.Bool.{true, false, true≢false}
use mathlib.Core.List.{List, [], ◌∷◌, ◌++◌}
use mathlib.Core.Option.{Option, none, some}
use Prim.Native.Nat.{ℕ, ◌+◌, ◌*◌, ◌≤◌, ◌<◌}
use native.Mathlib.Omega.{arith}
use lib.Dec.{eqb}
use lib.ListN.{length, get_or, take, drop}
use borrow.Author.Tests.{eqb-true, lt-ltb, le-ltb, eq-eqb}
use Rattle.ground.specs.Answer.{Answer, refused, given, Row, unless}
use Rattle.ground.proofs.Answers.{given_is}
use Rattle.ground.proofs.Ranges.{is_within, not_within}
use Rattle.symbol.specs.declared.disparity.Disparity.{Disparity}
use Rattle.symbol.specs.declared.disparity.Disparity.TheVariants.{Negative, Positive}
use Rattle.symbol.specs.Disparity.{is_positive}
use Rattle.symbol.specs.Code.{symbol_of}
use Rattle.decoder.specs.declared.decode.Decoded.{Decoded}
use Rattle.decoder.specs.Decode.{decode_of}
use Rattle.word.specs.LineNumber.{numbered_of, named_of}
use Rattle.word.specs.Repair.{repair_of}
use Rattle.crcc.specs.Crcc.{crcc_of}
use Rattle.picture.specs.Place.{placed_of}
use Rattle.dividing.specs.Row.{split_of, join_of}
use Rattle.span.specs.Blanking.{fill_of}
use Rattle.span.specs.Length.{lengths_of}
use Rattle.way_back.specs.Back.{back_of}
use Rattle.window.specs.Read.{span_tests, delivery_of, read_of, judge_of, picture_of}
use Rattle.recording.specs.Call.{find_of, next_of, after_next, rows_next}
use Rattle.line.specs.declared.stream.StreamLine.{StreamLine}
use Rattle.word.proofs.LineNumbers.{line_good, read_sent}
use Rattle.std.specs.Prelude.{None as NoneNamed, Some as Named}
use Rattle.span.specs.declared.format.Format.{Format}
use Rattle.span.specs.Stream.{Request}
use Rattle.span.specs.Format.{is_known, shape_of, streams, samples_in, symbols_in}
use Rattle.span.specs.Encoding.{after_run}
use Rattle.span.specs.Numbers.{IsFormat, Symbols}
use Rattle.span.specs.declared.content.ContentBytes.{ContentBytes}
use Rattle.span.proofs.Lengths.{known_has_streams}
use Rattle.span.proofs.Paper.{span_paper}
use Rattle.span.specs.Span.{span_chars, span_after}
use Rattle.span.proofs.LengthCalls.{lengths_given}
use Rattle.request.specs.Send.{request, refusals, send_of, sent_buffer}
use Rattle.window.specs.declared.delivery.Delivery.{Delivery}
use Rattle.recording.specs.declared.answer.Spanned.{Spanned}
use Rattle.boundary.specs.Laws.{Says}
use Rattle.boundary.proofs.Laws.{boundary_laws}
use Rattle.span_answers.specs.Laws.{AreValues, SaysNothing}
use Rattle.span_answers.proofs.Laws.{span_answers_laws}
use Rattle.boundary.specs.Numbers.{disparity_from, format_given, number_in}
use Rattle.character_answers.specs.Characters.{decode_answer_of}
use Rattle.character_answers.proofs.Laws.{character_answers_laws}
use Rattle.word_answers.specs.Words.{line_words_answer_of, read_line_words_answer_of, repair_answer_of, crcc_answer_of}
use Rattle.word_answers.proofs.Laws.{word_answers_laws}
use Rattle.picture_answers.specs.Pictures.{place_answer_of, way_back_answer_of}
use Rattle.span_answers.specs.Spans.{values_of, lengths_answer_of, send_answer_of, read_answer_of}
use Rattle.recording_answers.specs.Recordings.{find_answer_of, next_answer_of}
use Rattle.demands.specs.Rules.{decode_rules, line_words_rules, read_line_words_rules, repair_rules, crcc_rules, place_rules, back_rules, split_rules, join_rules, lengths_rules, send_rules, fill_rules, read_rules, judge_rules, find_rules, next_rules}
use Rattle.demands.proofs.Delivering.{known_asked}
use Rattle.demands.proofs.Demands.{demand_1, demand_2, demand_3}
use Rattle.demands.proofs.Sendings.{row_holds}
use Rattle.window.proofs.Accepting.{row_passed}
use Rattle.demands.proofs.Refusing.{known_says, symbols_say, samples_say}
use Rattle.recording_answers.proofs.Laws.{recording_answers_laws}
use Rattle.face.specs.Face.{Told, SentFrom, AddUp, Stands, Face}
use Rattle.face.proofs.Repaired.{bit_told, no_bit_told, refused_bit}
use Rattle.face.proofs.Telling.{Numbered, crosses, crosses_placed, good_by_number}

-- a disparity as a bool, and the values of a span
says : (d : Disparity) → Says (is_positive d) d
says = boundary_laws.back

values : (d : Delivery) → AreValues (values_of d) d
values = span_answers_laws.values

-- the repairs of the twelve bits are together all repairs
module _ (f : Format) (w : List ℕ) (d : Delivery) where
  add_up : delivery_of f w ≡ d → AddUp (values_of d)
  add_up e = subst (λ (x : Delivery). AddUp (values_of x)) e (demand_2.windows.add_up f w)

  abbrev before20 : List Row
  before20 = unless 1 (is_known f) ∷ unless 3 (eqb (length w) (symbols_in (shape_of f))) ∷ []

  judge_adds_up : judge_of f w ≡ given d → AddUp (values_of d)
  judge_adds_up e = add_up (given_is (before20 ++ span_tests f w) (delivery_of f w) d e)

  read_adds_up : (room : ℕ) → read_of f w room ≡ given d → AddUp (values_of d)
  read_adds_up room e = add_up (given_is (before20 ++ (unless 4 (eqb room (samples_in (shape_of f))) ∷ span_tests f w)) (delivery_of f w) d e)

-- what is not delivered says nothing of a span
read_nothing : (a : Answer Delivery) → ((read_answer_of a).number ≡ 0 → ⊥) → SaysNothing (read_answer_of a).delivery
read_nothing (refused number place) n = span_answers_laws.read_refused number place
read_nothing (given d) n = absurd (n refl)

next_nothing : (a : Answer (Option Spanned)) (resume : ℕ) → (next_answer_of a resume).found ≡ false → SaysNothing (next_answer_of a resume).delivery
next_nothing (refused number place) resume e = recording_answers_laws.next_refused number place resume
next_nothing (given none) resume e = recording_answers_laws.next_none resume
next_nothing (given (some s)) resume e = absurd (true≢false e)

-- a span that is found, or none, is no refusal
found_good : (o : Option ℕ) → (find_answer_of (given o)).number ≡ 0
found_good none = refl
found_good (some place) = refl

next_good : (resume : ℕ) (o : Option Spanned) → (next_answer_of (given o) resume).number ≡ 0
next_good resume none = refl
next_good resume (some s) = refl

-- where to go on crosses as it is
resume_is : (r : Answer (Option Spanned)) (resume : ℕ) → (next_answer_of r resume).resume ≡ resume
resume_is (refused number place) resume = refl
resume_is (given none) resume = refl
resume_is (given (some s)) resume = refl

-- ---- a call of the sender
module _ (d : Disparity) (f : Format) (a : Request) (entry : List ℕ) where
  abbrev room : ℕ
  room = length entry

  -- it is not refused where 0 is answered,
  is_given : (send_answer_of (send_of d f a room)).number ≡ 0 → send_of d f a room ≡ given (span_after d f a)
  is_given zero =
      let above : Numbered (refusals f a room) = (omega arith, (omega arith, (omega arith, (omega arith, (omega arith, tt))))) in
      good_by_number send_answer_of (λ x. x.number) (λ n p. refl) (λ e. refl) (refusals f a room) (span_after d f a) above zero

  -- and refused where not
  not_given : (r : Answer Disparity) → ((send_answer_of r).number ≡ 0 → ⊥) → (number : ℕ) × (place : ℕ) × (r ≡ refused number place)
  not_given (refused number place) other = (number, place, refl)
  not_given (given e) other = absurd (other refl)

  sent_from_lem : SentFrom d f a (send_answer_of (send_of d f a room)) entry (sent_buffer d f a entry)
  sent_from_lem = record {
    put = λ zero. (demand_2.sent d (span_after d f a) f a entry (is_given zero)).0;
    after = λ zero. rw (is_given zero) (says _);
    untouched = λ other.
        let (number, place, e) = not_given (send_of d f a room) other in (demand_1.send d f a entry).1.untouched number place e;
  }

  send_told :
      let r = send_answer_of (send_of d f a room) in
      Told r.number r.place (send_rules f a room)
  send_told =
      crosses_placed send_answer_of (λ x. x.number) (λ n p. refl) (λ e. refl) (λ x. x.place) (λ n p. refl) (λ e. refl) (send_of d f a room)
      (send_rules f a room)
      (demand_1.send d f a entry).0

-- ---- the content bytes of a call that names them
module _ (d : Disparity) (f : Format) (line : ℕ) (content : ContentBytes) (samples entry : List ℕ)
    (zero : (send_answer_of (send_of d f (request line (Named content) samples) (length entry))).number ≡ 0) where
  abbrev asked : Request
  asked = request line (Named content) samples

  abbrev out : List ℕ
  out = sent_buffer d f asked entry

  known : IsFormat f
  known =
      (known_says f).told (row_holds _ (row_passed (refusals f asked (length entry)) (span_after d f asked) (span_after d f asked) (is_given d f asked entry zero) 0))

  stands : (i c : ℕ) → i < symbols_in (shape_of f) → get_or (span_chars f asked) i 0 ≡ c → Stands out i c
  stands i c h e = (
    after_run d (take i (span_chars f asked)),
    ap (λ (l : List ℕ). get_or l i 0) ((sent_from_lem d f asked entry).put zero)
        ∙ span_paper.symbol_at f asked known d i h
        ∙ ap (symbol_of (after_run d (take i (span_chars f asked)))) e,
  )

  content_sent :
      let k = 2886 * streams (shape_of f) in
      Stands out 2 content.sav1 × Stands out 3 content.sav2 × Stands out (k + 2) content.eav1 × Stands out (k + 3) content.eav2
  content_sent =
      let some = known_has_streams f ((known_says f).holds known) in
      let sav = span_paper.sav_chars f asked in
      let eav = span_paper.eav_chars f asked known in
      let k = 2886 * streams (shape_of f) in (
        stands 2 content.sav1 (omega (arith, some)) sav.2,
        stands 3 content.sav2 (omega (arith, some)) sav.3,
        stands (k + 2) content.eav1 (omega (arith, some)) eav.2,
        stands (k + 3) content.eav2 (omega (arith, some)) eav.3,
      )

-- ---- the rows after next span
module _ (f : Format) (symbols : List ℕ) (start : ℕ) (rows : List ℕ) where
  abbrev answer : Answer (Option Spanned)
  answer = next_of f symbols start (length rows)

  abbrev after : ℕ
  after = after_next f symbols start (length rows)

  rows_after :
      (r : Answer (Option Spanned))
      → answer ≡ r
      → ((next_answer_of r after).found ≡ true
      → rows_next f symbols start rows ≡ picture_of f (take (symbols_in (shape_of f)) (drop (next_answer_of r after).place symbols)))
      × ((next_answer_of r after).found ≡ false → rows_next f symbols start rows ≡ rows)
  rows_after (refused number place) e = (λ t. absurd (true≢false (sym t)), λ _. (demand_1.next_refused f symbols start rows number place e).0)
  rows_after (given none) e = (λ t. absurd (true≢false (sym t)), λ _. (demand_1.next_none f symbols start rows e).0)
  rows_after (given (some s)) e = (λ _. (demand_1.next_some f symbols start rows s e).0, λ t. absurd (true≢false t))

  -- what is kept, where there is none
  kept_told : answer ≡ given none → (n : ℕ) → Symbols f n
      → let a = next_answer_of answer after in
      (length symbols + 1 ≤ start + n → a.resume ≡ start) × (start + n ≤ length symbols + 1 → a.resume + n ≡ length symbols + 1)
  kept_told e n long =
      let known = known_asked f symbols start rows none e in
      let is : n ≡ symbols_in (shape_of f) = eqb-true _ _ ((symbols_say f ((known_says f).told known) n).holds long) in
      let at = demand_1.next_none f symbols start rows e in
      let same : (next_answer_of answer after).resume ≡ after = resume_is answer after in
      rw is (λ h. same ∙ at.1 h, λ h. ap (λ (k : ℕ). k + symbols_in (shape_of f)) same ∙ at.2 h)

pub face : Face
face = record {
  crossing = boundary_laws;
  version = refl;
  refusals = record {
    decoded = refl;
    line_words = refl;
    read_line_words = refl;
    repaired = refl;
    crcc = refl;
    placed = refl;
    back = refl;
    copied = refl;
    lengths = refl;
    filled = refl;
    sent = refl;
    read = refl;
    found = refl;
    next = refl;
  };
  decode_negative = λ c h. ap (λ (r : Answer Decoded). (decode_answer_of r).character) (demand_2.code Negative c h) ∙ character_answers_laws.character_told c h;
  decode_positive = λ c h. ap (λ (r : Answer Decoded). (decode_answer_of r).character) (demand_2.code Positive c h) ∙ character_answers_laws.character_told c h;
  decode_after = λ c h. rw (demand_2.code Negative c h) (says _);
  decode_after_positive = λ c h. rw (demand_2.code Positive c h) (says _);
  decode_told = λ symbol.
      crosses decode_answer_of (λ a. a.number) (λ n p. refl) (λ a. refl) (decode_of Negative symbol)
      (decode_rules Negative symbol) (refl, (refl, tt))
      (demand_1.decode Negative symbol);
  decode_told_positive = λ symbol.
      crosses decode_answer_of (λ a. a.number) (λ n p. refl) (λ a. refl) (decode_of Positive symbol)
      (decode_rules Positive symbol) (refl, (refl, tt))
      (demand_1.decode Positive symbol);
  encode_negative = λ c h. simp (lt-ltb c 268 h) (refl, refl);
  encode_positive = λ c h. simp (lt-ltb c 268 h) (refl, refl);
  encode_after = λ c h. simp (lt-ltb c 268 h) (says _, says _);
  encode_none = λ positive c h. simp (le-ltb c 268 h);
  line_words_told = λ line.
      crosses line_words_answer_of (λ a. a.number) (λ n p. refl) (λ a. refl) (numbered_of line.number)
      (line_words_rules line.number) (refl, tt)
      (demand_1.line_words line.number);
  line_words = λ line p q. rw (line_good line.number p q) (refl, refl);
  read_line_words_told = λ a b.
      crosses read_line_words_answer_of (λ a. a.number) (λ n p. refl) (λ a. refl) (named_of a b) (read_line_words_rules a b) (refl, (refl, tt))
      (demand_1.read_line_words a b);
  read_line_words = λ line p q. ap (λ (r : Answer StreamLine). (read_line_words_answer_of r).line.number) (read_sent line p q);
  repair_told = λ word.
      crosses repair_answer_of (λ a. a.number) (λ n p. refl) (λ a. refl) (repair_of word) (repair_rules word) (refl, (refl, tt))
      (demand_1.repair word);
  repair = λ word r e. rw e (refl, refl);
  repair_right = word_answers_laws.right_answered;
  repair_wrong = word_answers_laws.wrong_answered;
  repair_bit = bit_told;
  repair_no_bit = no_bit_told;
  repair_refused = λ word n. refused_bit (repair_of word) n;
  crcc_told = λ words.
      crosses crcc_answer_of (λ a. a.number) (λ n p. refl) (λ a. refl) (crcc_of words) (crcc_rules words) (refl, tt)
      (demand_1.crcc words);
  crcc = λ words c e. rw e (refl, refl, refl);
  place_told = λ line sample.
      crosses place_answer_of (λ a. a.number) (λ n p. refl) (λ a. refl) (placed_of line.number sample)
      (place_rules line.number sample) (refl, tt)
      (demand_1.place line.number sample);
  place = λ u l j p q r s t. rw (demand_2.places [] u l j p q r s t).0 (refl, refl, refl, refl);
  way_back_told = λ format link stream line.
      let f = format_given format in
      crosses way_back_answer_of (λ a. a.number) (λ n p. refl) (λ a. refl) (back_of f link stream line.number)
      (back_rules f link stream line.number) (refl, (refl, tt))
      (demand_1.back f link stream line.number);
  way_back = λ format link stream line x e. rw e (refl, refl);
  split_told = λ row first second.
      crosses number_in (λ n. n) (λ n p. refl) (λ a. refl) (split_of row first second) (split_rules row first second) (refl, (refl, tt))
      (demand_1.split row first second).0;
  split_lent = λ row first second. let split = demand_1.split row first second in (split.1, split.2);
  join_lent = λ first second row. (demand_1.join first second row).1;
  join_told = λ first second row.
      crosses number_in (λ n. n) (λ n p. refl) (λ a. refl) (join_of first second row) (join_rules first second row) (refl, (refl, tt))
      (demand_1.join first second row).0;
  carries_picture = λ line p q. simp (is_within 42 1121 line.number p q);
  carries_blanking = λ line out. simp (not_within 42 1121 line.number out);
  lengths_told = λ format.
      crosses lengths_answer_of (λ a. a.number) (λ n p. refl) (λ a. refl) (lengths_of (format_given format))
      (lengths_rules (format_given format)) (refl, tt)
      (demand_1.lengths (format_given format));
  lengths = λ format known.
      let f = format_given format in
      rw (lengths_given f ((known_says f).holds known))
      ((samples_say f known (samples_in (shape_of f))).told (eq-eqb (samples_in (shape_of f)) (samples_in (shape_of f)) refl), (symbols_say f known (symbols_in (shape_of f))).told (eq-eqb (symbols_in (shape_of f)) (symbols_in (shape_of f)) refl));
  send_told = λ format line positive content samples symbols.
      send_told (disparity_from positive) (format_given format) (request line.number NoneNamed samples) symbols;
  send_named_told = λ format line positive content samples symbols.
      send_told (disparity_from positive) (format_given format) (request line.number (Named content) samples) symbols;
  sent = λ format line content samples symbols.
      let f = format_given format in
      let a = request line.number NoneNamed samples in
      (sent_from_lem Negative f a symbols, sent_from_lem Positive f a symbols);
  sent_named = λ format line content samples symbols.
      let f = format_given format in
      let a = request line.number (Named content) samples in
      (sent_from_lem Negative f a symbols, sent_from_lem Positive f a symbols);
  content_sent = λ format line positive content samples symbols.
      content_sent (disparity_from positive) (format_given format) line.number content samples symbols;
  fill_blanking_told = λ format row.
      crosses number_in (λ n. n) (λ n p. refl) (λ a. refl) (fill_of (format_given format) row)
      (fill_rules (format_given format) (length row)) (refl, (refl, tt))
      (demand_1.fill (format_given format) row).0;
  fill_blanking_lent = λ format row. (demand_1.fill (format_given format) row).1;
  read_lent = λ format symbols rows. (demand_1.read (format_given format) symbols rows).1;
  read_told = λ format symbols rows.
      crosses_placed read_answer_of (λ a. a.number) (λ n p. refl) (λ a. refl) (λ a. a.place) (λ n p. refl) (λ a. refl) (read_of (format_given format) symbols (length rows))
      (read_rules (format_given format) symbols (length rows))
      (demand_1.read (format_given format) symbols rows).0;
  read = λ format symbols rows d e. rw e (values d, read_adds_up (format_given format) symbols d (length rows) e);
  read_nothing = λ format symbols rows. read_nothing (read_of (format_given format) symbols (length rows));
  judge_nothing = λ format symbols. read_nothing (judge_of (format_given format) symbols);
  judge_told = λ format symbols.
      crosses_placed read_answer_of (λ a. a.number) (λ n p. refl) (λ a. refl) (λ a. a.place) (λ n p. refl) (λ a. refl) (judge_of (format_given format) symbols)
      (judge_rules (format_given format) symbols)
      (demand_1.judge (format_given format) symbols);
  judge = λ format symbols d e. rw e (values d, judge_adds_up (format_given format) symbols d e);
  find_told = λ format symbols start.
      crosses find_answer_of (λ a. a.number) (λ n p. refl) found_good (find_of (format_given format) symbols start)
      (find_rules (format_given format) symbols start) (refl, (refl, (refl, tt)))
      (demand_1.find (format_given format) symbols start);
  find_at = λ format symbols start place e. rw e (refl, refl);
  find_none = λ format symbols start e. rw e refl;
  next_told = λ format symbols start rows.
      let f = format_given format in
      let resume = after_next f symbols start (length rows) in
      crosses (λ r. next_answer_of r resume) (λ a. a.number) (λ n p. refl) (next_good resume) (next_of f symbols start (length rows))
      (next_rules f symbols start (length rows)) (refl, (refl, (refl, (refl, tt)))) (demand_1.next f symbols start rows);
  next_at = λ format symbols start rows s e.
      let f = format_given format in
      let w = take (symbols_in (shape_of f)) (drop s.place symbols) in
      let (_, read, _) = demand_3.next_is f symbols start rows s e in
      rw e (refl, refl, values s.delivery, read_adds_up f w s.delivery (length rows) read);
  next_none = λ format symbols start rows e. rw e refl;
  next_nothing = λ format symbols start rows. next_nothing (next_of (format_given format) symbols start (length rows)) _;
  next_kept = λ format symbols start rows n e long. kept_told (format_given format) symbols start rows e n long;
  next_rows = λ format symbols start rows. rows_after (format_given format) symbols start rows _ refl;
  next_resume = λ format symbols start rows. resume_is (next_of (format_given format) symbols start (length rows)) _;
}
