-- Which calls are refused, and with which number, by the rows of the table; and what a refused call leaves in lent memory. `Demands` puts
-- them together.
-- Assumes nothing.
use mathlib.Core.Path.{◌≡◌, refl, sym, ap, subst, ◌∙◌}
use mathlib.Core.Bool.{Bool, true, false, true≢false, not, ◌&&◌}
use mathlib.Core.List.{List, [], ◌∷◌}
use mathlib.Core.Logic.{inl, inr, ⊎_elim}
use mathlib.Core.Option.{Option, none, some, some-injective}
use Prim.Native.Nat.{ℕ, zero, suc, ◌+◌, ◌*◌, ◌/◌, ◌≤◌, ◌<◌}
use native.Mathlib.Omega.{arith}
use lib.Dec.{eqb, ltb, leb}
use lib.ListN.{length, get_or, take, drop}
use borrow.Author.Tests.{eqb-true, eq-eqb, ne_eqb, ltb-true, lt-ltb, le-ltb, leb-true, le-leb, not-false}
use Rattle.ground.specs.Answer.{Answer, given, Row, unless, or_else, checked, unless_refused}
use Rattle.ground.specs.Range.{within}
use Rattle.ground.specs.Search.{first_below, is_some}
use Rattle.ground.proofs.Answers.{given_is, when_refused, when_given}
use Rattle.ground.proofs.Cases.{on_test}
use Rattle.ground.proofs.Ranges.{is_within, not_within, from_low, to_high, outside}
use Rattle.ground.proofs.Searches.{hit, miss}
use Rattle.ground.proofs.Tests.{both_left, both_right}
use Rattle.symbol.specs.declared.disparity.Disparity.{Disparity}
use Rattle.symbol.specs.Code.{symbol_of, char_of}
use Rattle.decoder.specs.Decode.{decode_of}
use Rattle.decoder.specs.Meaning.{meaning_of}
use Rattle.packing.specs.Bytes.{packed_of}
use Rattle.crcc.specs.Crcc.{all_words, crcc_of}
use Rattle.word.specs.LineNumber.{ln0, ln1, are_words_of, line_of, numbered_of, named_of}
use Rattle.word.specs.Repair.{distance, legal_word, near, nearest, repair_of}
use Rattle.word.specs.Timing.{timing}
use Rattle.picture.specs.Place.{placed_of}
use Rattle.dividing.specs.Row.{are_rows, split_of, join_of}
use Rattle.line.specs.Stream.{is_active}
use Rattle.span.specs.declared.format.Format.{Format}
use Rattle.span.specs.Format.{is_known, shape_of, streams, samples_in, pairs_in, symbols_in}
use Rattle.span.specs.Length.{lengths_of}
use Rattle.span.specs.Sample.{allowed, blank_word}
use Rattle.span.specs.Stream.{Request}
use Rattle.span.specs.Numbers.{IsFormat, Symbols, Samples}
use Rattle.span.proofs.Formats.{is_known_lem, known_told}
use Rattle.span.proofs.Numbers.{symbols_are, samples_are, symbols_told, samples_told, blank_told, blank_is}
use Rattle.span.specs.Blanking.{fill_of}
use Rattle.request.specs.Send.{first_forbidden, send_of}
use Rattle.window.specs.Read.{placed, span_tests as testsOf, picture_of, judge_of, read_of, rows_left}
use Rattle.window.specs.Scan.{holds20}
use Rattle.window.specs.Tests.{holds21, holds22, holds23, holds24, holds25, holds26}
use Rattle.window.specs.Words.{word_at}
use Rattle.ground.specs.Inside.Test.{Reflects}
use Rattle.span.proofs.Lengths.{known_has_streams}
use Rattle.window.proofs.Rules.{says_21, says_22, says_23, says_24, says_25, says_26}
use Rattle.window.proofs.Scanning.{says_20, holds_before}
use Rattle.window.proofs.Accepting.{all_hold, none_fails}
use Rattle.delivery.specs.Delivery.{next_by as next_by, find_by as find_by, read_from, found_at}
use Rattle.recording.specs.declared.answer.Spanned.{Spanned}
use Rattle.way_back.specs.Back.{back_of}
use Rattle.way_back.proofs.Paper.{carried_says}
use Rattle.recording.specs.Call.{spanned, words_or, end_or, find_of, next_of, after_next, next_rows, rows_next}
use Rattle.recording.specs.Recording.{limit, Reading, reading, next_from}
use Rattle.recording.proofs.Readings.{reading_told}
use Rattle.demands.specs.Form.{MaySend, Refusal, rule, rule_at, Tried, Lent, Rows}
use Rattle.demands.specs.Rules.{Legal, meaning_rules, decode_rules, repair_rules, line_words_rules, read_line_words_rules, crcc_rules, pack_rules, place_rules, back_rules, split_rules, join_rules, lengths_rules, fill_rules, send_rules, span_rules, judge_rules, read_rules, find_rules, next_rules}

-- ---- the rows of a call against the rows of the table

-- one rule: where a call is good for it, it is passed, and where not, it is met at such a place
pub record Agrees (r : Row) (x : Refusal) : Type 0 where
  pub same : r.number ≡ x.number
  pub passed : x.good → r.fails ≡ none
  pub met : (x.good → ⊥) → (k : ℕ) × x.place k × (r.fails ≡ some k)

-- the rows in their order, each where those before it are passed
pub data Agree : List Row → List Refusal → Type 1 where
  end : Agree [] []
  then : {r : Row} {x : Refusal} {rs : List Row} {xs : List Refusal}
      → Agrees r x → (x.good → Agree rs xs) → Agree (r ∷ rs) (x ∷ xs)

-- a call by such rows answers as the table says
pub tried : {A : Type 0} (a : A) {rs : List Row} {xs : List Refusal} → Agree rs xs → Tried (checked rs a) xs
tried a end = (a, refl)
tried a {rs = r ∷ rs} {xs = x ∷ xs} (then one more) = (
  λ bad. let (k, p, e) = one.met bad in (k, p, rw (e, one.same)),
  λ g. subst (λ (o : Option ℕ). Tried (or_else o r.number (checked rs a)) xs) (sym (one.passed g)) (tried a (more g)),
)

-- ---- tests

-- such a test is a rule without a place
pub plain : (n : ℕ) {b : Bool} {good : Type 0} → Reflects b good → Agrees (unless n b) (rule n good)
plain n {b} says = record {
  same = refl;
  passed = λ g. rw (says.holds g);
  met = λ bad. (0, refl, on_test b (λ t. absurd (bad (says.told t))) (λ t. rw t));
}

-- the same said otherwise
pub or_so : {b : Bool} {p q : Type 0} → Reflects b p → (p → q) → (q → p) → Reflects b q
or_so says to from = record { told = λ t. to (says.told t); holds = λ g. says.holds (from g) }

-- the tests that the calls make: a bound, a number, a range, two of them together
pub up_to : (x n : ℕ) → Reflects (ltb x (suc n)) (x ≤ n)
up_to x n = record { told = λ t. omega (arith, ltb-true x (suc n) t); holds = λ h. lt-ltb x (suc n) (omega arith) }

pub at_most : (x n : ℕ) → Reflects (leb x n) (x ≤ n)
at_most x n = record { told = leb-true x n; holds = le-leb x n }

pub equal : (x n : ℕ) → Reflects (eqb x n) (x ≡ n)
equal x n = record { told = eqb-true x n; holds = eq-eqb x n }

pub in_range_lem : (low high x : ℕ) → Reflects (within low high x) ((low ≤ x) × (x ≤ high))
in_range_lem low high x = record { told = λ t. (from_low low high x t, to_high low high x t); holds = λ g. is_within low high x g.0 g.1 }

pub both : {a b : Bool} {p q : Type 0} → Reflects a p → Reflects b q → Reflects (a && b) (p × q)
both {a} {b} x y = record {
  told = λ t. (x.told (both_left a b t), y.told (both_right a b t));
  holds = λ g. rw (x.holds g.0) (y.holds g.1);
}

-- some number below n is good
pub some_below : (n : ℕ) (p : ℕ → Bool) {Good : ℕ → Type 0} → ((k : ℕ) → Reflects (p k) (Good k))
    → Reflects (is_some (first_below n p)) ((k : ℕ) × (k < n) × Good k)
some_below n p {Good} says = record { told = λ t. told (first_below n p) refl t; holds = λ g. holds (first_below n p) refl g }
  where
    told : (o : Option ℕ) → first_below n p ≡ o → is_some o ≡ true → (k : ℕ) × (k < n) × Good k
    told none e t = absurd (true≢false (sym t))
    told (some k) e t = let l = hit p n k e in (k, l.below, (says k).told l.holds)

    holds : (o : Option ℕ) → first_below n p ≡ o → (k : ℕ) × (k < n) × Good k → is_some o ≡ true
    holds none e (k, h, g) = absurd (true≢false (sym ((says k).holds g) ∙ (miss p n e).never k (omega arith) h))
    holds (some k) e g = refl

-- a test of n places is a rule with the first place at which it does not hold. What the rule says of a place may take those before it.
pub at_places : (number n : ℕ) (holds : ℕ → Bool) {Good : ℕ → Type 0}
    → ((k : ℕ) → k < n → ((i : ℕ) → i ≤ k → holds i ≡ true) → Good k)
    → ((k : ℕ) → k < n → Good k → holds k ≡ true)
    → Agrees (record { number = number; fails = first_below n (λ k. not (holds k)) }) (rule_at number n Good)
at_places number n holds {Good} told back = record {
  same = refl;
  passed = λ g. none_fails n holds (λ k h. back k h (g k h));
  met = met (first_below n (λ k. not (holds k))) refl;
}
  where
    met : (o : Option ℕ) → first_below n (λ k. not (holds k)) ≡ o → (((k : ℕ) → k < n → Good k) → ⊥)
        → (k : ℕ) × ((k < n) × (Good k → ⊥) × ((j : ℕ) → j < k → Good j)) × (o ≡ some k)
    met none e bad = absurd (bad (λ k h. told k h (λ i l. all_hold n holds e i (omega arith))))
    met (some k) e bad =
        let l = hit (λ k. not (holds k)) n k e in (
          k,
          (
            l.below,
            λ g. true≢false (sym l.holds ∙ ap not (back k l.below g)),
            λ j h. told j (omega (arith, l.below)) (λ i q. not-false (holds i) (l.least i (omega arith) (omega arith))),
          ),
          refl,
        )

-- where the rule says of each place what the test does there
pub at_each : (number n : ℕ) (holds : ℕ → Bool) {Good : ℕ → Type 0} → ((k : ℕ) → Reflects (holds k) (Good k))
    → Agrees (record { number = number; fails = first_below n (λ k. not (holds k)) }) (rule_at number n Good)
at_each number n holds says = at_places number n holds (λ k h all. (says k).told (all k (omega arith))) (λ k h g. (says k).holds g)

-- ---- single calls

-- the meaning of a symbol
pub meaning_tried : (s : ℕ) → Tried (meaning_of s) (meaning_rules s)
meaning_tried s = tried _ (then (plain 7 (up_to s 1023)) (λ _. end))

-- one symbol decoded
pub decode_tried : (d : Disparity) (s : ℕ) → Tried (decode_of d s) (decode_rules d s)
unfolding char_of
decode_tried d s =
    tried _
    (then (plain 7 (up_to s 1023)) (λ _.
    then (plain 20 (some_below 268 (λ c. eqb (symbol_of d c) s) (λ c. equal (symbol_of d c) s))) (λ _. end)))

-- the four legal words by their number
legal_is : (vh : ℕ) → vh < 4 → Legal (legal_word vh)
unfolding timing
legal_is zero h = inl refl
legal_is (suc zero) h = inr (inl refl)
legal_is (suc (suc zero)) h = inr (inr (inl refl))
legal_is (suc (suc (suc zero))) h = inr (inr (inr refl))
legal_is (suc (suc (suc (suc vh)))) h = absurd (omega arith)

is_legal : (x : ℕ) → Legal x → (vh : ℕ) × (vh < 4) × (x ≡ legal_word vh)
unfolding timing
is_legal x =
    ⊎_elim (λ e. (0, omega arith, e))
    (⊎_elim (λ e. (1, omega arith, e)) (⊎_elim (λ e. (2, omega arith, e)) (λ e. (3, omega arith, e))))

-- a legal word is near where the search finds one
near_says : (w : ℕ) → Reflects (is_some (nearest w)) ((x : ℕ) × Legal x × (distance w x ≤ 1))
unfolding nearest
near_says w =
    or_so (some_below 4 (near w) (λ vh. at_most (distance w (legal_word vh)) 1))
    (λ g. (legal_word g.0, legal_is g.0 g.1, g.2))
    (λ g. let (vh, h, e) = is_legal g.0 g.1 in (vh, h, rw e at g.2))

-- repair of a timing word
pub repair_tried : (w : ℕ) → Tried (repair_of w) (repair_rules w)
repair_tried w = tried _ (then (plain 7 (up_to w 4095)) (λ _. then (plain 8 (near_says w)) (λ _. end)))

-- the words of a line
pub line_words_tried : (n : ℕ) → Tried (numbered_of n) (line_words_rules n)
line_words_tried n = tried _ (then (plain 2 (in_range_lem 1 1125 n)) (λ _. end))

-- the two words are those of a line where the search finds one
named_says : (a b : ℕ) → Reflects (is_some (line_of a b)) ((n : ℕ) × (1 ≤ n) × (n ≤ 1125) × (ln0 n ≡ a) × (ln1 n ≡ b))
unfolding line_of
named_says a b =
    or_so (some_below 1126 (are_words_of a b) (λ n. both (in_range_lem 1 1125 n) (both (equal (ln0 n) a) (equal (ln1 n) b))))
    (λ g. let (n, h, ((p, q), (s, t))) = g in (n, p, q, s, t))
    (λ g. let (n, p, q, s, t) = g in (n, omega arith, ((p, q), (s, t))))

-- the line of two words
pub read_line_words_tried : (a b : ℕ) → Tried (named_of a b) (read_line_words_rules a b)
read_line_words_tried a b =
    tried _ (then (plain 7 (both (up_to a 4095) (up_to b 4095))) (λ _. then (plain 22 (named_says a b)) (λ _. end)))

-- every word of a run has twelve bits
all_words_say : (ws : List ℕ) → Reflects (all_words ws) ((i : ℕ) → i < length ws → get_or ws i 0 ≤ 4095)
all_words_say [] = record { told = λ t i h. absurd (omega arith); holds = λ g. refl }
all_words_say (w ∷ ws) = or_so (both (up_to w 4095) (all_words_say ws)) each (λ g. (g 0 (omega arith), λ i h. g (suc i) (omega arith)))
  where
    each : (w ≤ 4095) × ((i : ℕ) → i < length ws → get_or ws i 0 ≤ 4095) → (i : ℕ) → i < length (w ∷ ws) → get_or (w ∷ ws) i 0 ≤ 4095
    each g zero h = g.0
    each g (suc i) h = g.1 i (omega arith)

-- the CRCC of a run of words
pub crcc_tried : (ws : List ℕ) → Tried (crcc_of ws) (crcc_rules ws)
crcc_tried ws = tried _ (then (plain 7 (all_words_say ws)) (λ _. end))

-- two words as three bytes
pub pack_tried : (a b : ℕ) → Tried (packed_of a b) (pack_rules a b)
pack_tried a b = tried _ (then (plain 7 (both (up_to a 4095) (up_to b 4095))) (λ _. end))

-- the place of a sample
pub place_tried : (line sample : ℕ) → Tried (placed_of line sample) (place_rules line sample)
place_tried line sample =
    tried _
    (then
    (plain 2
    (or_so (both (in_range_lem 1 2160 line) (at_most sample 3839))
    (λ g. (g.0.0, g.0.1, g.1))
    (λ g. ((g.0, g.1), g.2))))
    (λ _. end))

-- ---- lent memory

-- as it was after a refusal, else what the call makes
pub lent : {A B : Type 0} (r : Answer A) (entry makes : B) → Lent r entry makes (unless_refused r entry makes)
lent r entry makes = record {
  untouched = λ number place e. sym (when_refused entry makes e);
  made = λ a e. sym (when_given entry makes e);
}

-- ---- dividing and joining rows

-- the two short rows have their length
rows_say : (first second : List ℕ) → Reflects (are_rows first second) ((length first ≡ 1920) × (length second ≡ 1920))
rows_say first second = both (equal (length first) 1920) (equal (length second) 1920)

-- dividing a row
pub split_tried : (whole first second : List ℕ) → Tried (split_of whole first second) (split_rules whole first second)
split_tried whole first second =
    tried _ (then (plain 3 (equal (length whole) 3840)) (λ _. then (plain 4 (rows_say first second)) (λ _. end)))

-- joining two
pub join_tried : (first second whole : List ℕ) → Tried (join_of first second whole) (join_rules first second whole)
join_tried first second whole =
    tried _ (then (plain 3 (rows_say first second)) (λ _. then (plain 4 (equal (length whole) 3840)) (λ _. end)))

-- ---- formats

-- formats 1 to 3 at 10 or 12 bits
pub known_says : (f : Format) → Reflects (is_known f) (IsFormat f)
known_says f = record { told = known_told f; holds = is_known_lem f }

module _ (f : Format) (known : IsFormat f) (x : ℕ) where
  -- a known format has so many symbols, and so many samples
  pub symbols_say : Reflects (eqb x (symbols_in (shape_of f))) (Symbols f x)
  symbols_say = or_so (equal x (symbols_in (shape_of f))) (symbols_told f x known) (symbols_are f x)

  pub samples_say : Reflects (eqb x (samples_in (shape_of f))) (Samples f x)
  samples_say = or_so (equal x (samples_in (shape_of f))) (samples_told f x known) (samples_are f x)

  -- what may be sent, of any stream t
  may_send : (n t : ℕ) → Reflects (allowed f n t x) (MaySend f n x)
  may_send n t = record { told = told; holds = holds }
    where
      twelve_is : f.depth ≡ 12 → eqb f.depth 10 ≡ false
      twelve_is e = ne_eqb f.depth 10 (λ ten. omega arith)

      told : allowed f n t x ≡ true → MaySend f n x
      told ok = record {
        ten = λ e p q. (in_range_lem 4 1019 x).told (simp (is_within 42 1121 n p q, eq-eqb f.depth 10 e) at ok);
        twelve = λ e p q. (in_range_lem 16 4079 x).told (simp (is_within 42 1121 n p q, twelve_is e) at ok);
        blanking = λ out. blank_told f known x (eqb-true x (blank_word f) (simp (not_within 42 1121 n out) at ok));
      }

      holds : MaySend f n x → allowed f n t x ≡ true
      holds m =
          on_test (is_active n)
          (λ active.
          let p = from_low 42 1121 n active in
          let q = to_high 42 1121 n active in
          ⊎_elim
          (λ e. simp (active, eq-eqb f.depth 10 e) ((in_range_lem 4 1019 x).holds (m.ten e p q)))
          (λ e. simp (active, twelve_is e) ((in_range_lem 16 4079 x).holds (m.twelve e p q)))
          known.bits)
          (λ out. simp out (eq-eqb x (blank_word f) (blank_is f known x (m.blanking (outside 42 1121 n out)))))

-- ---- calls with a format

-- the lengths of a format
pub lengths_tried : (f : Format) → Tried (lengths_of f) (lengths_rules f)
lengths_tried f = tried _ (then (plain 1 (known_says f)) (λ _. end))

-- the way back to the picture
pub back_tried : (f : Format) (link stream n : ℕ) → Tried (back_of f link stream n) (back_rules f link stream n)
back_tried f link stream n =
    tried _ (then (plain 1 (known_says f)) (λ known. then (plain 2 (carried_says f known link stream n)) (λ _. end)))

-- a row filled with blanking
pub fill_tried : (f : Format) (entry : List ℕ) → Tried (fill_of f entry) (fill_rules f (length entry))
fill_tried f entry =
    tried _ (then (plain 1 (known_says f)) (λ known. then (plain 4 (samples_say f known (length entry))) (λ _. end)))

-- sending a span
pub send_tried : (d : Disparity) (f : Format) (a : Request) (room : ℕ) → Tried (send_of d f a room) (send_rules f a room)
unfolding first_forbidden
send_tried d f a room =
    let xs = a.samples in
    tried _
    (then (plain 1 (known_says f)) (λ known.
    then (plain 2 (in_range_lem 1 1125 a.line)) (λ _.
    then (plain 3 (samples_say f known (length xs))) (λ _.
    then (plain 4 (symbols_say f known room)) (λ _.
    then
    (at_each 6 (length xs) (λ i. allowed f a.line (i / 1920) (get_or xs i 0))
    (λ i. may_send f known (get_or xs i 0) a.line (i / 1920)))
    (λ _. end))))))

-- tests 20 to 26 of a window
tests_agree : (f : Format) (w : List ℕ) → IsFormat f → Symbols f (length w) → Agree (testsOf f w) (span_rules f w)
tests_agree f w known long =
    let k = (known_says f).holds known in
    let s = streams (shape_of f) in
    let n = 2 * pairs_in (shape_of f) in
    let word = word_at (shape_of f) w in
    let some = known_has_streams f k in
    let size : length w ≡ symbols_in (shape_of f) = eqb-true _ _ ((symbols_say f known (length w)).holds long) in
    then
    (at_places 20 (symbols_in (shape_of f)) (holds20 (shape_of f) w)
    (λ i h all. (says_20 (shape_of f) some w i (omega (arith, size)) (λ j l. all j (omega arith))).told (all i (omega arith)))
    (λ i h g. holds_before (shape_of f) some w i g i (omega arith)))
    (λ _.
    then (at_each 21 n (placed s (holds21 s word)) (says_21 f k word)) (λ timings.
    then (at_each 22 n (placed s (holds22 s word)) (says_22 f k word)) (λ numbers.
    then (at_each 23 n (placed s (holds23 s word)) (says_23 f k word numbers timings)) (λ _.
    then (at_each 24 n (placed s (holds24 s word)) (says_24 f k word timings)) (λ _.
    then (at_each 25 n (placed s (holds25 s word f)) (says_25 f k word numbers)) (λ _.
    then (at_each 26 n (placed s (holds26 s word f)) (says_26 f k word)) (λ _. end)))))))

-- judging a span
pub judge_tried : (f : Format) (w : List ℕ) → Tried (judge_of f w) (judge_rules f w)
judge_tried f w =
    tried _
    (then (plain 1 (known_says f)) (λ known. then (plain 3 (symbols_say f known (length w))) (λ long. tests_agree f w known long)))

-- reading it
pub read_tried : (f : Format) (w : List ℕ) (room : ℕ) → Tried (read_of f w room) (read_rules f w room)
read_tried f w room =
    tried _
    (then (plain 1 (known_says f)) (λ known.
    then (plain 3 (symbols_say f known (length w))) (λ long.
    then (plain 4 (samples_say f known room)) (λ _. tests_agree f w known long))))

-- the rows afterwards: as they were, zeros, or the picture
pub rows_left_lem : {A : Type 0} (r : Answer A) (entry makes : List ℕ) → Rows r entry makes (rows_left r entry makes)
rows_left_lem {A} r entry makes = record {
  untouched = λ number place e l. left e ∙ simp (lt-ltb number 20 l);
  zeros = λ number place e l. left e ∙ simp (le-ltb number 20 l);
  made = λ a e. left e;
}
  where
    left : {x : Answer A} → r ≡ x → rows_left r entry makes ≡ rows_left x entry makes
    left e = ap (λ (y : Answer A). rows_left y entry makes) e

-- finding a span
pub find_tried : (f : Format) (r : List ℕ) (start : ℕ) → Tried (find_of f r start) (find_rules f r start)
unfolding limit
find_tried f r start =
    tried _
    (then (plain 1 (known_says f)) (λ _.
    then (plain 3 (at_most (length r) 2097152)) (λ _.
    then (plain 5 (at_most start (length r))) (λ _. end))))

-- ---- the next span

module _ (f : Format) (r : List ℕ) (start : ℕ) where
  abbrev n : ℕ
  n = symbols_in (shape_of f)

  -- the refusals of the next span
  pub next_tried : (room : ℕ) → Tried (next_of f r start room) (next_rules f r start room)
  unfolding limit
  next_tried room =
      tried _
      (then (plain 1 (known_says f)) (λ known.
      then (plain 3 (at_most (length r) 2097152)) (λ _.
      then (plain 4 (samples_say f known room)) (λ _.
      then (plain 5 (at_most start (length r))) (λ _. end)))))

  module _ (entry : List ℕ) where
    abbrev answer : Answer (Option Spanned)
    answer = next_of f r start (length entry)

    -- what is answered is the span that is found
    next_is : (o : Option Spanned) → answer ≡ given o → spanned (next_from f r start) ≡ o
    next_is o e = given_is (next_rows f r start (length entry)) (spanned (next_from f r start)) o e

    -- so the rows have the picture at its place
    words_at : (s : Spanned) (q : ℕ) (o : Option Reading) → reading f (take n (drop q r)) ≡ o → spanned (found_at q o) ≡ some s
        → words_or entry (found_at q o) ≡ picture_of f (take n (drop s.place r))
    words_at s q none is e = cc
    words_at s q (some a) is e =
        let p : q ≡ s.place = ap (λ (x : Spanned). x.place) (some-injective _ _ e) in
        rw (← p) (reading_told f (take n (drop q r)) a is).words

    words_from : (s : Spanned) (o : Option ℕ) → spanned (read_from n (reading f) r o) ≡ some s
        → words_or entry (read_from n (reading f) r o) ≡ picture_of f (take n (drop s.place r))
    words_from s none e = cc
    words_from s (some q) e = words_at s q (reading f (take n (drop q r))) refl e

    next_words : (s : Spanned) → spanned (next_from f r start) ≡ some s
        → words_or entry (next_from f r start) ≡ picture_of f (take n (drop s.place r))
    unfolding next_by
    next_words s e = words_from s (find_by n (reading f) r start) e

    -- the rows and the place after
    pub next_some :
        (s : Spanned)
        → answer ≡ given (some s)
        → (rows_next f r start entry ≡ picture_of f (take n (drop s.place r)))
        × (after_next f r start (length entry) ≡ s.place + n)
    next_some s e = (sym (when_given entry _ e) ∙ next_words s (next_is (some s) e), ap (end_or n (length r) start) e)
