-- The rows of the table of refusals for each call, in the order tried (document 01, "Refusal numbers, in the order tried"): the number, and
-- what a good call has, in document 01's own numbers.
-- Assumes nothing.
use Rattle.std.specs.Prelude.{◌/◌, ◌%◌, ℕ, ◌*◌, ◌≤◌, ◌<◌, ◌≡◌, List, [], ◌∷◌, ◌⊎◌, length, get_or}
use Rattle.symbol.specs.declared.disparity.Disparity.{Disparity}
use Rattle.symbol.specs.Code.{symbol_of}
use Rattle.word.specs.LineNumber.{ln0, ln1}
use Rattle.word.specs.Repair.{distance}
use Rattle.span.specs.declared.format.Format.{Format}
use Rattle.span.specs.Format.{shape_of, streams, pairs_in, symbols_in}
use Rattle.span.specs.Stream.{Request}
use Rattle.span.specs.Numbers.{IsFormat, Symbols, Samples}
use Rattle.way_back.specs.Paper.{Carried}
use Rattle.window.specs.Paper.{word_of_window}
use Rattle.window.specs.Rules.{Rule20, Rule21, Rule22, Rule23, Rule24, Rule25, Rule26}
use Rattle.demands.specs.Form.{MaySend, Refusal, rule, rule_at}

-- ---- single calls

-- the meaning of a symbol: 7
abbrev pub meaning_rules : ℕ → List Refusal
meaning_rules s = rule 7 (s ≤ 1023) ∷ []

-- one symbol decoded at a disparity: 7, 20
abbrev pub decode_rules : Disparity → ℕ → List Refusal
decode_rules d s = rule 7 (s ≤ 1023) ∷ rule 20 ((c : ℕ) × (c < 268) × (symbol_of d c ≡ s)) ∷ []

-- the four legal timing words
abbrev pub Legal : ℕ → Type 0
Legal x = (x ≡ 0x800) ⊎ ((x ≡ 0x9D0) ⊎ ((x ≡ 0xAB0) ⊎ (x ≡ 0xB60)))

-- repair of a timing word: 7, 8
abbrev pub repair_rules : ℕ → List Refusal
repair_rules w = rule 7 (w ≤ 4095) ∷ rule 8 ((x : ℕ) × Legal x × (distance w x ≤ 1)) ∷ []

-- the words of a line: 2
abbrev pub line_words_rules : ℕ → List Refusal
line_words_rules n = rule 2 ((1 ≤ n) × (n ≤ 1125)) ∷ []

-- the line of two words: 7, 22
abbrev pub read_line_words_rules : ℕ → ℕ → List Refusal
read_line_words_rules a b =
    rule 7 ((a ≤ 4095) × (b ≤ 4095)) ∷ rule 22 ((n : ℕ) × (1 ≤ n) × (n ≤ 1125) × (ln0 n ≡ a) × (ln1 n ≡ b)) ∷ []

-- the CRCC of a run of words: 7
abbrev pub crcc_rules : List ℕ → List Refusal
crcc_rules ws = rule 7 ((i : ℕ) → i < length ws → get_or ws i 0 ≤ 4095) ∷ []

-- two words as three bytes: 7
abbrev pub pack_rules : ℕ → ℕ → List Refusal
pack_rules a b = rule 7 ((a ≤ 4095) × (b ≤ 4095)) ∷ []

-- the place of a sample: 2
abbrev pub place_rules : ℕ → ℕ → List Refusal
place_rules line sample = rule 2 ((1 ≤ line) × (line ≤ 2160) × (sample ≤ 3839)) ∷ []

-- the way back to the picture: 1, 2
abbrev pub back_rules : Format → ℕ → ℕ → ℕ → List Refusal
back_rules f link stream n = rule 1 (IsFormat f) ∷ rule 2 (Carried f link stream n) ∷ []

-- ---- rows

-- dividing a row: 3, 4
abbrev pub split_rules : List ℕ → List ℕ → List ℕ → List Refusal
split_rules whole first second =
    rule 3 (length whole ≡ 3840) ∷ rule 4 ((length first ≡ 1920) × (length second ≡ 1920)) ∷ []

-- joining two: 3, 4
abbrev pub join_rules : List ℕ → List ℕ → List ℕ → List Refusal
join_rules first second whole =
    rule 3 ((length first ≡ 1920) × (length second ≡ 1920)) ∷ rule 4 (length whole ≡ 3840) ∷ []

-- ---- spans

-- the lengths of a format: 1
abbrev pub lengths_rules : Format → List Refusal
lengths_rules f = rule 1 (IsFormat f) ∷ []

-- a row filled with blanking: 1, 4
abbrev pub fill_rules : Format → ℕ → List Refusal
fill_rules f room = rule 1 (IsFormat f) ∷ rule 4 (Samples f room) ∷ []

-- sending a span: 1, 2, 3, 4, 6 with the first index
abbrev pub send_rules : Format → Request → ℕ → List Refusal
send_rules f a room =
    rule 1 (IsFormat f)
    ∷ rule 2 ((1 ≤ a.line) × (a.line ≤ 1125))
    ∷ rule 3 (Samples f (length a.samples))
    ∷ rule 4 (Symbols f room)
    ∷ rule_at 6 (length a.samples) (λ i. MaySend f a.line (get_or a.samples i 0))
    ∷ []

-- a span: 20 with the first symbol, 21 to 26 with the first interleaved word, each over the whole of it; `window/specs/Rules` says what each is
abbrev pub span_rules : Format → List ℕ → List Refusal
span_rules f w =
    let s = streams (shape_of f) in
    let n = 2 * pairs_in (shape_of f) in
    let word = word_of_window f w in
    rule_at 20 (symbols_in (shape_of f)) (Rule20 s w)
    ∷ rule_at 21 n (λ k. Rule21 word (k / s) (k % s))
    ∷ rule_at 22 n (λ k. Rule22 word (k / s) (k % s))
    ∷ rule_at 23 n (λ k. Rule23 word (k / s) (k % s))
    ∷ rule_at 24 n (λ k. Rule24 word (k / s) (k % s))
    ∷ rule_at 25 n (λ k. Rule25 f word (k / s) (k % s))
    ∷ rule_at 26 n (λ k. Rule26 f word (k / s) (k % s))
    ∷ []

-- judging a span: 1, 3, 20 to 26
abbrev pub judge_rules : Format → List ℕ → List Refusal
judge_rules f w = rule 1 (IsFormat f) ∷ rule 3 (Symbols f (length w)) ∷ span_rules f w

-- reading it into rows with room for this many words: 1, 3, 4, 20 to 26
abbrev pub read_rules : Format → List ℕ → ℕ → List Refusal
read_rules f w room = rule 1 (IsFormat f) ∷ rule 3 (Symbols f (length w)) ∷ rule 4 (Samples f room) ∷ span_rules f w

-- ---- recordings

-- finding a span: 1, 3, 5
abbrev pub find_rules : Format → List ℕ → ℕ → List Refusal
find_rules f r start = rule 1 (IsFormat f) ∷ rule 3 (length r ≤ 2097152) ∷ rule 5 (start ≤ length r) ∷ []

-- the next span, and a step of the stepping reader, which answers it from the reader's place: 1, 3, 4, 5
abbrev pub next_rules : Format → List ℕ → ℕ → ℕ → List Refusal
next_rules f r start room =
    rule 1 (IsFormat f) ∷ rule 3 (length r ≤ 2097152) ∷ rule 4 (Samples f room) ∷ rule 5 (start ≤ length r) ∷ []
