-- What each exported call answers, and what it leaves in the memory that it is lent, as functions of the numbers, the structs and the
-- arrays that a caller from C gives, in the order of its parameters. The contract of `brazulint4_x` in crate brazulint says these and
-- nothing else: `x·answer`, and `x·p` for each lent p (./test compares the text).
-- Assumes nothing.
use Rattle.std.specs.Prelude.{ℕ, Bool, true, false, List, length}
use Rattle.decoder.specs.Decode.{decode_of}
use Rattle.word.specs.LineNumber.{numbered_of, named_of}
use Rattle.word.specs.Repair.{repair_of}
use Rattle.crcc.specs.Crcc.{crcc_of}
use Rattle.picture.specs.Choice.{row_on}
use Rattle.picture.specs.Place.{placed_of}
use Rattle.dividing.specs.Row.{split_of, split_first, split_second, join_of, join_row}
use Rattle.span.specs.Blanking.{fill_of, filled_row}
use Rattle.span.specs.Stream.{Request}
use Rattle.span.specs.Length.{lengths_of}
use Rattle.request.specs.Send.{request, send_of, sent_buffer}
use Rattle.way_back.specs.Back.{back_of}
use Rattle.window.specs.Read.{judge_of, read_of, rows_read}
use Rattle.recording.specs.Call.{find_of, next_of, after_next, rows_next}
use Rattle.boundary.specs.declared.numbers.FormatNumbers.{FormatNumbers}
use Rattle.boundary.specs.declared.numbers.PictureLineNumber.{PictureLineNumber}
use Rattle.boundary.specs.declared.numbers.SendRequest.{SendRequest}
use Rattle.boundary.specs.declared.numbers.StreamLineNumber.{StreamLineNumber}
use Rattle.boundary.specs.Numbers.{content_from, disparity_from, format_given, number_in}
use Rattle.character_answers.specs.declared.characters.DecodeAnswer.{DecodeAnswer}
use Rattle.character_answers.specs.declared.characters.EncodeAnswer.{EncodeAnswer}
use Rattle.character_answers.specs.Characters.{decode_answer_of, encode_answer_of}
use Rattle.word_answers.specs.declared.words.LineWordsAnswer.{LineWordsAnswer}
use Rattle.word_answers.specs.declared.words.ReadLineWordsAnswer.{ReadLineWordsAnswer}
use Rattle.word_answers.specs.declared.words.RepairAnswer.{RepairAnswer}
use Rattle.word_answers.specs.declared.words.CrccAnswer.{CrccAnswer}
use Rattle.word_answers.specs.Words.{line_words_answer_of, read_line_words_answer_of, repair_answer_of, crcc_answer_of}
use Rattle.picture_answers.specs.declared.pictures.PlaceAnswer.{PlaceAnswer}
use Rattle.picture_answers.specs.declared.pictures.WayBackAnswer.{WayBackAnswer}
use Rattle.picture_answers.specs.Pictures.{place_answer_of, way_back_answer_of}
use Rattle.span_answers.specs.declared.spans.LengthsAnswer.{LengthsAnswer}
use Rattle.span_answers.specs.declared.spans.SendAnswer.{SendAnswer}
use Rattle.span_answers.specs.declared.spans.ReadAnswer.{ReadAnswer}
use Rattle.span_answers.specs.Spans.{lengths_answer_of, send_answer_of, read_answer_of}
use Rattle.recording_answers.specs.declared.recordings.FindAnswer.{FindAnswer}
use Rattle.recording_answers.specs.declared.recordings.NextAnswer.{NextAnswer}
use Rattle.recording_answers.specs.Recordings.{find_answer_of, next_answer_of}

-- ---- the interface: its number times 65536, and the number of the release in it

abbrev pub version·answer : ℕ
version·answer = 262144

-- ---- the code

abbrev pub decode·answer : Bool → ℕ → DecodeAnswer
decode·answer positive symbol = decode_answer_of (decode_of (disparity_from positive) symbol)

abbrev pub encode·answer : Bool → ℕ → EncodeAnswer
encode·answer positive character = encode_answer_of (disparity_from positive) character

-- ---- words

abbrev pub line_words·answer : StreamLineNumber → LineWordsAnswer
line_words·answer line = line_words_answer_of (numbered_of line.number)

abbrev pub read_line_words·answer : ℕ → ℕ → ReadLineWordsAnswer
read_line_words·answer ln0 ln1 = read_line_words_answer_of (named_of ln0 ln1)

abbrev pub repair·answer : ℕ → RepairAnswer
repair·answer word = repair_answer_of (repair_of word)

abbrev pub crcc·answer : List ℕ → CrccAnswer
crcc·answer words = crcc_answer_of (crcc_of words)

-- ---- pictures

abbrev pub place·answer : PictureLineNumber → ℕ → PlaceAnswer
place·answer line sample = place_answer_of (placed_of line.number sample)

abbrev pub way_back·answer : FormatNumbers → ℕ → ℕ → StreamLineNumber → WayBackAnswer
way_back·answer format link stream line = way_back_answer_of (back_of (format_given format) link stream line.number)

abbrev pub split·answer : List ℕ → List ℕ → List ℕ → ℕ
split·answer row first second = number_in (split_of row first second)

abbrev pub split·first : List ℕ → List ℕ → List ℕ → List ℕ
split·first row first second = split_first row first second

abbrev pub split·second : List ℕ → List ℕ → List ℕ → List ℕ
split·second row first second = split_second row first second

abbrev pub join·answer : List ℕ → List ℕ → List ℕ → ℕ
join·answer first second row = number_in (join_of first second row)

abbrev pub join·row : List ℕ → List ℕ → List ℕ → List ℕ
join·row first second row = join_row first second row

abbrev pub carries_picture·answer : StreamLineNumber → Bool
carries_picture·answer line = row_on line.number true false

-- ---- one span

abbrev pub lengths·answer : FormatNumbers → LengthsAnswer
lengths·answer format = lengths_answer_of (lengths_of (format_given format))

-- what the sender is asked for, with the samples
abbrev pub asked_of : SendRequest → List ℕ → Request
asked_of asked samples = request asked.line.number (content_from asked.named asked.content) samples

abbrev pub send·answer : FormatNumbers → SendRequest → List ℕ → List ℕ → SendAnswer
send·answer format asked samples symbols =
    send_answer_of (send_of (disparity_from asked.positive) (format_given format) (asked_of asked samples) (length symbols))

abbrev pub send·symbols : FormatNumbers → SendRequest → List ℕ → List ℕ → List ℕ
send·symbols format asked samples symbols =
    sent_buffer (disparity_from asked.positive) (format_given format) (asked_of asked samples) symbols

abbrev pub fill_blanking·answer : FormatNumbers → List ℕ → ℕ
fill_blanking·answer format row = number_in (fill_of (format_given format) row)

abbrev pub fill_blanking·row : FormatNumbers → List ℕ → List ℕ
fill_blanking·row format row = filled_row (format_given format) row

abbrev pub read·answer : FormatNumbers → List ℕ → List ℕ → ReadAnswer
read·answer format symbols rows = read_answer_of (read_of (format_given format) symbols (length rows))

abbrev pub read·rows : FormatNumbers → List ℕ → List ℕ → List ℕ
read·rows format symbols rows = rows_read (format_given format) symbols rows

abbrev pub judge·answer : FormatNumbers → List ℕ → ReadAnswer
judge·answer format symbols = read_answer_of (judge_of (format_given format) symbols)

-- ---- recordings

abbrev pub find·answer : FormatNumbers → List ℕ → ℕ → FindAnswer
find·answer format symbols start = find_answer_of (find_of (format_given format) symbols start)

abbrev pub next·answer : FormatNumbers → List ℕ → ℕ → List ℕ → NextAnswer
next·answer format symbols start rows =
    let f = format_given format in
    next_answer_of (next_of f symbols start (length rows)) (after_next f symbols start (length rows))

abbrev pub next·rows : FormatNumbers → List ℕ → ℕ → List ℕ → List ℕ
next·rows format symbols start rows = rows_next (format_given format) symbols start rows
