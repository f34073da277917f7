-- What is printed: how many stream lines were sent, delivered and lost, and which were the first and the last lost, with the picture lines
-- that they carry (004, 5.3 and 6.1).
-- Assumes nothing.
use Rattle.std.specs.Prelude.{ℕ, zero, suc, ◌+◌, ◌-◌, Bool, cond, List, [], ◌∷◌, ◌++◌, eqb, leb, length, get_or, Result, Ok, Err}
use Rattle.std.proofs.Math.Option
use Rattle.std.proofs.Math.Option.{Option, none, some}
use Rattle.std.proofs.lemmas.List.Edits.{sets}
use Rattle.ground.specs.Answer.{Answer, refused, given, unless, checked, unless_refused}
use Rattle.ground.specs.Search.{first_below}
use Rattle.io.specs.Counts.{IsPrefixLen}
use Rattle.picture.specs.Place.{picture_line_on}
use Rattle.text.specs.Number.{decimal}
use Rattle.text.specs.Put.{newline}
use Rattle.reception.specs.declared.summary.SummaryError.{SummaryError}
use Rattle.reception.specs.declared.summary.SummaryError.TheVariants.{WrongInput, WrongOutput}

-- flags, one for each line from line 1 on: 0 for a lost line
abbrev pub is_lost : List ℕ → ℕ → Bool
is_lost heard i = eqb (get_or heard i 0) 0

-- how many are not 0
unfoldable pub delivered : List ℕ → ℕ
delivered [] = 0
delivered (h ∷ heard) = cond (eqb h 0) 0 1 + delivered heard

-- the first lost line; 1 if none is lost
unfoldable pub first_lost : List ℕ → ℕ
first_lost heard = Option.get_or (first_below (length heard) (is_lost heard)) 0 + 1

-- the last lost line among the first n; 1 if none is lost
unfoldable pub last_of : List ℕ → ℕ → ℕ
last_of heard zero = 1
last_of heard (suc n) = cond (is_lost heard n) (suc n) (last_of heard n)

abbrev pub last_lost : List ℕ → ℕ
last_lost heard = last_of heard (length heard)

-- ---- the text

-- a label, a number and a newline
abbrev pub item : List ℕ → ℕ → List ℕ
item label n = label ++ (decimal n ++ (newline ∷ []))

-- "stream lines sent ", "stream lines delivered ", "stream lines lost "
abbrev pub sent_label : List ℕ
sent_label = 115 ∷ 116 ∷ 114 ∷ 101 ∷ 97 ∷ 109 ∷ 32 ∷ 108 ∷ 105 ∷ 110 ∷ 101 ∷ 115 ∷ 32 ∷ 115 ∷ 101 ∷ 110 ∷ 116 ∷ 32 ∷ []

abbrev pub delivered_label : List ℕ
delivered_label =
    115 ∷ 116 ∷ 114 ∷ 101 ∷ 97 ∷ 109 ∷ 32 ∷ 108 ∷ 105 ∷ 110 ∷ 101 ∷ 115 ∷ 32
    ∷ 100 ∷ 101 ∷ 108 ∷ 105 ∷ 118 ∷ 101 ∷ 114 ∷ 101 ∷ 100 ∷ 32 ∷ []

abbrev pub lost_label : List ℕ
lost_label = 115 ∷ 116 ∷ 114 ∷ 101 ∷ 97 ∷ 109 ∷ 32 ∷ 108 ∷ 105 ∷ 110 ∷ 101 ∷ 115 ∷ 32 ∷ 108 ∷ 111 ∷ 115 ∷ 116 ∷ 32 ∷ []

-- "first stream line lost ", "last stream line lost "
abbrev pub first_label : List ℕ
first_label =
    102 ∷ 105 ∷ 114 ∷ 115 ∷ 116 ∷ 32 ∷ 115 ∷ 116 ∷ 114 ∷ 101 ∷ 97 ∷ 109
    ∷ 32 ∷ 108 ∷ 105 ∷ 110 ∷ 101 ∷ 32 ∷ 108 ∷ 111 ∷ 115 ∷ 116 ∷ 32 ∷ []

abbrev pub last_label : List ℕ
last_label = 108 ∷ 97 ∷ 115 ∷ 116 ∷ 32 ∷ 115 ∷ 116 ∷ 114 ∷ 101 ∷ 97 ∷ 109 ∷ 32 ∷ 108 ∷ 105 ∷ 110 ∷ 101 ∷ 32 ∷ 108 ∷ 111 ∷ 115 ∷ 116 ∷ 32 ∷ []

-- " (picture lines ", " and ", ")" and a newline; " (frame blanking)" and a newline
abbrev pub lines_label : List ℕ
lines_label = 32 ∷ 40 ∷ 112 ∷ 105 ∷ 99 ∷ 116 ∷ 117 ∷ 114 ∷ 101 ∷ 32 ∷ 108 ∷ 105 ∷ 110 ∷ 101 ∷ 115 ∷ 32 ∷ []

abbrev pub and_label : List ℕ
and_label = 32 ∷ 97 ∷ 110 ∷ 100 ∷ 32 ∷ []

abbrev pub lines_end : List ℕ
lines_end = 41 ∷ newline ∷ []

abbrev pub blanking_text : List ℕ
blanking_text = 32 ∷ 40 ∷ 102 ∷ 114 ∷ 97 ∷ 109 ∷ 101 ∷ 32 ∷ 98 ∷ 108 ∷ 97 ∷ 110 ∷ 107 ∷ 105 ∷ 110 ∷ 103 ∷ 41 ∷ newline ∷ []

-- the two picture lines that a stream line carries: a first for images 1 and 2, a second for images 3 and 4
abbrev pub lines_text : ℕ → ℕ → List ℕ
lines_text a b = lines_label ++ (decimal a ++ (and_label ++ (decimal b ++ lines_end)))

abbrev pub carried_by : Option ℕ → Option ℕ → List ℕ
carried_by (some a) (some b) = lines_text a b
carried_by (some a) none = blanking_text
carried_by none second = blanking_text

abbrev pub carried_text : ℕ → List ℕ
carried_text n = carried_by (picture_line_on n 1) (picture_line_on n 3)

-- a stream line that was lost, and what it carries
abbrev pub lost_item : List ℕ → ℕ → List ℕ
lost_item label n = label ++ (decimal n ++ carried_text n)

-- the first and the last that was lost, if any
abbrev pub which : List ℕ → List ℕ
which heard = lost_item first_label (first_lost heard) ++ lost_item last_label (last_lost heard)

abbrev pub summary : List ℕ → List ℕ
summary heard =
    item sent_label (length heard)
    ++ (item delivered_label (delivered heard)
    ++ (item lost_label (length heard - delivered heard)
    ++ cond (eqb (length heard - delivered heard) 0) [] (which heard)))

-- ---- the call

-- the paper's number for each answer
abbrev pub paper_summarised : Result ℕ SummaryError → Answer ℕ
paper_summarised (Ok n) = given n
paper_summarised (Err WrongInput) = refused 3 0
paper_summarised (Err WrongOutput) = refused 4 0

-- 3 if these are not the flags of a frame's 1,125 lines, then 4 if there is no room for 256 bytes; otherwise how many bytes were put
abbrev pub summarised_of : List ℕ → ℕ → Answer ℕ
summarised_of heard out = checked (unless 3 (eqb (length heard) 1125) ∷ unless 4 (leb 256 out) ∷ []) (length (summary heard))

abbrev pub summary_put : List ℕ → List ℕ → List ℕ
summary_put heard out = unless_refused (summarised_of heard (length out)) out (sets out 0 (summary heard))

-- so many bytes there are in the buffer
abbrev pub CountsIn : Result ℕ SummaryError → List ℕ → Type 0
CountsIn (Ok n) out = IsPrefixLen n out
CountsIn (Err why) out = Unit
