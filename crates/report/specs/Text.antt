-- The program's text, in ASCII: 01's section "The program" and its refusal 17.
use Rattle.std.specs.Prelude.{ℕ, zero, suc, ◌+◌, ◌/◌, ◌%◌, cond, List, [], ◌∷◌, ◌++◌, ltb, length, Ok, Err}
use Rattle.sheet.specs.Limits.{max_services}
use Rattle.sheet.specs.Refusals.{number_of}
use Rattle.sheet.specs.Instance.{instance}
use Rattle.embedding.specs.First.{first_plan, places}
use Rattle.lending.specs.Spans.{whole}
use Rattle.planner.specs.Answers.{Planned, planned}

-- the most bytes that the program takes as a sheet
abbrev pub longest : ℕ
longest = 4096

-- the number of the refusal of more bytes
abbrev pub too_long : ℕ
too_long = 17

-- the entries of each table that the program lends to the planner
abbrev pub table_entries : ℕ
table_entries = 4096

-- the decimal digits of n, the most significant first, where it has at most k; the digit d is the byte 48 + d
unfoldable pub digits_within : ℕ → ℕ → List ℕ
digits_within zero n = []
digits_within (suc k) n = cond (ltb n 10) ((48 + n) ∷ []) (digits_within k (n / 10) ++ ((48 + n % 10) ∷ []))

-- the decimal digits of n, the fewest that hold it; it has at most n + 1
unfoldable pub decimal : ℕ → List ℕ
decimal n = digits_within (suc n) n

-- "cost"
abbrev pub cost_word : List ℕ
cost_word = 99 ∷ 111 ∷ 115 ∷ 116 ∷ []

-- "weighed"
abbrev pub weighed_word : List ℕ
weighed_word = 119 ∷ 101 ∷ 105 ∷ 103 ∷ 104 ∷ 101 ∷ 100 ∷ []

-- "refused"
abbrev pub refused_word : List ℕ
refused_word = 114 ∷ 101 ∷ 102 ∷ 117 ∷ 115 ∷ 101 ∷ 100 ∷ []

-- " "
abbrev pub space : List ℕ
space = 32 ∷ []

-- what ends a line
abbrev pub line_end : List ℕ
line_end = 10 ∷ []

-- a line: a word, a space and a number
unfoldable pub line : List ℕ → ℕ → List ℕ
line word n = word ++ space ++ decimal n ++ line_end

-- the line of a refusal
abbrev pub refusal_line : ℕ → List ℕ
refusal_line n = line refused_word n

-- a line for each service from i on: its number and its cabinet
unfoldable pub service_lines : ℕ → List ℕ → List ℕ
service_lines i [] = []
service_lines i (c ∷ cs) = line (decimal i) c ++ service_lines (suc i) cs

-- the text of an answer, with the cabinets of the plan that was written
unfoldable pub answer_text : Planned → List ℕ → List ℕ
answer_text (Ok p) plan = line cost_word p.cost ++ line weighed_word p.count ++ service_lines 0 plan
answer_text (Err u) plan = refusal_line (number_of u.refusal)

-- the planner's answer with the memory that the program lends, its tables as a whole
abbrev pub program_answer : List ℕ → Planned
program_answer bytes = planned bytes max_services table_entries table_entries (whole table_entries table_entries)

-- the text for a sheet: that of the planner's answer, with the first of the cheapest plans
unfoldable pub sheet_text : List ℕ → List ℕ
sheet_text bytes = answer_text (program_answer bytes) (places (instance bytes).r (first_plan (instance bytes)))

-- the text that the program prints: that for a sheet, or refusal 17 where the bytes are too many
unfoldable pub printed : List ℕ → List ℕ
printed bytes = cond (ltb longest (length bytes)) (refusal_line too_long) (sheet_text bytes)
