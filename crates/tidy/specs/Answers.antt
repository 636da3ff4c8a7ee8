-- What the call that writes a tidy copy answers, and what its output holds then: 02 (d).
use Rattle.std.specs.Prelude.{ℕ, zero, suc, List, [], ◌∷◌, ◌++◌, ltb, drop, Result, Ok, Err}
use Rattle.sheet.specs.Instance.{Instance, instance}
use Rattle.sheet.specs.Reading as reader
use Rattle.sheet.specs.Reading.{reading}
use Rattle.sheet.specs.Refusals.{Rule, first_applying, refusal, number_of, group_of}
use Rattle.sheet.specs.declared.Refusal.{Refusal}
use Rattle.sheet.specs.Reading.{Reading}
use Rattle.tidy.specs.Copy.{copy_length}

-- what the call answers: the length of the sheet that it wrote, or a refusal
abbrev pub Written : Type 0
Written = Result ℕ Refusal

-- an answer's number; 0 where a sheet was written
abbrev pub number : Written → ℕ
number (Ok n) = 0
number (Err f) = number_of f

-- its group; 0 where a sheet was written
abbrev pub group : Written → ℕ
group (Ok n) = 0
group (Err f) = group_of f

-- the length of the sheet written; 0 in a refusal
abbrev pub bytes_written : Written → ℕ
bytes_written (Ok n) = n
bytes_written (Err f) = 0

-- the lender's refusal of an output of n places for a sheet of so many bytes
abbrev pub room_rules : ℕ → ℕ → List Rule
room_rules size n = record { number = 21; applies = ltb n size } ∷ []

-- all refusals that the call can give, in the order in which they are tried
abbrev pub all_rules : List ℕ → ℕ → List Rule
all_rules bytes n = reader.rules bytes ++ room_rules (copy_length (instance bytes)) n

-- their numbers
abbrev pub tidy_numbers : List ℕ
tidy_numbers = reader.reader_numbers ++ (21 ∷ [])

-- the length where no refusal applies, which 0 stands for, else that refusal
abbrev pub given : ℕ → ℕ → Written
given zero size = Ok size
given (suc n) size = Err (refusal (suc n))

-- what a call answers that is to write a sheet of so many bytes to an output of n places
unfoldable pub written : ℕ → ℕ → Written
written size n = given (first_applying (room_rules size n)) size

-- the reader's refusal is handed on
unfoldable pub answered : Reading → Instance → ℕ → Written
answered (Ok h) I n = written (copy_length I) n
answered (Err f) I n = Err f

-- the answer to a sheet, for an output of n places
unfoldable pub tidy_answer : List ℕ → ℕ → Written
tidy_answer bytes n = answered (reading bytes) (instance bytes) n

-- the output after a call that writes these bytes: they stand at the front, and what is behind them stays; after a refusal all stays
unfoldable pub output_after : List ℕ → Written → List ℕ → List ℕ
output_after bytes (Ok n) output = bytes ++ drop n output
output_after bytes (Err f) output = output
