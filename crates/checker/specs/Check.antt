-- What the check answers for any bytes and any plan: 01, "A valid plan and its cost" and refusals 13 to 16, with 20 of 02 (a) after 14 and the joints of 02 (i) in 15.
use Rattle.std.specs.Prelude.{ℕ, zero, suc, not, List, [], ◌∷◌, ◌++◌, length, eqb, Result, Ok, Err}
use Rattle.sheet.specs.Refusals.{Rule, first_applying, refusal}
use Rattle.sheet.specs.Reading as reader
use Rattle.sheet.specs.Reading.{reading}
use Rattle.sheet.specs.Instance.{Instance, instance}
use Rattle.sheet.specs.declared.Refusal.{Refusal}
use Rattle.sheet.specs.Reading.{Reading}
use Rattle.embedding.specs.Plan.{place, in_range, bars_keep, cabinets_keep, links_keep, plan_cost}

-- what the check answers: the plan's cost, or a refusal
abbrev pub Checked : Type 0
Checked = Result ℕ Refusal

-- the refusals of a plan: it hasn't exactly r places; a cabinet number is not below s; a service is on a cabinet that it is barred from;
-- a cabinet is overfull, or a service is on a joint; a link direction is overfull
unfoldable pub rules : Instance → List ℕ → List Rule
rules I plan =
    record { number = 13; applies = not (eqb (length plan) I.r) }
    ∷ record { number = 14; applies = not (in_range I (place plan)) }
    ∷ record { number = 20; applies = not (bars_keep I (place plan)) }
    ∷ record { number = 15; applies = not (cabinets_keep I (place plan)) }
    ∷ record { number = 16; applies = not (links_keep I (place plan)) }
    ∷ []

-- all refusals that the check can give, in the order in which they are tried
abbrev pub all_rules : List ℕ → List ℕ → List Rule
all_rules bytes plan = reader.rules bytes ++ rules (instance bytes) plan

-- their numbers
abbrev pub check_numbers : List ℕ
check_numbers = reader.reader_numbers ++ (13 ∷ 14 ∷ 20 ∷ 15 ∷ 16 ∷ [])

-- the cost where no refusal applies, which 0 stands for, else that refusal
unfoldable pub answered : ℕ → ℕ → Checked
answered zero cost = Ok cost
answered (suc n) cost = Err (refusal (suc n))

-- the answer for a plan on a sheet that the reader accepts
unfoldable pub plan_checked : Instance → List ℕ → Checked
plan_checked I plan = answered (first_applying (rules I plan)) (plan_cost I (place plan))

-- a refusal of the reader is handed on
unfoldable pub checked_after : Reading → Instance → List ℕ → Checked
checked_after (Ok h) I plan = plan_checked I plan
checked_after (Err f) I plan = Err f

-- what the check answers
unfoldable pub checked : List ℕ → List ℕ → Checked
checked bytes plan = checked_after (reading bytes) (instance bytes) plan
