-- What the planner answers: 01's sections "The planner" and "Who can cause a refusal".
use Rattle.std.specs.Prelude.{◌≡◌, ℕ, zero, suc, ◌*◌, ◌^◌, not, List, [], ◌∷◌, ◌++◌, Result, Ok, Err}
use Rattle.subsets.specs.Costs.{Cost, none, some, is_some}
use Rattle.sheet.specs.Instance.{Instance, instance}
use Rattle.sheet.specs.Reading as reader
use Rattle.sheet.specs.Reading.{reading}
use Rattle.sheet.specs.Refusals.{Rule, first_applying, refusal, number_of, group_of}
use Rattle.sheet.specs.declared.Refusal.{Refusal}
use Rattle.sheet.specs.Reading.{Reading}
use Rattle.embedding.specs.Plan.{cheapest}
use Rattle.embedding.specs.Splits.{weighed}
use Rattle.lending.specs.Rules.{lender_rules}
use Rattle.lending.specs.declared.Span.{Span}
use Rattle.planner.specs.declared.Found.{Found}
use Rattle.planner.specs.declared.Unplanned.{Unplanned}

-- what the planner answers: a plan's cost, or a refusal; and the count of the splits weighed in both cases
abbrev pub Planned : Type 0
Planned = Result Found Unplanned

-- a plan of this cost, with this count
abbrev pub plan_of : ℕ → ℕ → Planned
plan_of k n = Ok record { cost = k; count = n }

-- this refusal, with this count
abbrev pub unplanned : Refusal → ℕ → Planned
unplanned f n = Err record { refusal = f; count = n }

-- an answer's number; 0 with a plan
abbrev pub number : Planned → ℕ
number (Ok p) = 0
number (Err u) = number_of u.refusal

-- its group; 0 with a plan
abbrev pub group : Planned → ℕ
group (Ok p) = 0
group (Err u) = group_of u.refusal

-- the plan's cost; 0 in a refusal
abbrev pub cost : Planned → ℕ
cost (Ok p) = p.cost
cost (Err u) = 0

-- the count of the splits weighed
abbrev pub count : Planned → ℕ
count (Ok p) = p.count
count (Err u) = u.count

-- the entries that a table needs: a row of 2^r for each cabinet
abbrev pub entries : Instance → ℕ
entries I = I.s * 2 ^ I.r

-- the memory is enough, with an output and tables of these lengths: none of the lender's refusals applies
abbrev pub Enough : Instance → ℕ → ℕ → ℕ → Span → Type 0
Enough I output costs choices span = first_applying (lender_rules I.r (entries I) output costs choices span) ≡ 0

-- the road's refusal: no valid plan exists
abbrev pub road_rules : Instance → List Rule
road_rules I = record { number = 12; applies = not (is_some (cheapest I)) } ∷ []

-- all refusals that the planner can give, in the order in which they are tried
abbrev pub all_rules : List ℕ → ℕ → ℕ → ℕ → Span → List Rule
all_rules bytes output costs choices span =
    reader.rules bytes
    ++ (lender_rules (instance bytes).r (entries (instance bytes)) output costs choices span ++ road_rules (instance bytes))

-- their numbers
abbrev pub plan_numbers : List ℕ
plan_numbers = reader.reader_numbers ++ (10 ∷ 24 ∷ 11 ∷ 12 ∷ [])

-- with memory enough: the cheapest plan's cost, or 12 where there is none; and the count of splits in both cases
abbrev pub solved : Cost → ℕ → Planned
solved none n = unplanned (refusal 12) n
solved (some k) n = plan_of k n

-- the lender's refusal of a number, where 0 stands for none
abbrev pub lent : ℕ → Instance → Planned
lent zero I = solved (cheapest I) (weighed I)
lent (suc n) I = unplanned (refusal (suc n)) 0

-- the reader's refusal is handed on; an accepted sheet is planned
abbrev pub answered : Reading → Instance → ℕ → ℕ → ℕ → Span → Planned
answered (Err f) I output costs choices span = unplanned f 0
answered (Ok h) I output costs choices span = lent (first_applying (lender_rules I.r (entries I) output costs choices span)) I

-- the planner's answer to a sheet, for an output and tables of so many places, and a span of the tables
unfoldable pub planned : List ℕ → ℕ → ℕ → ℕ → Span → Planned
planned bytes output costs choices span = answered (reading bytes) (instance bytes) output costs choices span
