-- 01's section "Who can cause a refusal": the group of each number, and which of several refusals is given. The numbers that requests add
-- have their groups and places here from the start.
use Rattle.std.specs.Prelude.{ℕ, Bool, true, false, ◌&&◌, ◌||◌, cond, List, [], ◌∷◌, eqb}
use Rattle.sheet.specs.declared.Refusal.{Refusal}
use Rattle.sheet.specs.declared.Refusal.TheVariants.{SheetWriter, Lender, Road, PlanWriter}

-- the numbers of whoever wrote the sheet
abbrev pub sheet_writers : List ℕ
sheet_writers = 1 ∷ 2 ∷ 3 ∷ 4 ∷ 5 ∷ 6 ∷ 7 ∷ 8 ∷ 9 ∷ 18 ∷ 19 ∷ 25 ∷ 27 ∷ 28 ∷ []

-- the numbers of whoever lends memory
abbrev pub lenders : List ℕ
lenders = 10 ∷ 11 ∷ 21 ∷ 22 ∷ 24 ∷ 26 ∷ []

-- the number of the road
abbrev pub roads : List ℕ
roads = 12 ∷ []

-- the numbers of whoever wrote the plan
abbrev pub plan_writers : List ℕ
plan_writers = 13 ∷ 14 ∷ 15 ∷ 16 ∷ 20 ∷ 23 ∷ []

-- n is in the list
abbrev pub one_of : List ℕ → ℕ → Bool
one_of [] n = false
one_of (m ∷ ms) n = eqb m n || one_of ms n

-- the refusal of a number, in its group. 17, which the program alone gives, has none of the four and is never asked for.
unfoldable pub refusal : ℕ → Refusal
refusal n =
    cond (one_of sheet_writers n) (SheetWriter n) (cond (one_of lenders n) (Lender n) (cond (one_of roads n) (Road n) (PlanWriter n)))

-- the number that a refusal carries
abbrev pub number_of : Refusal → ℕ
number_of (SheetWriter n) = n
number_of (Lender n) = n
number_of (Road n) = n
number_of (PlanWriter n) = n

-- the number of a refusal's group: 1 whoever wrote the sheet, 2 whoever lends, 3 the road, 4 whoever wrote the plan
abbrev pub group_of : Refusal → ℕ
group_of (SheetWriter n) = 1
group_of (Lender n) = 2
group_of (Road n) = 3
group_of (PlanWriter n) = 4

-- the order of giving: "If several apply, the lowest number is given", but where 01 or 02 gives a number another place, as its words here say
abbrev pub giving : List ℕ
giving =
    -- "Only the program gives it, before all else"
    17
    -- "27 comes first, then the reader's refusal of the earliest refused sheet, then 28, then 10"
    ∷ 27
    -- "Sizes outside the limits are 26, and that comes before 21"
    ∷ 26
    ∷ 1 ∷ 2
    -- "k outside 1 to 4 is 25, after 2"
    ∷ 25
    ∷ 3 ∷ 4 ∷ 5 ∷ 6 ∷ 7 ∷ 8 ∷ 9
    -- "both after 9 in that order"
    ∷ 18 ∷ 19
    ∷ 28 ∷ 10
    -- "24, between 10 and 11"
    ∷ 24
    ∷ 11
    ∷ 13 ∷ 14
    -- "20, between 14 and 15"
    ∷ 20
    ∷ 15 ∷ 16
    -- an edit's "number not below s is 14, after 11"; whether there is a plan is known after that
    ∷ 12
    -- "the answer is 23, after that 14"
    ∷ 23
    -- "22, after the plan's refusals"
    ∷ 22
    -- "21, after all refusals of the sheet"
    ∷ 21
    ∷ []

-- a refusal's number, and whether its condition holds
pub record Rule : Type 0 where
  pub number : ℕ
  pub applies : Bool

-- the number of the first rule that applies, 0 where none does
unfoldable pub first_applying : List Rule → ℕ
first_applying [] = 0
first_applying (x ∷ xs) = cond x.applies x.number (first_applying xs)

-- some rule of this number applies
unfoldable pub some_applies : List Rule → ℕ → Bool
some_applies [] n = false
some_applies (x ∷ xs) n = (eqb x.number n && x.applies) || some_applies xs n

-- the first of these numbers of which some rule applies, 0 where there is none
unfoldable pub first_of : List ℕ → List Rule → ℕ
first_of [] xs = 0
first_of (n ∷ ns) xs = cond (some_applies xs n) n (first_of ns xs)

-- the rules stand in the order of these numbers, of which some may have no rule
unfoldable pub in_order : List ℕ → List Rule → Bool
in_order [] [] = true
in_order [] (x ∷ xs) = false
in_order (n ∷ ns) [] = true
in_order (n ∷ ns) (x ∷ xs) = elim (eqb n x.number) [ true ↦ in_order ns xs | false ↦ in_order ns (x ∷ xs) ]
