-- What an edit leaves in the parts of the memory lent that it may write: exactly r places, and exactly s × 2^r entries of each table.
-- o is the output, t the cost table and u the choice table; o', t' and u' are the same after the call.
use Rattle.std.specs.Prelude.{◌≡◌, ℕ, ◌^◌, ◌<◌, Bool, false, cond, ◌⊎◌, List, length, ◌==◌, Ok, Err}
use Rattle.subsets.specs.Tree.{under}
use Rattle.sheet.specs.Instance.{Instance, instance}
use Rattle.sheet.specs.Reading.{reading}
use Rattle.sheet.specs.Refusals.{refusal}
use Rattle.sheet.specs.declared.Sheet.{Sheet}
use Rattle.embedding.specs.Plan.{cheapest}
use Rattle.embedding.specs.Splits.{weighed}
use Rattle.records.specs.Told.{told}
use Rattle.records.specs.declared.Records.{Records}
use Rattle.checker.specs.Check.{Checked, checked}
use Rattle.planner.specs.Answers.{Planned, plan_of, unplanned, entries, solved}
use Rattle.planner.specs.Lent.{OutputAfter}
use Rattle.planner.specs.Kept.{kept_costs, kept_choices, Kept}
use Rattle.planner.specs.Inner.Tables.{entry}
use Rattle.edit.specs.Changed.{Changed}

-- the records are those of a sheet that the reader accepts
pub record Loaded (bytes : List ℕ) (k : Records) : Type 0 where
  pub sheet : Sheet
  pub reads : reading bytes ≡ Ok sheet
  pub tells : told k ≡ instance bytes

-- the check accepted a plan, and at this cost
abbrev pub accepted_at : Checked → ℕ → Bool
accepted_at (Ok m) k = m == k
accepted_at (Err f) k = false

-- what becomes of a plan that the tables give at a cost, by what the check says of it: it is handed out at that cost alone
abbrev pub handed : Checked → ℕ → ℕ → Planned
handed r k n = cond (accepted_at r k) (plan_of k n) (unplanned (refusal 23) 0)

-- the output: the plan where it is handed out
abbrev pub output_of : Planned → List ℕ → List ℕ → List ℕ
output_of (Ok p) plan output = plan
output_of (Err u) plan output = output

-- what comes of any tables
abbrev pub Comes : List ℕ → Planned → List ℕ → List ℕ → Type 0
Comes bytes (Ok p) o o' = checked bytes o' ≡ Ok p.cost
Comes bytes (Err u) o o' = ((u.refusal ≡ refusal 12) ⊎ ((u.refusal ≡ refusal 23) × (u.count ≡ 0))) × (o' ≡ o)

-- both tables reworked from cabinet e up to the root
pub record Reworks (bytes : List ℕ) (I : Instance) (e : ℕ) (o o' t t' u u' : List ℕ) (a : Planned) : Type 0 where
  pub outcome : Comes bytes a o o'
  pub costs : (c x : ℕ) → c < I.s → under I.parent c e ≡ false → x < 2 ^ I.r → entry (2 ^ I.r) t' c x ≡ entry (2 ^ I.r) t c x
  pub choices : (c x : ℕ) → c < I.s → (0 < c → under I.parent (I.parent c) e ≡ false) → x < 2 ^ I.r → entry (2 ^ I.r) u' c x ≡ entry (2 ^ I.r) u c x
  pub in_rule : (J : Instance) → Kept J t u → Changed e J I
      → (a ≡ solved (cheapest I) (weighed I)) × OutputAfter I a o o' × (t' ≡ kept_costs I) × (u' ≡ kept_choices I)

-- there is such a cabinet, and the parts are of the sizes that the instance needs
pub record Parted (I : Instance) (e : ℕ) (o t u : List ℕ) : Type 0 where
  pub cabinet : e < I.s
  pub places : length o ≡ I.r
  pub costs : length t ≡ entries I
  pub choices : length u ≡ entries I
