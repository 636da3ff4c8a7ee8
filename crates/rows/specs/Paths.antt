-- The rows on the path from a cabinet to the root rebuilt, whatever the tables hold.
-- t is a cost table and u a choice table; t' and u' are the same after a call.
use Rattle.std.specs.Prelude.{ℕ, ◌+◌, ◌-◌, ◌^◌, ◌<◌, ◌≡◌, Bool, true, false, ◌&&◌, cond, List, eqb, ltb, length}
use Rattle.subsets.specs.Tree.{under}
use Rattle.rows.specs.Cabinets.{parent_of}
use Rattle.rows.specs.Rebuilds.{entry, Built, Fills, fillable}
use Rattle.records.specs.declared.Records.{Records}

-- cabinet d is on the path from e to the root: it is e, or above it
abbrev pub on_path : Records → ℕ → ℕ → Bool
on_path k e d = under (parent_of k) d e

-- the rows on the path are built; all other cost rows stay, and so do the choices of the root and of the cabinets whose parents are off the path
pub record Climbs (k : Records) (size e : ℕ) (sums t t' u u' : List ℕ) : Type 0 where
  pub rows : (d : ℕ) → d < k.cabinets → on_path k e d ≡ true → Built k size d sums t' u'
  pub costs : (d x : ℕ) → on_path k e d ≡ false → x < size → entry size t' d x ≡ entry size t d x
  pub choices : (d x : ℕ) → (0 < d → d < k.cabinets → on_path k e (parent_of k d) ≡ false) → x < size → entry size u' d x ≡ entry size u d x

-- the row that is rebuilt after that of q: that before it where the whole table is rebuilt, else its parent's
abbrev pub next_row : Bool → ℕ → ℕ → ℕ
next_row whole parent q = cond whole (q - 1) parent

-- so many rows from p on have their keys kept, of so many, where that of q was rebuilt last
abbrev pub rows_near : Bool → ℕ → ℕ → ℕ → ℕ
rows_near whole rows p q = cond whole rows (cond (eqb q (p + 1)) 2 1)

-- all rows are rebuilt, or those on the path from `first` to the root
pub record RebuildsRows (whole : Bool) (k : Records) (size first : ℕ) (sums t t' u u' : List ℕ) (m : ℕ) : Type 0 where
  pub table : whole ≡ true → Fills k size sums t t' u u' m
  pub path : whole ≡ false → Climbs k size first sums t t' u u'

-- there is a path to rebuild: there is such a cabinet, and the tables can be filled
abbrev pub climbable : Records → ℕ → ℕ → ℕ → ℕ → Bool
climbable k e sums costs choices = ltb e k.cabinets && fillable k sums costs choices

-- the rows on the path are built where they can be, else nothing is done to the tables
pub record ClimbsRows (k : Records) (e : ℕ) (sums t t' u u' : List ℕ) : Type 0 where
  pub done : climbable k e (length sums) (length t) (length u) ≡ true → Climbs k (2 ^ k.services) e sums t t' u u'
  pub left : climbable k e (length sums) (length t) (length u) ≡ false → (t' ≡ t) × (u' ≡ u)
