-- What the two tables hold: a row of 2^r entries for each cabinet, in cabinet order, one entry for each set of services.
-- t is a cost table and u a choice table.
use Rattle.std.specs.Prelude.{◌≡◌, ℕ, ◌+◌, ◌*◌, ◌^◌, ◌<◌, List, nat_lt, slice_index}
use Rattle.finite.specs.Below.{only}
use Rattle.subsets.specs.Inner.Encoded.{figure}
use Rattle.subsets.specs.Inner.Rows.{row_at}
use Rattle.subsets.specs.Inner.Kept.{kept_choice}
use Rattle.rows.specs.Keys.{base}
use Rattle.sheet.specs.Instance.{Instance}
use Rattle.embedding.specs.Inner.Charge.{net}
use Rattle.embedding.specs.Splits.{weighed}

-- the entry for cabinet p and the set x, where a row has so many entries
abbrev pub entry : ℕ → List ℕ → ℕ → ℕ → ℕ
entry size table p x = slice_index table (p * size + x)

-- a cost entry: the figure of the least charge of x on p and all cabinets under it
unfoldable pub cost_entry : Instance → ℕ → ℕ → ℕ
cost_entry I p x = figure (row_at (net I) p I.s x)

-- a choice entry: the services of x that stay when c is joined to its parent, where of splits of the same cost the one with the lower key wins, and for
-- the empty set the count of the splits of that join; the root, which is joined to none, has 0
unfoldable pub choice_entry : Instance → ℕ → ℕ → ℕ
choice_entry I c x = only (nat_lt 0 c) (kept_choice base (net I) c x)

-- every entry of a table of s rows is that of f
abbrev pub Entries : Instance → (ℕ → ℕ → ℕ) → List ℕ → Type 0
Entries I f table = (p x : ℕ) → p < I.s → x < 2 ^ I.r → entry (2 ^ I.r) table p x ≡ f p x

-- both tables filled, and the splits weighed on the way
pub record Filled (I : Instance) (t u : List ℕ) (n : ℕ) : Type 0 where
  pub costs : Entries I (cost_entry I) t
  pub choices : Entries I (choice_entry I) u
  pub count : n ≡ weighed I
