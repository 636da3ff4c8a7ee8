-- What the two tables hold once they are filled: the least charges over the net of the records, and the splits that win.
-- t is a cost table and u a choice table; a row has 2^r entries, one for each set of services.
use Rattle.std.specs.Prelude.{◌≡◌, ℕ, ◌*◌, ◌^◌, ◌<◌, Bool, true, false, cond, ◌&&◌, List, length, replicate, ◌==◌, bit_and, nat_lt, slice_index}
use Rattle.finite.specs.Below.{only, sum_below}
use Rattle.subsets.specs.Costs.{Cost, none, some}
use Rattle.subsets.specs.Figures.{is_cost}
use Rattle.subsets.specs.Inner.Encoded.{figure}
use Rattle.subsets.specs.Inner.Masks.{full}
use Rattle.subsets.specs.Inner.Net.{Net}
use Rattle.subsets.specs.Inner.Rows.{row_at}
use Rattle.subsets.specs.Inner.Kept.{kept_choice}
use Rattle.subsets.specs.Inner.Local.{Differ}
use Rattle.subsets.specs.Inner.Count.{weighed}
use Rattle.subsets.specs.Inner.Back.{seat}
use Rattle.rows.specs.Cabinets.{parent_of, own_of, link_of}
use Rattle.solver.specs.Sound.{sound}
use Rattle.rows.specs.Charges.{own_cost, link_cost}
use Rattle.solver.specs.Sums.{demand_in, flow_out}
use Rattle.rows.specs.Keys.{base}
use Rattle.rows.specs.Rebuilds.{entry}
use Rattle.rows.specs.Paths.{on_path}
use Rattle.records.specs.declared.Records.{Records}
use Rattle.solver.specs.declared.Kept.{Kept}
use Rattle.solver.specs.declared.Kept.TheVariants.{Plan, NoPlan, Unfit}

-- the net of the records; a cabinet charges for those services of x that are there
abbrev pub netted : Records → Net
netted k =
    record {
      r = k.services;
      s = k.cabinets;
      parent = parent_of k;
      node = λ c x. own_cost (own_of k c) (bit_and x (full k.services)) (demand_in k.demand k.services x);
      link = λ c x. link_cost (link_of k c) (flow_out k.from k.to k.load k.streams x) (flow_out k.to k.from k.load k.streams x);
    }

-- a cost entry: the figure of the least charge of x on p and all cabinets under it
unfoldable pub cost_entry : Records → ℕ → ℕ → ℕ
cost_entry k p x = figure (row_at (netted k) p k.cabinets x)

-- a choice entry: the services of x that stay when c is joined to its parent, where of splits of the same cost the one with the lower key wins, and for
-- the empty set the count of the splits of that join; the root, which is joined to none, has 0
unfoldable pub choice_entry : Records → ℕ → ℕ → ℕ
choice_entry k c x = only (nat_lt 0 c) (kept_choice base (netted k) c x)

-- every entry of a table is that of f
abbrev pub Entries : Records → (ℕ → ℕ → ℕ) → List ℕ → Type 0
Entries k f table = (p x : ℕ) → p < k.cabinets → x < 2 ^ k.services → entry (2 ^ k.services) table p x ≡ f p x

-- both tables filled, and the splits weighed on the way
pub record Filled (k : Records) (t u : List ℕ) (n : ℕ) : Type 0 where
  pub costs : Entries k (cost_entry k) t
  pub choices : Entries k (choice_entry k) u
  pub count : n ≡ weighed (netted k)

-- the entries that a table needs
abbrev pub entries : Records → ℕ
entries k = k.cabinets * 2 ^ k.services

-- sound records, rows of 2^r entries, and tables of exactly s rows
pub record Ready (k : Records) (size : ℕ) (t u : List ℕ) : Type 0 where
  pub is_sound : sound k ≡ true
  pub row_size : size ≡ 2 ^ k.services
  pub costs : length t ≡ k.cabinets * size
  pub choices : length u ≡ k.cabinets * size

-- where the root's row has a cost for all services, it is the cost of a plan
abbrev pub decided : Cost → ℕ → Kept
decided none n = NoPlan n
decided (some c) n = Plan c n

-- the least charge of all services on the whole tree
abbrev pub least : Records → Cost
least k = row_at (netted k) 0 k.cabinets (full k.services)

-- what the figure of all services on the whole tree says, with the count n
abbrev pub read_answer : ℕ → ℕ → Kept
read_answer f n = cond (is_cost f) (Plan f n) (NoPlan n)

-- the output after the call: the placing that the choices u name, whatever they are, or what was there
abbrev pub PlacedBy : Records → List ℕ → Kept → List ℕ → List ℕ → Type 0
PlacedBy k u (Plan c n) output output' = (i : ℕ) → i < k.services → slice_index output' i ≡ seat (netted k) (entry (2 ^ k.services) u) 0 k.cabinets (full k.services) i
PlacedBy k u (NoPlan n) output output' = output' ≡ output
PlacedBy k u Unfit output output' = output' ≡ output

-- the output after the call: the placing read back from the choices of the net, or what was there
abbrev pub OutputOf : Records → Kept → List ℕ → List ℕ → Type 0
OutputOf k (Plan c n) output output' = (i : ℕ) → i < k.services → slice_index output' i ≡ seat (netted k) (choice_entry k) 0 k.cabinets (full k.services) i
OutputOf k (NoPlan n) output output' = output' ≡ output
OutputOf k Unfit output output' = output' ≡ output

-- sound records, and memory lent of exactly the size that they need
unfoldable pub fitting : Records → ℕ → ℕ → ℕ → Bool
fitting k output costs choices = sound k && ((output == k.services && costs == entries k) && choices == entries k)

-- what a keeping call gives and leaves: filled tables, or where something does not fit, all as it was
pub record Keeps (k : Records) (o o' t t' u u' : List ℕ) (a : Kept) : Type 0 where
  pub answer : fitting k (length o) (length t) (length u) ≡ true → a ≡ decided (least k) (weighed (netted k))
  pub output : fitting k (length o) (length t) (length u) ≡ true → OutputOf k a o o'
  pub tables : fitting k (length o) (length t) (length u) ≡ true → Filled k t' u' (weighed (netted k))
  pub left : fitting k (length o) (length t) (length u) ≡ false → (a ≡ Unfit) × (o' ≡ o) × (t' ≡ t) × (u' ≡ u)

-- what a solving call gives and leaves: the same, with both tables cleared
pub record Solves (k : Records) (o o' t t' u u' : List ℕ) (a : Kept) : Type 0 where
  pub answer : fitting k (length o) (length t) (length u) ≡ true → a ≡ decided (least k) (weighed (netted k))
  pub output : fitting k (length o) (length t) (length u) ≡ true → OutputOf k a o o'
  pub tables : fitting k (length o) (length t) (length u) ≡ true → (t' ≡ replicate (entries k) 0) × (u' ≡ replicate (entries k) 0)
  pub left : fitting k (length o) (length t) (length u) ≡ false → (a ≡ Unfit) × (o' ≡ o) × (t' ≡ t) × (u' ≡ u)

-- the counts that stand in a choice table
abbrev pub counts_in : Records → List ℕ → ℕ
counts_in k u = sum_below k.cabinets (λ c. only (nat_lt 0 c) (entry (2 ^ k.services) u c 0))

-- both tables hold the entries of a net
pub record Holding (N : Net) (t u : List ℕ) : Type 0 where
  pub costs : (p x : ℕ) → p < N.s → x < 2 ^ N.r → entry (2 ^ N.r) t p x ≡ figure (row_at N p N.s x)
  pub choices : (c x : ℕ) → c < N.s → x < 2 ^ N.r → entry (2 ^ N.r) u c x ≡ only (nat_lt 0 c) (kept_choice base N c x)

-- there is a cabinet e, the records are sound and the memory is of the size that they need
abbrev pub updatable : Records → ℕ → ℕ → ℕ → ℕ → Bool
updatable k e output costs choices = nat_lt e k.cabinets && fitting k output costs choices

-- what an updating call gives and leaves, whatever the tables hold: the answer and the placing that the tables tell of now, and all rows off the path
-- from e to the root; and tables of a net that differs in e alone become those of the records' net. Where something does not fit, all is as it was.
pub record Updates (k : Records) (e : ℕ) (o o' t t' u u' : List ℕ) (a : Kept) : Type 0 where
  pub answer : updatable k e (length o) (length t) (length u) ≡ true → a ≡ read_answer (slice_index t' (full k.services)) (counts_in k u')
  pub output : updatable k e (length o) (length t) (length u) ≡ true → PlacedBy k u' a o o'
  pub costs : updatable k e (length o) (length t) (length u) ≡ true
      → (d x : ℕ) → on_path k e d ≡ false → x < 2 ^ k.services → entry (2 ^ k.services) t' d x ≡ entry (2 ^ k.services) t d x
  pub choices : updatable k e (length o) (length t) (length u) ≡ true → (d x : ℕ) → (0 < d → d < k.cabinets → on_path k e (parent_of k d) ≡ false)
      → x < 2 ^ k.services → entry (2 ^ k.services) u' d x ≡ entry (2 ^ k.services) u d x
  pub tables : updatable k e (length o) (length t) (length u) ≡ true → (N : Net) → Differ e N (netted k) → Holding N t u → Filled k t' u' (weighed (netted k))
  pub left : updatable k e (length o) (length t) (length u) ≡ false → (a ≡ Unfit) × (o' ≡ o) × (t' ≡ t) × (u' ≡ u)

-- sound records, an output of r places, and a choice table of s rows, whatever it holds
pub record Readable (k : Records) (o u : List ℕ) : Type 0 where
  pub is_sound : sound k ≡ true
  pub places : length o ≡ k.services
  pub choices : length u ≡ entries k
