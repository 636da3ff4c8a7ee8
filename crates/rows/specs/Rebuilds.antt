-- Rows of the tables rebuilt, whatever the tables hold: every entry is a function of the records, the sums, and the rows and choices under it.
-- t is a cost table, u a choice table and g a table of the keys of some rows; t', u' and g' are the same after a call.
use Rattle.std.specs.Prelude.{ℕ, ◌+◌, ◌-◌, ◌*◌, ◌%◌, ◌^◌, ◌≤◌, ◌<◌, ◌≡◌, Bool, true, false, ◌&&◌, cond, List, eqb, ltb, leb, length, get_or}
use Rattle.finite.specs.Below.{sum_below}
use Rattle.subsets.specs.Inner.Folds.{split_key, by_key, best_split, counted_below}
use Rattle.subsets.specs.Inner.Rebuild.{Source, rebuilt_row, rebuilt_key, rebuilt_entry, rebuilt_count}
use Rattle.subsets.specs.Inner.Masks.{full}
use Rattle.subsets.specs.Inner.Net.{Falls}
use Rattle.subsets.specs.Inner.Keys.{key_parts}
use Rattle.subsets.specs.declared.Best.{Best}
use Rattle.subsets.specs.declared.Key.{Key}
use Rattle.sheet.specs.Limits.{max_services, max_cabinets}
use Rattle.rows.specs.Cabinets.{parent_of, own_of, link_of, falling}
use Rattle.rows.specs.Charges.{max_sets, all_sums, own_figure, link_figure, demanded, run_out, run_in}
use Rattle.rows.specs.Keys.{base, low_digits, no_key, key_in, set_weight, times_key, tree}
use Rattle.rows.specs.Reads.{Linked}
use Rattle.rows.specs.declared.charges.Link.{Link}
use Rattle.rows.specs.declared.children.Children.{Children}
use Rattle.records.specs.declared.Records.{Records}

-- the entry for cabinet p and the set x, where a row has so many entries
abbrev pub entry : ℕ → List ℕ → ℕ → ℕ → ℕ
entry size table p x = get_or table (p * size + x) 0

-- the key of the placing that the choices u name for the set x on c and all cabinets under it
unfoldable pub back_key : Records → ℕ → List ℕ → ℕ → ℕ → Key
back_key k size u c x = key_parts base low_digits (tree k) (entry size u) c k.cabinets x

-- the key of the set x in row q of a table of keys
abbrev pub key_entry : ℕ → List Key → ℕ → ℕ → Key
key_entry size l q x = key_in l (q * size + x)

-- in a table of entries of this type, where one that isn't there is `none`: the row of p is that of f, and every other row stays
pub record RowOf (A : Type 0) (none : A) (size p : ℕ) (f : ℕ → A) (t t' : List A) : Type 0 where
  pub row : (x : ℕ) → x < size → get_or t' (p * size + x) none ≡ f x
  pub rest : (d x : ℕ) → (d ≡ p → ⊥) → x < size → get_or t' (d * size + x) none ≡ get_or t (d * size + x) none

-- such a table of numbers, and one of keys
abbrev pub RowSet : ℕ → ℕ → (ℕ → ℕ) → List ℕ → List ℕ → Type 0
RowSet = RowOf ℕ 0

abbrev pub KeysSet : ℕ → ℕ → (ℕ → Key) → List Key → List Key → Type 0
KeysSet = RowOf Key no_key

-- what the link above a cabinet charges for each set, by what runs out of the set and into it
abbrev pub link_figures : Link → List ℕ → ℕ → ℕ
link_figures k sums x = link_figure k (run_out sums x) (run_in sums x)

-- what the row of p is rebuilt from: its children are numbered above it, their rows stand in the cost table, and their keys are read back from
-- the choice table
abbrev pub source : Records → ℕ → ℕ → List ℕ → List ℕ → List ℕ → Source
source k size p sums t u =
    record {
      own = λ x. own_figure (own_of k p) x (demanded sums x);
      child = λ c. ltb p c && eqb (parent_of k c) p;
      row = entry size t;
      link = λ c. link_figures (link_of k c) sums;
      own_key = λ x. times_key (set_weight k.services x) p;
      key = back_key k size u;
    }

-- the row of p is rebuilt with its children below n, and its keys as row q: so are the choices of those children, and all other rows stay
pub record Rebuilds (S : Source) (size p q n : ℕ) (t t' u u' : List ℕ) (g g' : List Key) (m : ℕ) : Type 0 where
  pub costs : RowSet size p (rebuilt_row S n) t t'
  pub chosen : (c x : ℕ) → c < n → S.child c ≡ true → x < size → entry size u' c x ≡ rebuilt_entry S size c x
  pub kept : (c x : ℕ) → (S.child c ≡ true → n ≤ c) → x < size → entry size u' c x ≡ entry size u c x
  pub keys : KeysSet size q (rebuilt_key S n) g g'
  pub count : m ≡ rebuilt_count S size n

-- the best split of x where the row of c, with the keys kid, is joined to that of p, with the keys of row q
abbrev pub joined_split : Link → ℕ → ℕ → ℕ → ℕ → List ℕ → (ℕ → Key) → List ℕ → List Key → ℕ → Best
joined_split k size p c q sums kid t g x = best_split (by_key (key_entry size g q) kid x) (entry size t p) (entry size t c) (link_figures k sums) x

-- c, with the link k above it and the keys kid, is joined to p; the count m is the choice of the empty set
pub record JoinsChild (k : Link) (size p c q : ℕ) (sums : List ℕ) (kid : ℕ → Key) (t t' u u' : List ℕ) (g g' : List Key) (m : ℕ) : Type 0 where
  pub costs : RowSet size p (λ x. (joined_split k size p c q sums kid t g x).cost) t t'
  pub choices : RowSet size c (λ x. cond (eqb x 0) m (joined_split k size p c q sums kid t g x).chosen) u u'
  pub keys : KeysSet size q (λ x. split_key (key_entry size g q) kid x (joined_split k size p c q sums kid t g x).chosen) g g'
  pub count : m ≡ counted_below (entry size t p) (entry size t c) (link_figures k sums) size

-- what joining a child asks for
pub record JoinRoom (size p c q : ℕ) (t u : List ℕ) (g : List Key) : Type 0 where
  pub sets : size ≤ max_sets
  pub row_size : (r : ℕ) × (r ≤ max_services) × (size ≡ 2 ^ r)
  pub row : p * size + size ≤ length t
  pub child : c * size + size ≤ length t
  pub choices : c * size + size ≤ length u
  pub keys : q * size + size ≤ length g

-- what rebuilding a row asks for
pub record RebuildRoom (k : Records) (size p : ℕ) (t u : List ℕ) : Type 0 where
  pub sets : size ≤ max_sets
  pub cabinet : p < k.cabinets
  pub cabinets : k.cabinets ≤ max_cabinets
  pub costs : k.cabinets * size ≤ length t
  pub choices : k.cabinets * size ≤ length u

-- there is room for so many rows of keys, and those of the cabinets after p and below p + near are there, cabinet d as row d % rows
pub record KeysKept (k : Records) (size p rows near : ℕ) (u : List ℕ) (g : List Key) : Type 0 where
  pub some_rows : 0 < rows
  pub no_more : near ≤ rows
  pub places : rows * size ≤ length g
  pub keys : (d x : ℕ) → p < d → d < k.cabinets → d - p < near → x < size → key_entry size g (d % rows) x ≡ back_key k size u d x

-- the row of p is what it is rebuilt from, with the choices of its children
pub record Built (k : Records) (size p : ℕ) (sums t u : List ℕ) : Type 0 where
  pub costs : (x : ℕ) → x < size → entry size t p x ≡ rebuilt_row (source k size p sums t u) k.cabinets x
  pub chosen : (c x : ℕ) → c < k.cabinets → (source k size p sums t u).child c ≡ true → x < size → entry size u c x ≡ rebuilt_entry (source k size p sums t u) size c x

-- what filling both tables asks for
pub record FillRoom (k : Records) (size : ℕ) (t u sums : List ℕ) (lists : Children) : Type 0 where
  pub services : k.services ≤ max_services
  pub cabinets : k.cabinets ≤ max_cabinets
  pub row_size : size ≡ 2 ^ k.services
  pub costs : k.cabinets * size ≤ length t
  pub choices : k.cabinets * size ≤ length u
  pub all_there : all_sums ≤ length sums
  pub falls : Falls (parent_of k)
  pub links : Linked (tree k) k.cabinets lists

-- all rows are built, the root's choices and all rows past the last cabinet stay, and every split that counts was counted
pub record Fills (k : Records) (size : ℕ) (sums t t' u u' : List ℕ) (m : ℕ) : Type 0 where
  pub rows : (p : ℕ) → p < k.cabinets → Built k size p sums t' u'
  pub root : (x : ℕ) → x < size → entry size u' 0 x ≡ entry size u 0 x
  pub past : (d x : ℕ) → k.cabinets ≤ d → x < size → (entry size t' d x ≡ entry size t d x) × (entry size u' d x ≡ entry size u d x)
  pub count : m ≡ sum_below k.cabinets (λ p. rebuilt_count (source k size p sums t' u') size k.cabinets)

-- the counts are within the arrays, and sums and tables of so many entries have all that is needed
unfoldable pub has_rows : ℕ → ℕ → ℕ → ℕ → ℕ → Bool
has_rows r s sums costs choices =
    leb r max_services && (leb s max_cabinets && (leb all_sums sums && (leb (s * 2 ^ r) costs && leb (s * 2 ^ r) choices)))

-- the tables can be filled: there is room, and every parent has a smaller number than its child
abbrev pub fillable : Records → ℕ → ℕ → ℕ → Bool
fillable k sums costs choices = has_rows k.services k.cabinets sums costs choices && falling k.cabinets k.parent

-- all rows are built where they can be, else nothing is done to the tables and nothing counted
pub record FillsRows (k : Records) (sums t t' u u' : List ℕ) (m : ℕ) : Type 0 where
  pub done : fillable k (length sums) (length t) (length u) ≡ true → Fills k (2 ^ k.services) sums t t' u u' m
  pub left : fillable k (length sums) (length t) (length u) ≡ false → (t' ≡ t) × (u' ≡ u) × (m ≡ 0)

-- a choice table of so many entries can be read back from the root: there is a root and room, and every parent has a smaller number than its child
abbrev pub has_root_key : Records → ℕ → Bool
has_root_key k choices = leb 1 k.cabinets && fillable k all_sums choices choices

-- the key of the placing of all services on the whole tree, where the table can be read back
pub record RootKey (k : Records) (u : List ℕ) (key : Key) : Type 0 where
  pub done : has_root_key k (length u) ≡ true → key ≡ back_key k (2 ^ k.services) u 0 (full k.services)
  pub left : has_root_key k (length u) ≡ false → key ≡ record { high = 0; low = 0 }
