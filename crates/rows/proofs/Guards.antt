-- The tests at the heads of `fill`, `rebuild_path` and `root_key`, and what they give.
use Prim.Native.Nat.{ℕ, ◌-◌, ◌*◌, ◌^◌, ◌≤◌, ◌<◌}
use native.Mathlib.Nat.{pow-le-pow_right}
use native.Mathlib.Omega.{arith}
use mathlib.Core.Logic.{⊎_elim}
use mathlib.Core.Path.{◌≡◌, refl, sym, ◌∙◌, subst}
use mathlib.Core.Bool.{Bool, true, false}
use mathlib.Core.List.{List}
use lib.Dec.{leb, ltb}
use lib.ListN.{length, get_or}
use lib.Pow.{pow_pos}
use borrow.Author.Tests.{leb-true, ltb-true}
use Rattle.finite.specs.Below.{only}
use Rattle.finite.proofs.Booleans.{clash, both_l, both_r, either}
use Rattle.finite.proofs.Sums.{sum_zero}
use Rattle.finite.proofs.Tests.{all_at}
use Rattle.subsets.specs.Inner.Keys.{key_parts}
use Rattle.subsets.specs.declared.Key.{Key}
use Rattle.sheet.specs.Limits.{max_services, max_cabinets}
use Rattle.rows.specs.declared.children.Children.{Children}
use Rattle.rows.specs.declared.keys.Weight.{Weight}
use Rattle.records.specs.declared.Records.{Records}
use Rattle.rows.specs.Cabinets as cabinets
use Rattle.rows.specs.Cabinets.{field, falling}
use Rattle.rows.specs.Charges.{max_sets, all_sums}
use Rattle.rows.specs.Keys.{base, low_digits, tree}
use Rattle.rows.specs.Reads.{ListsOf, Weighted, Readable, Started}
use Rattle.rows.specs.Rebuilds as rebuilds
use Rattle.rows.specs.Rebuilds.{entry, has_rows, RebuildRoom, FillRoom, Fills, FillsRows, fillable, has_root_key, RootKey}
use Rattle.rows.proofs.Rebuilding.{field_at}

-- what holds of 0 and of the first n fields holds of every field
pub field_all : (P : ℕ → Type 0) (n : ℕ) (l : List ℕ) (i : ℕ) → P 0 → (i < n → P (get_or l i 0)) → P (field n l i)
unfolding only
field_all P n l i z h = go (ltb i n) refl
  where
    go : (t : Bool) → ltb i n ≡ t → P (only t (get_or l i 0))
    go true e = h (ltb-true i n e)
    go false e = z

-- parents that fall are those of a tree
pub parent_lt : (n : ℕ) (l : List ℕ) → falling n l ≡ true → (c : ℕ) → 0 < c → field n l c < c
unfolding cabinets.falling
parent_lt n l e c z =
    field_all (λ v. v < c) n l c (omega arith)
    (λ h. ⊎_elim (λ q. absurd (omega (arith, leb-true c 0 q))) (λ q. ltb-true (get_or l c 0) c q) (either (leb c 0) _ (all_at n _ e c h)))

-- the counts, the sums and the tables
pub record Passed (r s sums costs choices : ℕ) : Type 0 where
  pub services : r ≤ max_services
  pub cabinets : s ≤ max_cabinets
  pub for_sums : all_sums ≤ sums
  pub for_costs : s * 2 ^ r ≤ costs
  pub for_choices : s * 2 ^ r ≤ choices

pub passed : (r s sums costs choices : ℕ) → has_rows r s sums costs choices ≡ true → Passed r s sums costs choices
unfolding has_rows
passed r s sums costs choices e =
    let a = both_r (leb r max_services) _ e in
    let b = both_r (leb s max_cabinets) _ a in
    let d = both_r (leb all_sums sums) _ b in
    record {
      services = leb-true _ _ (both_l (leb r max_services) _ e);
      cabinets = leb-true _ _ (both_l (leb s max_cabinets) _ a);
      for_sums = leb-true _ _ (both_l (leb all_sums sums) _ b);
      for_costs = leb-true _ _ (both_l (leb (s * 2 ^ r) costs) _ d);
      for_choices = leb-true _ _ (both_r (leb (s * 2 ^ r) costs) _ d);
    }

module _ (k : Records) (sums t u : List ℕ) where
  -- there is no row to fill
  pub no_rows : k.cabinets < 1 → Fills k (2 ^ k.services) sums t t u u 0
  no_rows h = record {
    rows = λ p l. absurd (omega arith);
    root = λ x l. refl;
    past = λ d x l i. (refl, refl);
    count = sym (sum_zero k.cabinets _ (λ d l. absurd (omega arith)));
  }

  -- the rows are filled, where they can be
  pub filled : {size : ℕ} {t₁ u₁ : List ℕ} {m : ℕ} → size ≡ 2 ^ k.services → fillable k (length sums) (length t) (length u) ≡ true
      → Fills k size sums t t₁ u u₁ m → FillsRows k sums t t₁ u u₁ m
  filled {size} {t₁} {u₁} {m} e w F =
      record { done = λ q. subst (λ (z : ℕ). Fills k z sums t t₁ u u₁ m) e F; left = λ q. clash (sym w ∙ q) }

  -- all that filling asks for
  pub in_room : {size : ℕ} {lists : Children} → size ≡ 2 ^ k.services → Passed k.services k.cabinets (length sums) (length t) (length u)
      → ListsOf k.cabinets k.parent lists → FillRoom k size t u sums lists
  in_room {size} {lists} e P L = record {
    services = P.services;
    cabinets = P.cabinets;
    row_size = e;
    costs = subst (λ (z : ℕ). k.cabinets * z ≤ length t) (sym e) P.for_costs;
    choices = subst (λ (z : ℕ). k.cabinets * z ≤ length u) (sym e) P.for_choices;
    all_there = P.for_sums;
    falls = parent_lt k.cabinets k.parent L.tested;
    links = L.linked (tree k) refl (λ c z l. sym (field_at k.cabinets k.parent c l));
  }

-- what filling asks for is what each row's rebuilding asks for
module _ {k : Records} {size : ℕ} {t u sums : List ℕ} {lists : Children} (P : FillRoom k size t u sums lists) where
  -- a row has an entry for each set
  pub row_sets : (0 < size) × (size ≤ max_sets)
  row_sets = (omega (arith, P.row_size, pow_pos k.services), omega (arith, P.row_size, let z : 2 ^ k.services ≤ 2 ^ max_services = pow-le-pow_right {n = 2} (omega arith) P.services in z))

  pub row_rebuilt : (p : ℕ) → p < k.cabinets → (t₁ u₁ : List ℕ) → length t₁ ≡ length t → length u₁ ≡ length u → RebuildRoom k size p t₁ u₁
  row_rebuilt p h t₁ u₁ lt lu =
      record { sets = row_sets.1; cabinet = h; cabinets = P.cabinets; costs = omega (arith, P.costs); choices = omega (arith, P.choices) }

  pub row_readable : (u₁ : List ℕ) (weights : List Weight) → length u₁ ≡ length u → Weighted k.services size weights → size ≤ length weights → Readable (tree k) size u₁ lists weights
  row_readable u₁ weights lu W lw = record {
    falls = P.falls;
    nodes = P.cabinets;
    services = P.services;
    row_size = P.row_size;
    choices = omega (arith, P.choices);
    links = P.links;
    weighted = W;
    weights_length = lw;
  }

module _ (k : Records) (u : List ℕ) where
  -- the key read is the root's, where the table can be read back
  pub root_keyed : {size : ℕ} {a : Key} → size ≡ 2 ^ k.services → has_root_key k (length u) ≡ true
      → a ≡ key_parts base low_digits (tree k) (entry size u) 0 k.cabinets (size - 1) → RootKey k u a
  unfolding rebuilds.back_key
  root_keyed {size} {a} e w h = record {
    done = λ q. subst (λ (z : ℕ). a ≡ key_parts base low_digits (tree k) (entry z u) 0 k.cabinets (z - 1)) e h;
    left = λ q. clash (sym w ∙ q);
  }

  -- all that reading back asks for
  pub root_readable : {size : ℕ} {lists : Children} {weights : List Weight} → size ≡ 2 ^ k.services
      → Passed k.services k.cabinets all_sums (length u) (length u) → ListsOf k.cabinets k.parent lists
      → Weighted k.services size weights → size ≤ length weights → Readable (tree k) size u lists weights
  root_readable {size} e P L W n = record {
    falls = parent_lt k.cabinets k.parent L.tested;
    nodes = P.cabinets;
    services = P.services;
    row_size = e;
    choices = subst (λ (z : ℕ). k.cabinets * z ≤ length u) (sym e) P.for_choices;
    links = L.linked (tree k) refl (λ c z l. sym (field_at k.cabinets k.parent c l));
    weighted = W;
    weights_length = n;
  }

  -- the walk starts at the root, its last child and all services
  pub root_started : {size c : ℕ} {lists : Children} {weights : List Weight} → 1 ≤ k.cabinets → c ≡ get_or lists.last 0 0
      → Readable (tree k) size u lists weights → Started (tree k) size k.cabinets 0 c (size - 1)
  root_started {size} z e R = record {
    node = z;
    inside = omega arith;
    first = e ∙ R.links.lasts 0 z;
    set = omega (arith, R.row_size, pow_pos k.services);
  }
