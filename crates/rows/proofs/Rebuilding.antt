-- A row rebuilt: its own charges and keys, then child by child, whatever the tables hold.
use Prim.Native.Nat.{ℕ, zero, suc, ◌+◌, ◌-◌, ◌*◌, ◌%◌, ◌^◌, ◌≤◌, ◌<◌}
use native.Mathlib.Nat.{mul-le-mul, mul-le-mul_right}
use native.Mathlib.Numerals.{add-one}
use native.Mathlib.Omega.{arith}
use mathlib.Core.Path.{◌≡◌, refl, sym, ap, ap₂, ◌∙◌, subst}
use mathlib.Core.Bool.{Bool, true, false, cond}
use mathlib.Core.List.{List}
use lib.ListN.{length, get_or}
use lib.Dec.{eqb, ltb}
use borrow.Author.Tests.{eqb-true, eqb-false, eq-eqb, lt-ltb, le-ltb, ltb-true}
use Rattle.finite.specs.Below.{only}
use Rattle.finite.proofs.Booleans.{clash, both, both_l, both_r, is_false}
use Rattle.finite.proofs.Sums.{sum_le, only_le}
use Rattle.subsets.specs.declared.Best.{Best}
use Rattle.subsets.specs.declared.Key.{Key}
use Rattle.subsets.specs.Inner.Net.{Falls}
use Rattle.subsets.specs.Inner.Keys.{key_parts}
use Rattle.subsets.specs.Inner.Folds.{earlier, plus, split_key, by_key, best_split}
use Rattle.subsets.specs.Inner.Rebuild as rebuild
use Rattle.subsets.specs.Inner.Rebuild.{Source, best_join, rebuilt_row, rebuilt_key, rebuilt_choice, join_count, rebuilt_entry, rebuilt_count}
use Rattle.subsets.proofs.Folds.{any_cost, best_ext, counted_ext}
use Rattle.subsets.proofs.KeyRows.{key_at_ext, parts_ext}
use Rattle.subsets.proofs.Rebuild.{Agree, row_agrees, key_agrees, entry_agrees, count_agrees, by_key_ext, choice_le, rebuilt_join, rebuilt_pass, key_join, key_pass, count_join, count_pass, rebuilt_start, key_start, count_start, rebuilt_key_le}
use Rattle.sheet.specs.Limits.{max_services, max_cabinets}
use Rattle.rows.specs.Charges.{max_sets, own_figure, demanded}
use Rattle.rows.specs.Keys.{base, low_digits, key_in, weight_at, set_weight, times_key, tree}
use Rattle.rows.specs.Reads.{Weighted, Readable}
use Rattle.rows.specs.Joins.{Addable, Small}
use Rattle.rows.specs.Rebuilds as rebuilds
use Rattle.rows.specs.Rebuilds.{entry, back_key, key_entry, RowOf, RowSet, KeysSet, link_figures, source, Rebuilds, JoinsChild, JoinRoom, RebuildRoom, KeysKept}
use Rattle.rows.specs.Cabinets.{field, parent_of, own_of, link_of}
use Rattle.rows.specs.declared.children.Children.{Children}
use Rattle.rows.specs.declared.keys.Weight.{Weight}
use Rattle.records.specs.declared.Records.{Records}
use Rattle.rows.proofs.Joining.{counted_le}
use Rattle.rows.proofs.Weighing.{set_weight_le}
use Rattle.rows.proofs.Parted.{row_of, put_row, row_length, put_length, row_put, row_within}
use Rattle.rows.proofs.Slots.{slot_apart}
use Rattle.rows.proofs.Reading.{parts_small}

-- a field of a record that is there
pub field_at : (n : ℕ) (l : List ℕ) (i : ℕ) → i < n → field n l i ≡ get_or l i 0
unfolding only
field_at n l i h = rw (lt-ltb i n h) refl

-- a cabinet that is there, and the link above it
pub own_there : (k : Records) (c : ℕ) → c < k.cabinets
    → record { capacity = get_or k.capacity c 0; price = get_or k.price c 0; barred = get_or k.barred c 0; joint = get_or k.joint c false } ≡ own_of k c
unfolding own_of only
own_there k c h = rw (lt-ltb c k.cabinets h) refl

pub link_there : (k : Records) (c : ℕ) → c < k.cabinets
    → record {
      up_capacity = get_or k.up_capacity c 0;
      up_price = get_or k.up_price c 0;
      down_capacity = get_or k.down_capacity c 0;
      down_price = get_or k.down_price c 0;
    } ≡ link_of k c
unfolding link_of only
link_there k c h = rw (lt-ltb c k.cabinets h) refl

-- a row set twice
row_again : {A : Type 0} {none : A} (size p : ℕ) (f g : ℕ → A) (t t₁ t₂ : List A) → RowOf A none size p f t t₁ → RowOf A none size p g t₁ t₂ → RowOf A none size p g t t₂
row_again size p f g t t₁ t₂ R S = record { row = S.row; rest = λ d x n h. S.rest d x n h ∙ R.rest d x n h }

-- no more than a million splits are counted for one child
pub count_le : (S : Source) (size k : ℕ) → size ≤ 1024 → k ≤ 200 → rebuilt_count S size k ≤ 200 * 1048576
unfolding rebuild.rebuilt_count rebuild.join_count
count_le S size k l h =
    omega (
      arith,
      mul-le-mul_right {m = k} {n = 200} 1048576 h,
      sum_le k 1048576 (λ c. only (S.child c) (join_count S size c))
          (λ c m. omega (arith, only_le (S.child c) (join_count S size c), counted_le (rebuilt_row S c) (S.row c) (S.link c) size l)),
    )

-- ---- the keys of a cabinet alone are the weights of the sets, so many times over

module _ (r size p : ℕ) (weights : List Weight) (few : r ≤ max_services) (here : p < max_cabinets) (W : Weighted r size weights) where
  pub own_keyed : (ys : List Key) → ((x : ℕ) → x < size → key_in ys x ≡ times_key (weight_at weights x) p) → (x : ℕ) → x < size → key_in ys x ≡ times_key (set_weight r x) p
  own_keyed ys h x l = h x l ∙ ap (λ (k : Key). times_key k p) (W x l)

  pub own_key_le : (x : ℕ) → ((times_key (set_weight r x) p).high ≤ 2 ^ 44) × ((times_key (set_weight r x) p).low ≤ 2 ^ 44)
  own_key_le x =
      let m = set_weight_le r x few in
      let b : p ≤ max_cabinets = omega arith in
      (omega (arith, mul-le-mul {n₁ = (set_weight r x).high} {m₁ = p} {n₂ = 2 ^ 32} {m₂ = max_cabinets} (omega (arith, m.0)) b), omega (arith, mul-le-mul {n₁ = (set_weight r x).low} {m₁ = p} {n₂ = 2 ^ 32} {m₂ = max_cabinets} (omega (arith, m.1)) b))

-- ---- keys read back

-- they depend on the choices of the cabinets under c alone
pub back_same : (k : Records) (size : ℕ) (u u₁ : List ℕ) (c : ℕ) → Falls (parent_of k) → size ≡ 2 ^ k.services
    → ((e x : ℕ) → 0 < e → c ≤ parent_of k e → x < size → entry size u e x ≡ entry size u₁ e x)
    → (x : ℕ) → x < size → back_key k size u c x ≡ back_key k size u₁ c x
unfolding rebuilds.back_key
back_same k size u u₁ c falls z same x h =
    parts_ext base low_digits (tree k) (entry size u) (entry size u₁) c k.cabinets x c k.cabinets x (λ v.
    key_at_ext (tree k) v falls (entry size u) (entry size u₁) c (λ e y i j l o m. same e y i l (omega arith)) c k.cabinets x (omega arith) (omega arith) (omega arith))

-- and they are small
pub back_small : (k : Records) (size : ℕ) (u : List ℕ) (lists : Children) (weights : List Weight) → Readable (tree k) size u lists weights → (c x : ℕ) → c < k.cabinets
    → ((back_key k size u c x).high < 2 ^ 40) × ((back_key k size u c x).low < 2 ^ 40)
unfolding rebuilds.back_key
back_small k size u lists weights R c x h = parts_small (tree k) size u lists weights R c k.cabinets x h (omega arith)

-- ---- the loop over cabinets: those below c are passed or joined
pub record JoinedBelow (S : Source) (size p q c n : ℕ) (t t₁ u u₁ : List ℕ) (g g₁ : List Key) (count : ℕ) : Type 0 where
  pub after : p < c
  pub within : c ≤ n
  pub costs_length : length t₁ ≡ length t
  pub choices_length : length u₁ ≡ length u
  pub keys_length : length g₁ ≡ length g
  pub rebuilds : Rebuilds S size p q c t t₁ u u₁ g g₁ count

module _ {k : Records} {size p : ℕ} {t u : List ℕ} (R : RebuildRoom k size p t u) where
  -- the row of any cabinet lies within both tables
  pub row_room : (c : ℕ) → c < k.cabinets → (c * size + size ≤ length t) × (c * size + size ≤ length u) × (c * size + size ≤ max_cabinets * max_sets)
  row_room c h =
      let w = row_within size k.cabinets h in
      (omega (arith, R.costs), omega (arith, R.choices), omega (arith, mul-le-mul R.cabinets R.sets))

module _ (sums : List ℕ) {k : Records} {size p : ℕ} {t u : List ℕ} (R : RebuildRoom k size p t u) (q : ℕ) (g : List Key) where
  -- what the row is rebuilt from
  abbrev S : Source
  S = source k size p sums t u

  -- no number up to p is a child of p
  none_up_to : (c : ℕ) → c < suc p → S.child c ≡ false
  none_up_to c h = rw (le-ltb p c (omega arith)) refl

  -- the row of p holds its own charges and keys, and no child is joined yet
  pub children_start : {g₁ : List Key} → length g₁ ≡ length g → ((x : ℕ) → x < size → entry size t p x ≡ S.own x) → KeysSet size q S.own_key g g₁
      → JoinedBelow S size p q (p + 1) k.cabinets t t u u g g₁ 0
  children_start long own K = record {
    after = omega arith;
    within = omega (arith, R.cabinet);
    costs_length = refl;
    choices_length = refl;
    keys_length = long;
    rebuilds = rw add-one (record {
      costs = record { row = λ x h. own x h ∙ sym (rebuilt_start S (suc p) x none_up_to); rest = λ d x n h. refl };
      chosen = λ c x l e m. clash (sym e ∙ none_up_to c l);
      kept = λ c x n m. refl;
      keys = record { row = λ x h. K.row x h ∙ sym (key_start S (suc p) x none_up_to); rest = K.rest };
      count = sym (count_start S size (suc p) none_up_to);
    });
  }

  module _ {t₁ u₁ : List ℕ} {g₁ : List Key} {n c : ℕ} (C : JoinedBelow S size p q c k.cabinets t t₁ u u₁ g g₁ n) (l : c < k.cabinets) where
    B : Rebuilds S size p q c t t₁ u u₁ g g₁ n
    B = C.rebuilds

    -- a cabinet that is no child is passed over
    pub children_pass : (parent_of k c ≡ p → ⊥) → JoinedBelow S size p q (c + 1) k.cabinets t t₁ u u₁ g g₁ n
    children_pass ne = record {
      after = omega (arith, C.after);
      within = omega arith;
      costs_length = C.costs_length;
      choices_length = C.choices_length;
      keys_length = C.keys_length;
      rebuilds = rw add-one (record {
        costs = record { row = λ x h. B.costs.row x h ∙ sym (rebuilt_pass S c x not); rest = B.costs.rest };
        chosen = λ b x m e h. B.chosen b x (let z : (b ≡ c → ⊥) = λ q. clash (sym e ∙ ap S.child q ∙ not) in omega (arith, z)) e h;
        kept = λ b x f h. B.kept b x (λ e. omega (arith, f e)) h;
        keys = record { row = λ x h. B.keys.row x h ∙ sym (key_pass S c x not); rest = B.keys.rest };
        count = B.count ∙ sym (count_pass S size c not);
      });
    }
      where
        not : S.child c ≡ false
        not = is_false (S.child c) (λ e. ne (eqb-true (parent_of k c) p (both_r (ltb p c) _ e)))

    -- a child can be joined
    pub joinable : q * size + size ≤ length g → k.services ≤ max_services → size ≡ 2 ^ k.services → JoinRoom size p c q t₁ u₁ g₁
    joinable room few power =
        let a = row_room R p R.cabinet in
        let b = row_room R c l in
        record {
          sets = R.sets;
          row_size = (k.services, few, power);
          row = omega (arith, C.costs_length, a.0);
          child = omega (arith, C.costs_length, b.0);
          choices = omega (arith, C.choices_length, b.1);
          keys = omega (arith, C.keys_length);
        }

    -- the choices under c are those of the start
    pub under_stays : (e x : ℕ) → c ≤ parent_of k e → x < size → entry size u₁ e x ≡ entry size u e x
    under_stays e x m h = B.kept e x (λ i. absurd (omega (arith, C.after, eqb-true (parent_of k e) p (both_r (ltb p e) _ i)))) h

    -- and is joined
    pub children_join : parent_of k c ≡ p → (kid : ℕ → Key) → ((x : ℕ) → x < size → kid x ≡ S.key c x) → {t₂ u₂ : List ℕ} {g₂ : List Key} {m : ℕ}
        → JoinsChild (link_of k c) size p c q sums kid t₁ t₂ u₁ u₂ g₁ g₂ m → length t₂ ≡ length t₁ → length u₂ ≡ length u₁ → length g₂ ≡ length g₁
        → JoinedBelow S size p q (c + 1) k.cabinets t t₂ u u₂ g g₂ (n + m)
    unfolding rebuild.rebuilt_choice rebuild.rebuilt_entry rebuild.join_count
    children_join parent kid kids {t₂} {u₂} {g₂} {m} J lt lu lg = record {
      after = omega (arith, C.after);
      within = omega arith;
      costs_length = lt ∙ C.costs_length;
      choices_length = lu ∙ C.choices_length;
      keys_length = lg ∙ C.keys_length;
      rebuilds = rw add-one (record {
        costs = row_again size p _ _ t t₁ t₂ B.costs (record {
          row = λ x h. J.costs.row x h ∙ ap (λ (b : Best). b.cost) (same x h)
              ∙ any_cost (by_key (rebuilt_key S c) (S.key c) x) earlier (rebuilt_row S c) (S.row c) (S.link c) x ∙ sym (rebuilt_join S c x is);
          rest = J.costs.rest;
        });
        chosen = λ b x i e h. go b x i e h (eqb b c) refl;
        kept = λ b x f h. J.choices.rest b x (λ e. omega (arith, f (subst (λ (z : ℕ). S.child z ≡ true) (sym e) is))) h ∙ B.kept b x (λ e. omega (arith, f e)) h;
        keys = row_again size q _ _ g g₁ g₂ B.keys (record { row = λ x h. J.keys.row x h ∙ keyed x h ∙ sym (key_join S c x is); rest = J.keys.rest });
        count = omega (arith, B.count, joined_count, count_join S size c is);
      });
    }
      where
        is : S.child c ≡ true
        is = both (ltb p c) _ (lt-ltb p c C.after) (eq-eqb (parent_of k c) p parent)

        child_row : (x : ℕ) → x < size → entry size t₁ c x ≡ entry size t c x
        child_row x h = B.costs.rest c x (λ e. omega (arith, C.after)) h

        same : (x : ℕ) → x < size → best_split (by_key (key_entry size g₁ q) kid x) (entry size t₁ p) (entry size t₁ c) (link_figures (link_of k c) sums) x ≡ best_join S (rebuilt_key S c) c x
        same x h =
            best_ext _ _ _ _ _ _ _ _ x
            (by_key_ext (key_entry size g₁ q) (rebuilt_key S c) kid (S.key c) x (λ a i. B.keys.row a (omega arith)) (λ a i. kids a (omega arith)))
            (λ a i. B.costs.row a (omega arith)) (λ a i. child_row a (omega arith)) (λ a i. refl)

        keyed : (x : ℕ) → x < size
            → split_key (key_entry size g₁ q) kid x (best_split (by_key (key_entry size g₁ q) kid x) (entry size t₁ p) (entry size t₁ c) (link_figures (link_of k c) sums) x).chosen
            ≡ split_key (rebuilt_key S c) (S.key c) x (rebuilt_choice S c x)
        keyed x h =
            let a : ℕ = rebuilt_choice S c x in
            let s : a ≤ x = choice_le S c x in
            ap (λ (b : Best). split_key (key_entry size g₁ q) kid x b.chosen) (same x h) ∙ ap₂ plus (B.keys.row a (omega arith)) (kids (x - a) (omega arith))

        joined_count : m ≡ join_count S size c
        joined_count = J.count ∙ counted_ext (entry size t₁ p) (rebuilt_row S c) (entry size t₁ c) (entry size t c) (S.link c) (S.link c) size B.costs.row child_row (λ a h. refl)

        go : (b x : ℕ) → b < suc c → S.child b ≡ true → x < size → (s : Bool) → eqb b c ≡ s → entry size u₂ b x ≡ rebuilt_entry S size b x
        go b x i e h true y =
            subst (λ (z : ℕ). entry size u₂ z x ≡ rebuilt_entry S size z x) (sym (eqb-true b c y))
            (J.choices.row x h ∙ ap₂ (λ (n a : ℕ). cond (eqb x 0) n a) joined_count (ap (λ (b : Best). b.chosen) (same x h)))
        go b x i e h false y = let z = eqb-false b c y in J.choices.rest b x z h ∙ B.chosen b x (omega (arith, z)) e h

  -- no cabinet from c on is a child: all are passed over, and the row is rebuilt
  pub children_end : {t₁ u₁ : List ℕ} {g₁ : List Key} {n c : ℕ} → JoinedBelow S size p q c k.cabinets t t₁ u u₁ g g₁ n → ((d : ℕ) → c ≤ d → d < k.cabinets → parent_of k d ≡ p → ⊥)
      → Rebuilds S size p q k.cabinets t t₁ u u₁ g g₁ n
  children_end {t₁} {u₁} {g₁} {n} {c} C none =
      subst (λ (e : ℕ). Rebuilds S size p q e t t₁ u u₁ g g₁ n) (let z : c + (k.cabinets - c) ≡ k.cabinets = omega (arith, C.within) in z) (go (k.cabinets - c) (omega (arith, C.within))).rebuilds
    where
      go : (j : ℕ) → c + j ≤ k.cabinets → JoinedBelow S size p q (c + j) k.cabinets t t₁ u u₁ g g₁ n
      go zero h = subst (λ (e : ℕ). JoinedBelow S size p q e k.cabinets t t₁ u u₁ g g₁ n) (let z : c ≡ c + 0 = omega arith in z) C
      go (suc j) h =
          subst (λ (e : ℕ). JoinedBelow S size p q e k.cabinets t t₁ u u₁ g g₁ n) (let z : c + j + 1 ≡ c + suc j = omega arith in z)
          (children_pass (go j (omega arith)) (omega arith) (none (c + j) (omega arith) (omega arith)))

-- ---- the keys of a child that is to be joined, and of the row so far

module _ (sums : List ℕ) {k : Records} {size p rows near : ℕ} {t u : List ℕ} {g : List Key} (R : RebuildRoom k size p t u) (K : KeysKept k size p rows near u g)
    {lists : Children} {weights : List Weight} (D : Readable (tree k) size u lists weights)
    {t₁ u₁ : List ℕ} {g₁ : List Key} {n c : ℕ} (C : JoinedBelow (source k size p sums t u) size p (p % rows) c k.cabinets t t₁ u u₁ g g₁ n) (l : c < k.cabinets) where
  -- reading back still relies on the same
  pub readable : Readable (tree k) size u₁ lists weights
  readable = record {
    falls = D.falls;
    nodes = D.nodes;
    services = D.services;
    row_size = D.row_size;
    choices = omega (arith, D.choices, C.choices_length);
    links = D.links;
    weighted = D.weighted;
    weights_length = D.weights_length;
  }

  -- kept or read back, the keys are those of the choices at the start
  pub fetched : (kid : List Key)
      → ((x : ℕ) → x < size → key_in kid x ≡ cond (ltb (c - p) near) (key_entry size g₁ (c % rows) x) (key_parts base low_digits (tree k) (entry size u₁) c k.cabinets x))
      → (x : ℕ) → x < size → key_in kid x ≡ back_key k size u c x
  unfolding rebuilds.back_key
  fetched kid h x m = h x m ∙ go (ltb (c - p) near) refl
    where
      go : (b : Bool) → ltb (c - p) near ≡ b → cond b (key_entry size g₁ (c % rows) x) (key_parts base low_digits (tree k) (entry size u₁) c k.cabinets x) ≡ back_key k size u c x
      go true e =
          let close : c - p < near = ltb-true (c - p) near e in
          let apart : (c % rows ≡ p % rows → ⊥) = slot_apart rows p c K.some_rows C.after (omega (arith, K.no_more)) in
          C.rebuilds.keys.rest (c % rows) x apart m ∙ K.keys c x C.after l close m
      go false e = back_same k size u₁ u c D.falls D.row_size (λ d y z i j. under_stays sums R (p % rows) g C l d y i j) x m

  -- they can be added to those of the row
  pub kid_small : (kid : List Key) → ((x : ℕ) → x < size → key_in kid x ≡ back_key k size u c x) → Small size kid
  kid_small kid h x m =
      let b = back_small k size u lists weights D c x l in
      (omega (arith, b.0, ap (λ (y : Key). y.high) (h x m)), omega (arith, b.1, ap (λ (y : Key). y.low) (h x m)))

  -- and so can those of the row
  pub row_small : (x : ℕ) → x < size → Addable (key_entry size g₁ (p % rows) x)
  row_small x m =
      let b = rebuilt_key_le (source k size p sums t u) (2 ^ 44) size k.cabinets (λ y i. own_key_le k.services size p weights D.services (omega (arith, R.cabinet, R.cabinets)) D.weighted y)
      (λ d y i e j. let s = back_small k size u lists weights D d y i in (omega (arith, s.0), omega (arith, s.1))) c x C.within m in
      let top : suc c * 2 ^ 44 ≤ suc max_cabinets * 2 ^ 44 = mul-le-mul_right {m = suc c} {n = suc max_cabinets} (2 ^ 44) (omega (arith, R.cabinets)) in
      (omega (arith, b.0, top, ap (λ (y : Key). y.high) (C.rebuilds.keys.row x m)), omega (arith, b.1, top, ap (λ (y : Key). y.low) (C.rebuilds.keys.row x m)))

-- ---- the keys of p alone: they are written in a row of their own, so that all that are kept stay

pub kept_alone : {k : Records} {size p rows near : ℕ} {u : List ℕ} {g g₀ : List Key} {f : ℕ → Key}
    → KeysKept k size p rows near u g → KeysSet size (p % rows) f g g₀ → length g₀ ≡ length g → KeysKept k size p rows near u g₀
kept_alone {k} {size} {p} {rows} {near} K S e = record {
  some_rows = K.some_rows;
  no_more = K.no_more;
  places = omega (arith, K.places);
  keys = λ d x h l close m.
      let apart : (d % rows ≡ p % rows → ⊥) = slot_apart rows p d K.some_rows h (omega (arith, K.no_more)) in
      S.rest (d % rows) x apart m ∙ K.keys d x h l close m;
}

-- the keys rebuilt from there are those rebuilt from before
pub rebuilds_keyed : {S : Source} {size p q n : ℕ} {t t₁ u u₁ : List ℕ} {g g₀ g₁ : List Key} {m : ℕ} {f : ℕ → Key} → KeysSet size q f g g₀ → Rebuilds S size p q n t t₁ u u₁ g₀ g₁ m → Rebuilds S size p q n t t₁ u u₁ g g₁ m
rebuilds_keyed {S} {size} {p} {q} {n} {t} {t₁} {u} {u₁} {g} {g₀} {g₁} K B = record {
  costs = B.costs;
  chosen = B.chosen;
  kept = B.kept;
  keys = row_again size q _ _ g g₀ g₁ K B.keys;
  count = B.count;
}

-- ---- the row of p filled with its own charges alone: what it is rebuilt from is the same before and after

pub record Alone (k : Records) (size p : ℕ) (sums t t₀ u : List ℕ) : Type 0 where
  pub room : RebuildRoom k size p t₀ u
  pub own : RowSet size p (λ x. own_figure (own_of k p) x (demanded sums x)) t t₀
  pub same : length t₀ ≡ length t

pub alone : {k : Records} {size p : ℕ} {sums t u : List ℕ} → RebuildRoom k size p t u
    → (ys : List ℕ) → length ys ≡ length (row_of size p t) → ((x : ℕ) → x < length (row_of size p t) → get_or ys x 0 ≡ own_figure (own_of k p) x (demanded sums x))
    → Alone k size p sums t (put_row size p t ys) u
alone {k} {size} {p} {sums} {t} {u} R ys same filled =
    let fits : p * size + size ≤ length t = (row_room R p R.cabinet).0 in
    let long = put_length size p t fits ys same in
    record {
      room = record { sets = R.sets; cabinet = R.cabinet; cabinets = R.cabinets; costs = omega (arith, long, R.costs); choices = R.choices };
      own = row_put size p t fits ys same 0 _ (λ x h. filled x (omega (arith, row_length size p t fits)));
      same = long;
    }

pub rebuilds_alone : {k : Records} {size p q n : ℕ} {sums t t₀ u : List ℕ} → Alone k size p sums t t₀ u → {t₁ u₁ : List ℕ} {g g₁ : List Key} {m : ℕ}
    → Rebuilds (source k size p sums t₀ u) size p q n t₀ t₁ u u₁ g g₁ m → Rebuilds (source k size p sums t u) size p q n t t₁ u u₁ g g₁ m
rebuilds_alone {k} {size} {p} {q} {n} {sums} {t} {t₀} {u} A {t₁} {u₁} {g} {g₁} {m} B = record {
  costs = row_again size p _ _ t t₀ t₁ A.own (record { row = λ x h. B.costs.row x h ∙ row_agrees size S₀ S₁ agree n x h; rest = B.costs.rest });
  chosen = λ c x l e h. B.chosen c x l e h ∙ entry_agrees size S₀ S₁ agree c x e h;
  kept = B.kept;
  keys = record { row = λ x h. B.keys.row x h ∙ key_agrees size S₀ S₁ agree n x h; rest = B.keys.rest };
  count = B.count ∙ count_agrees size S₀ S₁ agree n;
}
  where
    S₀ : Source
    S₀ = source k size p sums t₀ u

    S₁ : Source
    S₁ = source k size p sums t u

    agree : Agree size S₀ S₁
    agree = record {
      own = λ x h. refl;
      child = λ c. refl;
      row = λ c x e h. A.own.rest c x (λ q. let z : p < c = ltb-true p c (both_l (ltb p c) _ e) in omega arith) h;
      link = λ c x e h. refl;
      own_key = λ x h. refl;
      key = λ c x e h. refl;
    }
