-- All rows rebuilt, from the last cabinet to the first: what is built stays built, and the keys kept are those of the choices.
use Prim.Native.Nat.{ℕ, zero, suc, ◌+◌, ◌-◌, ◌*◌, ◌%◌, ◌^◌, ◌≤◌, ◌<◌}
use native.Mathlib.Omega.{arith}
use mathlib.Core.Path.{◌≡◌, refl, sym, ap, ap₂, ◌∙◌, subst}
use mathlib.Core.Bool.{Bool, true, false}
use mathlib.Core.List.{List}
use lib.Bits.{bit_and}
use lib.Dec.{eqb, ltb, leb}
use lib.ListN.{length}
use borrow.Author.Tests.{eqb-true, eqb-false, lt-ltb, ltb-true, le-leb, lt-leb, leb-true, leb-false}
use Rattle.finite.specs.Below.{only, sum_below}
use Rattle.finite.proofs.Booleans.{both, both_l, both_r, same_test}
use Rattle.finite.proofs.Sums.{sum_ext, sum_add, sum_zero, sum_one}
use Rattle.subsets.specs.Inner.Net.{Falls}
use Rattle.subsets.specs.Inner.Rows.{child}
use Rattle.subsets.specs.Inner.Keys.{key_at, key_parts}
use Rattle.subsets.specs.Inner.Folds.{plus}
use Rattle.subsets.specs.declared.Key.{Key}
use Rattle.subsets.specs.Inner.Rebuild as rebuild
use Rattle.subsets.specs.Inner.Rebuild.{Source, rebuilt_row, rebuilt_key, rebuilt_choice, rebuilt_count}
use Rattle.subsets.proofs.Rows.{child_parent}
use Rattle.subsets.proofs.KeyRows as key-rows
use Rattle.subsets.proofs.KeyRows.{key_alone, parts_ext}
use Rattle.subsets.proofs.Rebuild.{Agree, row_agrees, entry_agrees, count_agrees, choice_le, entry_stays, key_join, key_pass}
use Rattle.rows.specs.Cabinets.{parent_of}
use Rattle.rows.specs.Keys as weights
use Rattle.rows.specs.Keys.{base, low_digits, tree}
use Rattle.rows.specs.Rebuilds as rebuilds
use Rattle.rows.specs.Rebuilds.{entry, back_key, key_entry, source, Rebuilds, KeysKept, Built, Fills}
use Rattle.records.specs.declared.Records.{Records}
use Rattle.rows.proofs.Paired.{key_is}
use Rattle.rows.proofs.Slots.{slot_apart}
use Rattle.rows.proofs.Rebuilding.{back_same}

module _ (k : Records) (size : ℕ) (sums : List ℕ) where
  -- the splits counted for the row of d
  abbrev pub row_count : List ℕ → List ℕ → ℕ → ℕ
  row_count t u d = rebuilt_count (source k size d sums t u) size k.cabinets

  -- the rows from p on are built, and the keys of the first of them are kept
  pub record From (rows p : ℕ) (t t₁ u u₁ : List ℕ) (g₁ : List Key) (m : ℕ) : Type 0 where
    pub within : p ≤ k.cabinets
    pub built : (d : ℕ) → p ≤ d → d < k.cabinets → Built k size d sums t₁ u₁
    pub root : (x : ℕ) → x < size → entry size u₁ 0 x ≡ entry size u 0 x
    pub past : (d x : ℕ) → k.cabinets ≤ d → x < size → (entry size t₁ d x ≡ entry size t d x) × (entry size u₁ d x ≡ entry size u d x)
    pub keys : (d x : ℕ) → p ≤ d → d < k.cabinets → d < p + rows → x < size → key_entry size g₁ (d % rows) x ≡ back_key k size u₁ d x
    pub count : m ≡ sum_below k.cabinets (λ d. only (leb p d) (row_count t₁ u₁ d))

module _ (k : Records) (size : ℕ) (sums : List ℕ) (falls : Falls (parent_of k)) (row_size : size ≡ 2 ^ k.services) where
  -- a child has a larger number, so the code's test is the tree's
  pub same_child : (p : ℕ) (t u : List ℕ) (c : ℕ) → (source k size p sums t u).child c ≡ child (tree k) p c
  same_child p t u c =
      same_test _ _
      (λ e. both (ltb 0 c) _ (lt-ltb 0 c (omega (arith, ltb-true p c (both_l (ltb p c) _ e)))) (both_r (ltb p c) _ e))
      (λ e. let w = child_parent (tree k) p c e in both (ltb p c) _ (lt-ltb p c (omega (arith, falls c w.0, w.1))) (both_r (ltb 0 c) _ e))

  -- the row of p rebuilt, with all its children
  module _ (p q : ℕ) (t t₁ u u₁ : List ℕ) (g g₁ : List Key) (m : ℕ) (here : p < k.cabinets) (B : Rebuilds (source k size p sums t u) size p q k.cabinets t t₁ u u₁ g g₁ m) where
    abbrev S : Source
    S = source k size p sums t u

    -- the parent of a child of p
    parent_is : (c : ℕ) → S.child c ≡ true → parent_of k c ≡ p
    parent_is c e = eqb-true (parent_of k c) p (both_r (ltb p c) _ e)

    -- the choices under any later cabinet stay
    under_stays : (c e x : ℕ) → p < c → c ≤ parent_of k e → x < size → entry size u e x ≡ entry size u₁ e x
    under_stays c e x h l i = sym (B.kept e x (λ z. absurd (omega (arith, parent_is e z))) i)

    key_stays : (c x : ℕ) → p < c → x < size → back_key k size u c x ≡ back_key k size u₁ c x
    key_stays c x h i = back_same k size u u₁ c falls row_size (λ e y z l j. under_stays c e y h l j) x i

    -- what any row from p on is rebuilt from
    pub agrees : (d : ℕ) → p ≤ d → Agree size (source k size d sums t u) (source k size d sums t₁ u₁)
    agrees d h = record {
      own = λ x i. refl;
      child = λ c. refl;
      row = λ c x e i. let z = ltb-true d c (both_l (ltb d c) _ e) in sym (B.costs.rest c x (λ y. omega arith) i);
      link = λ c x e i. refl;
      own_key = λ x i. refl;
      key = λ c x e i. let z = ltb-true d c (both_l (ltb d c) _ e) in key_stays c x (omega arith) i;
    }

    -- what was built stays built
    pub stays_built : (d : ℕ) → p < d → d < k.cabinets → Built k size d sums t u → Built k size d sums t₁ u₁
    stays_built d h l D = record {
      costs = λ x i. B.costs.rest d x (λ e. omega arith) i ∙ D.costs x i ∙ row_agrees size _ _ (agrees d (omega arith)) k.cabinets x i;
      chosen = λ c x i e j.
          B.kept c x (λ z. absurd (omega (arith, parent_is c z, eqb-true (parent_of k c) d (both_r (ltb d c) _ e)))) j
          ∙ D.chosen c x i e j ∙ entry_agrees size _ _ (agrees d (omega arith)) c x e j;
    }

    -- the row of p is built
    pub now_built : Built k size p sums t₁ u₁
    now_built = record {
      costs = λ x i. B.costs.row x i ∙ row_agrees size _ _ (agrees p (omega arith)) k.cabinets x i;
      chosen = λ c x i e j. B.chosen c x i e j ∙ entry_agrees size _ _ (agrees p (omega arith)) c x e j;
    }

    back : (c y : ℕ) → back_key k size u₁ c y ≡ key_parts base low_digits (tree k) (entry size u₁) c k.cabinets y
    unfolding rebuilds.back_key
    back c y = refl

    -- a key where a child takes its part
    split : (c x : ℕ) → child (tree k) p c ≡ true → suc c ≤ k.cabinets → x < size → (a : ℕ) → bit_and (entry size u₁ c x) x ≡ a → (v : ℕ → ℕ)
        → key_at (tree k) v (entry size u₁) p (suc c) x ≡ key_at (tree k) v (entry size u₁) p c a + key_at (tree k) v (entry size u₁) c k.cabinets (x - a)
    split c x e l h a q v =
        subst (λ (z : ℕ). key_at (tree k) v (entry size u₁) p (suc c) x ≡ key_at (tree k) v (entry size u₁) p c z + key_at (tree k) v (entry size u₁) c k.cabinets (x - z)) q
        (key-rows.key_join (tree k) v (entry size u₁) falls p c x e l (omega (arith, row_size)))

    -- its keys are those of the choices now
    keys_now : (j x : ℕ) → j ≤ k.cabinets → x < size → rebuilt_key S j x ≡ key_parts base low_digits (tree k) (entry size u₁) p j x
    unfolding rebuild.rebuilt_key weights.set_weight
    keys_now zero x l h = sym (key_is _ _ (key_alone (tree k) _ (entry size u₁) falls p x) (key_alone (tree k) _ (entry size u₁) falls p x))
    keys_now (suc c) x l h = go (child (tree k) p c) refl (λ y i. keys_now c y (omega arith) i)
      where
        go : (b : Bool) → child (tree k) p c ≡ b → ((y : ℕ) → y < size → rebuilt_key S c y ≡ key_parts base low_digits (tree k) (entry size u₁) p c y)
            → rebuilt_key S (suc c) x ≡ key_parts base low_digits (tree k) (entry size u₁) p (suc c) x
        go false e ih =
            key_pass S c x (same_child p t u c ∙ e) ∙ ih x h
            ∙ parts_ext base low_digits (tree k) (entry size u₁) (entry size u₁) p c x p (suc c) x (λ v. sym (key-rows.key_pass (tree k) v (entry size u₁) falls p c x e))
        go true e ih =
            let is = same_child p t u c ∙ e in
            let a : ℕ = rebuilt_choice S c x in
            let s : a ≤ x = choice_le S c x in
            let above : p < c = ltb-true p c (both_l (ltb p c) _ is) in
            let chosen : bit_and (entry size u₁ c x) x ≡ a = ap (λ (z : ℕ). bit_and z x) (B.chosen c x (omega arith) is h) ∙ entry_stays S size c x in
            key_join S c x is
            ∙ ap₂ plus (ih a (omega arith)) (key_stays c (x - a) above (omega arith) ∙ back c (x - a))
            ∙ sym (key_is _ _ (split c x e l h a chosen _) (split c x e l h a chosen _))

    -- so the row of keys kept is p's
    pub kept_now : (x : ℕ) → x < size → key_entry size g₁ q x ≡ back_key k size u₁ p x
    unfolding rebuilds.back_key
    kept_now x h = B.keys.row x h ∙ keys_now k.cabinets x (omega arith) h

  -- nothing is built yet
  pub from_start : (rows : ℕ) (t u : List ℕ) (g : List Key) → From k size sums rows k.cabinets t t u u g 0
  unfolding only
  from_start rows t u g = record {
    within = omega arith;
    built = λ d l i. absurd (omega arith);
    root = λ x h. refl;
    past = λ d x l h. (refl, refl);
    keys = λ d x l i. absurd (omega arith);
    count = sym (sum_zero k.cabinets _ (λ d l. ap (λ (b : Bool). only b (row_count k size sums t u d)) (lt-leb k.cabinets d l)));
  }

  -- what a row's rebuilding asks of the keys kept
  pub from_kept : (rows p : ℕ) (t t₁ u u₁ : List ℕ) (g : List Key) (m : ℕ) → 0 < rows → rows * size ≤ length g → From k size sums rows (suc p) t t₁ u u₁ g m → KeysKept k size p rows rows u₁ g
  from_kept rows p t t₁ u u₁ g m z places F =
      record { some_rows = z; no_more = omega arith; places = places; keys = λ d x h l near i. F.keys d x (omega arith) l (omega arith) i }

  -- one count more
  more_counted : (p : ℕ) → p < k.cabinets → (f h : ℕ → ℕ) → ((d : ℕ) → p ≤ d → d < k.cabinets → f d ≡ h d)
      → sum_below k.cabinets (λ d. only (leb (suc p) d) (f d)) + h p ≡ sum_below k.cabinets (λ d. only (leb p d) (h d))
  unfolding only
  more_counted p l f h e =
      ap (λ (n : ℕ). sum_below k.cabinets (λ d. only (leb (suc p) d) (f d)) + n) (sym (sum_one k.cabinets p (h p) l))
      ∙ sym (sum_add k.cabinets (λ d. only (leb (suc p) d) (f d)) (λ d. only (eqb d p) (h p)))
      ∙ sum_ext k.cabinets _ _ (λ d i. go d i (eqb d p) refl (leb p d) refl)
    where
      go : (d : ℕ) → d < k.cabinets → (b : Bool) → eqb d p ≡ b → (c : Bool) → leb p d ≡ c → only (leb (suc p) d) (f d) + only (eqb d p) (h p) ≡ only (leb p d) (h d)
      go d i true q c w =
          let z : d ≡ p = eqb-true d p q in
          rw (lt-leb (suc p) d (omega arith), q, le-leb p d (omega arith)) (omega (arith, ap h z))
      go d i false q true w =
          let z : (d ≡ p → ⊥) = eqb-false d p q in
          let y = leb-true p d w in
          rw (le-leb (suc p) d (omega arith), q, w) (omega (arith, e d y i))
      go d i false q false w = let y = leb-false p d w in rw (lt-leb (suc p) d (omega arith), q, w) refl

  -- one row more
  pub from_next : (rows p : ℕ) (t t₁ t₂ u u₁ u₂ : List ℕ) (g₁ g₂ : List Key) (m n : ℕ) → 0 < rows → From k size sums rows (suc p) t t₁ u u₁ g₁ m
      → Rebuilds (source k size p sums t₁ u₁) size p (p % rows) k.cabinets t₁ t₂ u₁ u₂ g₁ g₂ n → From k size sums rows p t t₂ u u₂ g₂ (m + n)
  from_next rows p t t₁ t₂ u u₁ u₂ g₁ g₂ m n z F B = record {
    within = omega (arith, F.within);
    built = λ d l i. is_built d l i (eqb d p) refl;
    root = λ x h. B.kept 0 x (λ e. absurd (omega (arith, ltb-true p 0 (both_l (ltb p 0) _ e)))) h ∙ F.root x h;
    past = λ d x l h. (B.costs.rest d x (λ e. omega (arith, F.within)) h ∙ (F.past d x l h).0, B.kept d x (λ e. l) h ∙ (F.past d x l h).1);
    keys = λ d x l i near h. is_kept d x l i near h (eqb d p) refl;
    count = ap₂ ◌+◌ F.count (B.count ∙ count_agrees size _ _ (same p (omega arith)) k.cabinets)
        ∙ more_counted p F.within (row_count k size sums t₁ u₁) (row_count k size sums t₂ u₂) (λ d l i. count_agrees size _ _ (same d l) k.cabinets);
  }
    where
      same : (d : ℕ) → p ≤ d → Agree size (source k size d sums t₁ u₁) (source k size d sums t₂ u₂)
      same d l = agrees p (p % rows) t₁ t₂ u₁ u₂ g₁ g₂ n F.within B d l

      is_built : (d : ℕ) → p ≤ d → d < k.cabinets → (b : Bool) → eqb d p ≡ b → Built k size d sums t₂ u₂
      is_built d l i true e = subst (λ (d : ℕ). Built k size d sums t₂ u₂) (sym (eqb-true d p e)) (now_built p (p % rows) t₁ t₂ u₁ u₂ g₁ g₂ n F.within B)
      is_built d l i false e =
          let y = eqb-false d p e in
          stays_built p (p % rows) t₁ t₂ u₁ u₂ g₁ g₂ n F.within B d (omega arith) i (F.built d (omega arith) i)

      is_kept : (d x : ℕ) → p ≤ d → d < k.cabinets → d < p + rows → x < size → (b : Bool) → eqb d p ≡ b → key_entry size g₂ (d % rows) x ≡ back_key k size u₂ d x
      is_kept d x l i near h true e = subst (λ (d : ℕ). key_entry size g₂ (d % rows) x ≡ back_key k size u₂ d x) (sym (eqb-true d p e)) (kept_now p (p % rows) t₁ t₂ u₁ u₂ g₁ g₂ n F.within B x h)
      is_kept d x l i near h false e =
          let y = eqb-false d p e in
          let apart : (d % rows ≡ p % rows → ⊥) = slot_apart rows p d z (omega arith) (omega arith) in
          B.keys.rest (d % rows) x apart h ∙ F.keys d x (omega arith) i (omega arith) h ∙ key_stays p (p % rows) t₁ t₂ u₁ u₂ g₁ g₂ n F.within B d x (omega arith) h

  -- all rows are built
  pub from_all : (rows : ℕ) (t t₁ u u₁ : List ℕ) (g : List Key) (m : ℕ) → From k size sums rows 0 t t₁ u u₁ g m → Fills k size sums t t₁ u u₁ m
  unfolding only
  from_all rows t t₁ u u₁ g m F = record {
    rows = λ p l. F.built p (omega arith) l;
    root = F.root;
    past = F.past;
    count = F.count ∙ sum_ext k.cabinets _ _ (λ d l. ap (λ (b : Bool). only b (row_count k size sums t₁ u₁ d)) (le-leb 0 d (omega arith)));
  }
