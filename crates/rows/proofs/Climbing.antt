-- The rows from a cabinet up to the root, rebuilt one after the other: what is built stays built, and all that is off the path stays. And the loop that
-- rebuilds these or all rows.
use Prim.Native.Nat.{ℕ, suc, ◌+◌, ◌-◌, ◌*◌, ◌%◌, ◌^◌, ◌≤◌, ◌<◌}
use native.Mathlib.Nat.{mul-le-mul_right}
use native.Mathlib.Omega.{arith}
use mathlib.Core.Path.{◌≡◌, refl, sym, ap, ◌∙◌, subst}
use mathlib.Core.Bool.{Bool, true, false, cond, ◌&&◌}
use mathlib.Core.List.{List}
use lib.Dec.{eqb, ltb}
use lib.ListN.{length}
use borrow.Author.Tests.{eqb-true, eqb-false, ltb-true, ltb-false}
use Rattle.finite.proofs.Booleans.{clash, both_l, both_r, is_false, neither}
use Rattle.subsets.specs.Tree.{under}
use Rattle.subsets.specs.declared.Key.{Key}
use Rattle.subsets.specs.Inner.Net.{Falls}
use Rattle.subsets.proofs.Tree.{under_refl, under_up, under_trans, under_step, under_small}
use Rattle.rows.specs.Cabinets.{parent_of}
use Rattle.rows.specs.Rebuilds.{entry, back_key, key_entry, source, Rebuilds, KeysKept, Built}
use Rattle.rows.specs.Paths.{on_path, Climbs, next_row, rows_near, RebuildsRows}
use Rattle.records.specs.declared.Records.{Records}
use Rattle.rows.proofs.Filling.{From, from_start, from_kept, from_next, from_all, stays_built, now_built, kept_now}

module _ (k : Records) (size : ℕ) (sums : List ℕ) (rows e : ℕ) where
  -- q is next: the rows on the path that are neither q nor above it are built, and the keys of those near q are kept
  pub record Climbing (near q : ℕ) (t t₁ u u₁ : List ℕ) (g₁ : List Key) : Type 0 where
    pub within : q < k.cabinets
    pub path : on_path k e q ≡ true
    pub built : (d : ℕ) → d < k.cabinets → on_path k e d ≡ true → under (parent_of k) d q ≡ false → (q < d) × Built k size d sums t₁ u₁
    pub costs : (d x : ℕ) → on_path k e d ≡ false → x < size → entry size t₁ d x ≡ entry size t d x
    pub choices : (d x : ℕ) → (0 < d → d < k.cabinets → on_path k e (parent_of k d) ≡ false) → x < size → entry size u₁ d x ≡ entry size u d x
    pub no_more : near ≤ 2
    pub keys : (d x : ℕ) → q < d → d < k.cabinets → d - q < near → x < size → key_entry size g₁ (d % rows) x ≡ back_key k size u₁ d x

  -- nothing is built yet
  pub climb_start : e < k.cabinets → (t u : List ℕ) (g : List Key) → Climbing 1 e t t u u g
  climb_start l t u g = record {
    within = l;
    path = under_refl (parent_of k) e;
    built = λ d i on off. clash (sym on ∙ off);
    costs = λ d x off h. refl;
    choices = λ d x off h. refl;
    no_more = omega arith;
    keys = λ d x h i close m. absurd (omega arith);
  }

  -- what a row's rebuilding asks of the keys kept
  pub climb_kept : {near q : ℕ} {t t₁ u u₁ : List ℕ} {g : List Key} → 2 ≤ rows → rows * size ≤ length g → Climbing near q t t₁ u u₁ g → KeysKept k size q rows near u₁ g
  climb_kept two places C = record { some_rows = omega arith; no_more = omega (arith, C.no_more); places = places; keys = C.keys }

  module _ (falls : Falls (parent_of k)) (row_size : size ≡ 2 ^ k.services) {near q : ℕ} {t t₁ t₂ u u₁ u₂ : List ℕ} {g₁ g₂ : List Key} {m : ℕ}
      (C : Climbing near q t t₁ u u₁ g₁) (B : Rebuilds (source k size q sums t₁ u₁) size q (q % rows) k.cabinets t₁ t₂ u₁ u₂ g₁ g₂ m) where
    -- the row of q is built, and what was built stays so
    now : (d : ℕ) → d < k.cabinets → on_path k e d ≡ true → ((d ≡ q → ⊥) → under (parent_of k) d q ≡ false) → (q ≤ d) × Built k size d sums t₂ u₂
    now d l on off = go (eqb d q) refl
      where
        go : (b : Bool) → eqb d q ≡ b → (q ≤ d) × Built k size d sums t₂ u₂
        go true s =
            let z = eqb-true d q s in
            (omega arith, subst (λ (d : ℕ). Built k size d sums t₂ u₂) (sym z) (now_built k size sums falls row_size q (q % rows) t₁ t₂ u₁ u₂ g₁ g₂ m C.within B))
        go false s =
            let D = C.built d l on (off (eqb-false d q s)) in
            (omega (arith, D.0), stays_built k size sums falls row_size q (q % rows) t₁ t₂ u₁ u₂ g₁ g₂ m C.within B d D.0 l D.1)

    -- a cabinet off the path is not q
    off_costs : (d x : ℕ) → on_path k e d ≡ false → x < size → entry size t₂ d x ≡ entry size t d x
    off_costs d x off h = B.costs.rest d x (λ z. clash (sym C.path ∙ ap (on_path k e) (sym z) ∙ off)) h ∙ C.costs d x off h

    -- one whose parent is off the path is no child of q
    off_choices : (d x : ℕ) → (0 < d → d < k.cabinets → on_path k e (parent_of k d) ≡ false) → x < size → entry size u₂ d x ≡ entry size u d x
    off_choices d x off h = B.kept d x (λ z. past z (ltb d k.cabinets) refl) h ∙ C.choices d x off h
      where
        past : ltb q d && eqb (parent_of k d) q ≡ true → (b : Bool) → ltb d k.cabinets ≡ b → k.cabinets ≤ d
        past z true l =
            let above = ltb-true q d (both_l (ltb q d) _ z) in
            clash (sym C.path ∙ ap (on_path k e) (sym (eqb-true (parent_of k d) q (both_r (ltb q d) _ z))) ∙ off (omega arith) (ltb-true d k.cabinets l))
        past z false l = ltb-false d k.cabinets l

    -- a row rebuilt below the root: its parent is next
    pub climb_next : 0 < q → (p : ℕ) → p ≡ parent_of k q → Climbing (cond (eqb q (p + 1)) 2 1) p t t₂ u u₂ g₂
    climb_next z p is = record {
      within = omega (arith, up, C.within);
      path = subst (λ (v : ℕ). on_path k e v ≡ true) (sym is)
          (under_trans (parent_of k) falls (parent_of k q) q e (under_up (parent_of k) falls (parent_of k q) q z (under_refl (parent_of k) (parent_of k q))) C.path);
      built = λ d l on off. let D = now d l on (λ n. above d n off) in (omega (arith, up, D.0), D.1);
      costs = off_costs;
      choices = off_choices;
      no_more = few (eqb q (p + 1));
      keys = λ d x h l close i. kept d x h l (eqb q (p + 1)) refl close i;
    }
      where
        up : p < q
        up = omega (arith, falls q z)

        above : (d : ℕ) → (d ≡ q → ⊥) → under (parent_of k) d p ≡ false → under (parent_of k) d q ≡ false
        above d n off =
            under_step (parent_of k) falls d q z
            ∙ neither (eqb q d) (under (parent_of k) d (parent_of k q)) (is_false (eqb q d) (λ s. n (sym (eqb-true q d s)))) (ap (under (parent_of k) d) (sym is) ∙ off)

        few : (b : Bool) → cond b 2 1 ≤ 2
        few true = omega arith
        few false = omega arith

        kept : (d x : ℕ) → p < d → d < k.cabinets → (b : Bool) → eqb q (p + 1) ≡ b → d - p < cond b 2 1 → x < size → key_entry size g₂ (d % rows) x ≡ back_key k size u₂ d x
        kept d x h l true s close i =
            subst (λ (d : ℕ). key_entry size g₂ (d % rows) x ≡ back_key k size u₂ d x) (let y : q ≡ d = omega (arith, eqb-true q (p + 1) s) in y)
            (kept_now k size sums falls row_size q (q % rows) t₁ t₂ u₁ u₂ g₁ g₂ m C.within B x i)
        kept d x h l false s close i = absurd (omega arith)

    -- The root rebuilt: all rows on the path are built.
    pub climb_end : q ≡ 0 → Climbs k size e sums t t₂ u u₂
    climb_end z = record {
      rows = λ d l on. (now d l on (λ n. under_small (parent_of k) falls d q (omega arith))).1;
      costs = off_costs;
      choices = off_choices;
    }

-- ---- one loop for both

-- so many splits at most are counted for one row
abbrev pub row_most : ℕ
row_most = 200 * 1048576

module _ (k : Records) (size : ℕ) (sums : List ℕ) (rows first : ℕ) (whole : Bool) where
  -- q is next, after m splits were counted: all rows after it are built, or those on the path from the first
  pub record Going (near q : ℕ) (t t₁ u u₁ : List ℕ) (g₁ : List Key) (m : ℕ) : Type 0 where
    pub within : q < k.cabinets
    pub before : q ≤ first
    pub few : m ≤ (first - q) * row_most
    pub no_more : near ≤ rows
    pub table : whole ≡ true → From k size sums rows (suc q) t t₁ u u₁ g₁ m
    pub path : whole ≡ false → Climbing k size sums rows first near q t t₁ u u₁ g₁

  module _ (falls : Falls (parent_of k)) (row_size : size ≡ 2 ^ k.services) (two : 2 ≤ rows) where
    pub going_start : first < k.cabinets → (whole ≡ true → first + 1 ≡ k.cabinets) → (t u : List ℕ) (g : List Key) → Going 1 first t t u u g 0
    going_start l all t u g = record {
      within = l;
      before = omega arith;
      few = omega arith;
      no_more = omega arith;
      table = λ w. subst (λ (n : ℕ). From k size sums rows n t t u u g 0) (let e : k.cabinets ≡ suc first = omega (arith, all w) in e) (from_start k size sums falls row_size rows t u g);
      path = λ w. climb_start k size sums rows first l t u g;
    }

    -- what a row's rebuilding asks of the keys kept
    pub going_kept : {near q : ℕ} {t t₁ u u₁ : List ℕ} {g : List Key} {m : ℕ} → rows * size ≤ length g → Going near q t t₁ u u₁ g m → KeysKept k size q rows near u₁ g
    going_kept {near} {q} {t} {t₁} {u} {u₁} {g} {m} places G = go whole refl
      where
        go : (b : Bool) → whole ≡ b → KeysKept k size q rows near u₁ g
        go true w =
            let K = from_kept k size sums falls row_size rows q t t₁ u u₁ g m (omega arith) places (G.table w) in
            record { some_rows = omega arith; no_more = G.no_more; places = places; keys = λ d x h l close i. K.keys d x h l (omega (arith, G.no_more)) i }
        go false w = climb_kept k size sums rows first two places (G.path w)

    module _ {near q : ℕ} {t t₁ t₂ u u₁ u₂ : List ℕ} {g₁ g₂ : List Key} {m n : ℕ} (G : Going near q t t₁ u u₁ g₁ m)
        (B : Rebuilds (source k size q sums t₁ u₁) size q (q % rows) k.cabinets t₁ t₂ u₁ u₂ g₁ g₂ n) where
      -- one row more of the whole table
      row_more : whole ≡ true → From k size sums rows q t t₂ u u₂ g₂ (m + n)
      row_more w = from_next k size sums falls row_size rows q t t₁ t₂ u u₁ u₂ g₁ g₂ m n (omega arith) (G.table w) B

      -- the next row comes before
      pub next_before : 0 < q → next_row whole (parent_of k q) q < q
      next_before z = go whole
        where
          go : (b : Bool) → next_row b (parent_of k q) q < q
          go true = omega arith
          go false = falls q z

      pub going_next : n ≤ row_most → 0 < q → (p : ℕ) → p ≡ next_row whole (parent_of k q) q → Going (rows_near whole rows p q) p t t₂ u u₂ g₂ (m + n)
      going_next least z p is = record {
        within = omega (arith, lt, G.within);
        before = omega (arith, lt, G.before);
        few = omega (arith, G.few, least, mul-le-mul_right {m = first - q + 1} {n = first - p} row_most (omega (arith, lt, G.before)));
        no_more = near_le whole (eqb q (p + 1));
        table = λ w. subst (λ (j : ℕ). From k size sums rows j t t₂ u u₂ g₂ (m + n)) (let e : q ≡ suc p = omega (arith, is ∙ ap (λ (b : Bool). next_row b (parent_of k q) q) w) in e) (row_more w);
        path = λ w. subst (λ (b : Bool). Climbing k size sums rows first (rows_near b rows p q) p t t₂ u u₂ g₂) (sym w)
            (climb_next k size sums rows first falls row_size (G.path w) B z p (is ∙ ap (λ (b : Bool). next_row b (parent_of k q) q) w));
      }
        where
          lt : p < q
          lt = rw is (next_before z)

          near_le : (b c : Bool) → cond b rows (cond c 2 1) ≤ rows
          near_le true c = omega arith
          near_le false true = two
          near_le false false = omega arith

      pub going_end : q ≡ 0 → RebuildsRows whole k size first sums t t₂ u u₂ (m + n)
      going_end z = record {
        table = λ w. from_all k size sums falls row_size rows t t₂ u u₂ g₂ (m + n) (subst (λ (j : ℕ). From k size sums rows j t t₂ u u₂ g₂ (m + n)) z (row_more w));
        path = λ w. climb_end k size sums rows first falls row_size (G.path w) B z;
      }
