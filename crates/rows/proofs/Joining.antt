-- A join goes through the sets from the last down: what holds once those from x on are joined.
use Prim.Native.Nat.{ℕ, suc, ◌+◌, ◌-◌, ◌*◌, ◌≤◌, ◌<◌}
use native.Mathlib.Nat.{eq-or-lt_of_le}
use native.Mathlib.Omega.{arith}
use mathlib.Core.Logic.{⊎_elim}
use mathlib.Core.Path.{◌≡◌, refl, ap, ◌∙◌, subst}
use mathlib.Core.List.{List}
use lib.ListN.{length, get_or, set, length-set}
use lib.Seq.{get_or-set_same, get_or-set_other}
use Rattle.finite.specs.Below.{sum_below}
use Rattle.finite.proofs.Sums.{sum_le}
use Rattle.subsets.specs.declared.Best.{Best}
use Rattle.subsets.specs.declared.Key.{Key}
use Rattle.subsets.specs.Inner.Folds as folds
use Rattle.subsets.specs.Inner.Folds.{earlier, figures, start, plus, split_key, by_key, best_split, counted_below}
use Rattle.subsets.proofs.Sets.{sub_le}
use Rattle.subsets.proofs.Folds.{scan_count_le, any_count, best_sub, best_ext}
use Rattle.subsets.proofs.Rebuild.{by_key_ext}
use Rattle.rows.specs.Keys.{no_key, key_in}
use Rattle.rows.specs.Joins.{best_of, Joined}

-- ---- the splits counted

module _ (row child link : ℕ → ℕ) where
  -- for one set
  one_counted : (x : ℕ) → (best_split earlier row child link x).counted ≤ suc x
  unfolding folds.best_split
  one_counted x = omega (arith, scan_count_le earlier row child link x (suc x) start)

  -- and for all
  pub counted_le : (n : ℕ) → n ≤ 1024 → counted_below row child link n ≤ n * 1024
  unfolding folds.counted_below
  counted_le n h = sum_le n 1024 (λ x. (best_split earlier row child link x).counted) (λ x k. omega (arith, one_counted x))

  counted_suc : (y : ℕ) → counted_below row child link (suc y) ≡ counted_below row child link y + (best_split earlier row child link y).counted
  unfolding folds.counted_below sum_below
  counted_suc y = refl

-- the choice is no larger a number than the set
pub chosen_le : (row child link : List ℕ) (keys kid : List Key) (x : ℕ) → (best_of row child link keys kid x).chosen ≤ x
chosen_le row child link keys kid x =
    sub_le (best_of row child link keys kid x).chosen x (best_sub (by_key (key_in keys) (key_in kid) x) (figures row) (figures child) (figures link) x)

module _ (row child link : List ℕ) (keys kid : List Key) where
  abbrev best_at : ℕ → Best
  best_at = best_of row child link keys kid

  abbrev key_at : ℕ → Key
  key_at x = split_key (key_in keys) (key_in kid) x (best_at x).chosen

  -- the sets from x on are joined
  pub record Partly (x : ℕ) (row₁ choice₁ : List ℕ) (keys₁ : List Key) (count : ℕ) : Type 0 where
    pub row_length : length row₁ ≡ length row
    pub choice_length : length choice₁ ≡ length row
    pub key_length : length keys₁ ≡ length row
    pub below : (k : ℕ) → k < x → get_or row₁ k 0 ≡ get_or row k 0
    pub key_below : (k : ℕ) → k < x → key_in keys₁ k ≡ key_in keys k
    pub costs : (k : ℕ) → x ≤ k → k < length row → get_or row₁ k 0 ≡ (best_at k).cost
    pub choices : (k : ℕ) → x ≤ k → k < length row → get_or choice₁ k 0 ≡ (best_at k).chosen
    pub keyed : (k : ℕ) → x ≤ k → k < length row → key_in keys₁ k ≡ key_at k
    pub counted : count + counted_below (figures row) (figures child) (figures link) x ≡ counted_below (figures row) (figures child) (figures link) (length row)

  pub begin : (choice : List ℕ) → length choice ≡ length row → length keys ≡ length row → Partly (length row) row choice keys 0
  begin choice e f = record {
    row_length = refl;
    choice_length = e;
    key_length = f;
    below = λ k l. refl;
    key_below = λ k l. refl;
    costs = λ k l m. absurd (omega arith);
    choices = λ k l m. absurd (omega arith);
    keyed = λ k l m. absurd (omega arith);
    counted = omega arith;
  }

  module _ (y : ℕ) (row₁ choice₁ : List ℕ) (keys₁ : List Key) (count : ℕ) (P : Partly (suc y) row₁ choice₁ keys₁ count) where
    -- the next set's best split is that of the row and the keys as they were
    pub best_same : best_of row₁ child link keys₁ kid y ≡ best_at y
    best_same =
        best_ext (by_key (key_in keys₁) (key_in kid) y) (by_key (key_in keys) (key_in kid) y) (figures row₁) (figures row) (figures child) (figures child) (figures link) (figures link) y
        (by_key_ext (key_in keys₁) (key_in keys) (key_in kid) (key_in kid) y (λ a l. P.key_below a (omega arith)) (λ a l. refl))
        (λ k l. P.below k (omega arith)) (λ k l. refl) (λ k l. refl)

    at_or_above : {A : Type 0} (none : A) (old : List A) (v : A) (f : ℕ → A) → y < length old → v ≡ f y
        → ((k : ℕ) → suc y ≤ k → k < length row → get_or old k none ≡ f k) → (k : ℕ) → y ≤ k → k < length row → get_or (set old y v) k none ≡ f k
    at_or_above none old v f h e g k l m =
        ⊎_elim (λ q. subst (λ (j : ℕ). get_or (set old y v) j none ≡ f j) q (get_or-set_same old y v none h ∙ e))
        (λ lt. get_or-set_other old y k v none (λ q. omega arith) ∙ g k lt m) (eq-or-lt_of_le l)

    pub step : (b : Best) (v : Key) → y < length row → b ≡ best_of row₁ child link keys₁ kid y → v ≡ split_key (key_in keys₁) (key_in kid) y b.chosen
        → Partly y (set row₁ y b.cost) (set choice₁ y b.chosen) (set keys₁ y v) (count + b.counted)
    step b v l e f =
        let q : b ≡ best_at y = e ∙ best_same in
        let c : b.chosen ≡ (best_at y).chosen = ap (λ (z : Best). z.chosen) q in
        let small : (best_at y).chosen ≤ y = chosen_le row child link keys kid y in
        record {
          row_length = length-set row₁ y b.cost ∙ P.row_length;
          choice_length = length-set choice₁ y b.chosen ∙ P.choice_length;
          key_length = length-set keys₁ y v ∙ P.key_length;
          below = λ k m. get_or-set_other row₁ y k b.cost 0 (λ z. omega arith) ∙ P.below k (omega arith);
          key_below = λ k m. get_or-set_other keys₁ y k v no_key (λ z. omega arith) ∙ P.key_below k (omega arith);
          costs = at_or_above 0 row₁ b.cost (λ k. (best_at k).cost) (omega (arith, P.row_length)) (ap (λ (z : Best). z.cost) q) P.costs;
          choices = at_or_above 0 choice₁ b.chosen (λ k. (best_at k).chosen) (omega (arith, P.choice_length)) c P.choices;
          keyed = at_or_above no_key keys₁ v key_at (omega (arith, P.key_length))
              (f ∙ ap (split_key (key_in keys₁) (key_in kid) y) c
              ∙ ap (λ (z : Key). plus z (key_in kid (y - (best_at y).chosen))) (P.key_below (best_at y).chosen (omega arith))) P.keyed;
          counted = omega (
            arith,
            P.counted,
            counted_suc (figures row) (figures child) (figures link) y,
            ap (λ (z : Best). z.counted) q,
            any_count (by_key (key_in keys) (key_in kid) y) earlier (figures row) (figures child) (figures link) y,
          );
        }

  pub all : (row₁ choice₁ : List ℕ) (keys₁ : List Key) (count : ℕ) → Partly 0 row₁ choice₁ keys₁ count → Joined row child link keys kid row₁ choice₁ keys₁ count
  unfolding folds.counted_below sum_below
  all row₁ choice₁ keys₁ count P = record {
    costs = λ k l. P.costs k (omega arith) l;
    choices = λ k l. P.choices k (omega arith) l;
    keyed = λ k l. P.keyed k (omega arith) l;
    counted = omega (arith, P.counted);
  }
