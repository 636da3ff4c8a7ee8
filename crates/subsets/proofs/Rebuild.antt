-- A row rebuilt, step by step; and where what it is rebuilt from are the figures of a net, so is what comes out.
use Rattle.std.proofs.Common.{◌≡◌, ℕ, zero, suc, ◌+◌, ◌-◌, ◌*◌, ◌^◌, ◌<◌, ◌≤◌, Bool, true, false, cond, eqb, sym, refl, ap, ◌∙◌, ap₂, add-zero, arith, ne_eqb}
use lib.Bits.{bit_and, and_le_r}
use Rattle.finite.specs.Below.{only, sum_below}
use Rattle.finite.proofs.Sums.{sum_ext, only_ext}
use Rattle.subsets.specs.Costs.{some}
use Rattle.subsets.specs.Figures.{limit}
use Rattle.subsets.specs.Inner.Encoded.{figure}
use Rattle.subsets.specs.Inner.Net.{Falls, Net}
use Rattle.subsets.specs.Inner.Rows.{child, row_at, choice_at}
use Rattle.subsets.specs.Inner.Count.{pairs, flagged, joins}
use Rattle.subsets.specs.Inner.Folds.{earlier, plus, split_key, by_key, best_split, Holds}
use Rattle.subsets.specs.Inner.Keys.{ordered, key_parts}
use Rattle.subsets.specs.Inner.Kept.{kept_choice}
use Rattle.subsets.specs.Inner.Rebuild.{Source, rebuilt_row, rebuilt_key, rebuilt_choice, join_count, rebuilt_entry, rebuilt_count}
use Rattle.subsets.specs.declared.Best.{Best}
use Rattle.subsets.specs.declared.Key.{Key}
use Rattle.subsets.proofs.Sets.{Sub, sub_le}
use Rattle.subsets.proofs.Count.{pairs_le}
use Rattle.subsets.proofs.Folds.{best_ext, best_sub, counted_ext, counted_pairs}
use Rattle.subsets.proofs.Rows.{row_alone, row_pass}
use Rattle.subsets.proofs.Tables.{next_figure, next_count}
use Rattle.subsets.proofs.KeyRows.{parts_ext}
use Rattle.subsets.proofs.KeyRows as read_back
use Rattle.subsets.proofs.KeyTables.{next_choice, next_parts}

module _ (S : Source) where
  pub rebuilt_join : (c x : ℕ) → S.child c ≡ true → rebuilt_row S (suc c) x ≡ (best_split earlier (rebuilt_row S c) (S.row c) (S.link c) x).cost
  unfolding rebuilt_row
  rebuilt_join c x e = rw (e, rebuilt_row)

  pub rebuilt_pass : (c x : ℕ) → S.child c ≡ false → rebuilt_row S (suc c) x ≡ rebuilt_row S c x
  unfolding rebuilt_row
  rebuilt_pass c x e = rw (e, rebuilt_row)

  pub key_join : (c x : ℕ) → S.child c ≡ true → rebuilt_key S (suc c) x ≡ split_key (rebuilt_key S c) (S.key c) x (rebuilt_choice S c x)
  unfolding rebuilt_key rebuilt_choice
  key_join c x e = rw (e, rebuilt_key)

  pub key_pass : (c x : ℕ) → S.child c ≡ false → rebuilt_key S (suc c) x ≡ rebuilt_key S c x
  unfolding rebuilt_key
  key_pass c x e = rw (e, rebuilt_key)

  pub count_join : (size c : ℕ) → S.child c ≡ true → rebuilt_count S size (suc c) ≡ rebuilt_count S size c + join_count S size c
  unfolding rebuilt_count sum_below only
  count_join size c e = rw e

  pub count_pass : (size c : ℕ) → S.child c ≡ false → rebuilt_count S size (suc c) ≡ rebuilt_count S size c
  unfolding rebuilt_count sum_below only
  count_pass size c e = rw e (add-zero _)

  -- where no number up to k is a child
  pub rebuilt_start : (k x : ℕ) → ((c : ℕ) → c < k → S.child c ≡ false) → rebuilt_row S k x ≡ S.own x
  unfolding rebuilt_row
  rebuilt_start zero x h = refl
  rebuilt_start (suc k) x h = rebuilt_pass k x (h k (omega arith)) ∙ rebuilt_start k x (λ c l. h c (omega arith))

  pub key_start : (k x : ℕ) → ((c : ℕ) → c < k → S.child c ≡ false) → rebuilt_key S k x ≡ S.own_key x
  unfolding rebuilt_key
  key_start zero x h = refl
  key_start (suc k) x h = key_pass k x (h k (omega arith)) ∙ key_start k x (λ c l. h c (omega arith))

  pub count_start : (size k : ℕ) → ((c : ℕ) → c < k → S.child c ≡ false) → rebuilt_count S size k ≡ 0
  unfolding rebuilt_count sum_below
  count_start size zero h = refl
  count_start size (suc k) h = count_pass size k (h k (omega arith)) ∙ count_start size k (λ c l. h c (omega arith))

-- the choice is a subset
choice_sub : (S : Source) (c x : ℕ) → Sub (rebuilt_choice S c x) x
unfolding rebuilt_choice
choice_sub S c x = best_sub (by_key (rebuilt_key S c) (S.key c) x) (rebuilt_row S c) (S.row c) (S.link c) x

-- and so no larger a number than the set
pub choice_le : (S : Source) (c x : ℕ) → rebuilt_choice S c x ≤ x
choice_le S c x = sub_le (rebuilt_choice S c x) x (choice_sub S c x)

-- for any set but the empty one the entry of the choice table is the choice
pub entry_chosen : (S : Source) (size c x : ℕ) → 0 < x → rebuilt_entry S size c x ≡ rebuilt_choice S c x
unfolding rebuilt_entry
entry_chosen S size c x z = rw (ne_eqb x 0 (λ e. omega arith)) refl

-- read as a subset of the set it is the choice for every set
pub entry_stays : (S : Source) (size c x : ℕ) → bit_and (rebuilt_entry S size c x) x ≡ rebuilt_choice S c x
entry_stays S size c zero = let a = and_le_r (rebuilt_entry S size c 0) 0 in let b = choice_le S c 0 in omega arith
entry_stays S size c (suc x) = ap (λ (a : ℕ). bit_and a (suc x)) (entry_chosen S size c (suc x) (omega arith)) ∙ choice_sub S c (suc x)

-- the count of a join is at most that of all pairs of a set and a subset of it
pub join_count_le : (S : Source) (size r c : ℕ) → size ≡ 2 ^ r → join_count S size c ≤ 3 ^ r
unfolding join_count
join_count_le S size r c e =
    rw e (rw (counted_pairs (rebuilt_row S c) (S.row c) (S.link c) r) (pairs_le r _))

-- splits of x are ordered by keys of the sets up to x
pub by_key_ext : (keys keys₁ kid kid₁ : ℕ → Key) (x : ℕ) → ((a : ℕ) → a ≤ x → keys a ≡ keys₁ a) → ((a : ℕ) → a ≤ x → kid a ≡ kid₁ a)
    → (a d : ℕ) → Sub a x → Sub d x → by_key keys kid x a d ≡ by_key keys₁ kid₁ x a d
by_key_ext keys keys₁ kid kid₁ x f g a d s t =
    rw (f a (sub_le a x s), f d (sub_le d x t), g (x - a) (omega arith), g (x - d) (omega arith))

-- ---- what a row rebuilt depends on

-- two sources that agree for the sets below size, as far as children go
pub record Agree (size : ℕ) (S S₁ : Source) : Type 0 where
  pub own : (x : ℕ) → x < size → S.own x ≡ S₁.own x
  pub child : (c : ℕ) → S.child c ≡ S₁.child c
  pub row : (c x : ℕ) → S.child c ≡ true → x < size → S.row c x ≡ S₁.row c x
  pub link : (c x : ℕ) → S.child c ≡ true → x < size → S.link c x ≡ S₁.link c x
  pub own_key : (x : ℕ) → x < size → S.own_key x ≡ S₁.own_key x
  pub key : (c x : ℕ) → S.child c ≡ true → x < size → S.key c x ≡ S₁.key c x

module _ (size : ℕ) (S S₁ : Source) (A : Agree size S S₁) where
  pub row_agrees : (k x : ℕ) → x < size → rebuilt_row S k x ≡ rebuilt_row S₁ k x
  unfolding rebuilt_row
  row_agrees zero x h = A.own x h
  row_agrees (suc c) x h = go (S.child c) refl (row_agrees c)
    where
      go : (t : Bool) → S.child c ≡ t → ((y : ℕ) → y < size → rebuilt_row S c y ≡ rebuilt_row S₁ c y) → rebuilt_row S (suc c) x ≡ rebuilt_row S₁ (suc c) x
      go true e ih =
          rebuilt_join S c x e
          ∙ ap (λ (b : Best). b.cost) (best_ext _ _ _ _ _ _ _ _ x (λ a d s t. refl) (λ a l. ih a (omega arith)) (λ a l. A.row c a e (omega arith)) (λ a l. A.link c a e (omega arith)))
          ∙ sym (rebuilt_join S₁ c x (sym (A.child c) ∙ e))
      go false e ih = rebuilt_pass S c x e ∙ ih x h ∙ sym (rebuilt_pass S₁ c x (sym (A.child c) ∙ e))

  -- one join with keys that agree
  join_agrees : (c x : ℕ) → S.child c ≡ true → x < size → ((y : ℕ) → y < size → rebuilt_key S c y ≡ rebuilt_key S₁ c y) → rebuilt_choice S c x ≡ rebuilt_choice S₁ c x
  unfolding rebuilt_choice
  join_agrees c x e h k =
      ap (λ (b : Best). b.chosen) (best_ext _ _ _ _ _ _ _ _ x (by_key_ext _ _ _ _ x (λ a l. k a (omega arith)) (λ a l. A.key c a e (omega arith)))
      (λ a l. row_agrees c a (omega arith)) (λ a l. A.row c a e (omega arith)) (λ a l. A.link c a e (omega arith)))

  pub key_agrees : (k x : ℕ) → x < size → rebuilt_key S k x ≡ rebuilt_key S₁ k x
  unfolding rebuilt_key
  key_agrees zero x h = A.own_key x h
  key_agrees (suc c) x h = go (S.child c) refl (key_agrees c)
    where
      go : (t : Bool) → S.child c ≡ t → ((y : ℕ) → y < size → rebuilt_key S c y ≡ rebuilt_key S₁ c y) → rebuilt_key S (suc c) x ≡ rebuilt_key S₁ (suc c) x
      go true e ih =
          let small : rebuilt_choice S₁ c x ≤ x = choice_le S₁ c x in
          key_join S c x e ∙ ap (split_key (rebuilt_key S c) (S.key c) x) (join_agrees c x e h ih)
          ∙ ap₂ plus (ih (rebuilt_choice S₁ c x) (omega arith)) (A.key c (x - rebuilt_choice S₁ c x) e (omega arith))
          ∙ sym (key_join S₁ c x (sym (A.child c) ∙ e))
      go false e ih = key_pass S c x e ∙ ih x h ∙ sym (key_pass S₁ c x (sym (A.child c) ∙ e))

  pub choice_agrees : (c x : ℕ) → S.child c ≡ true → x < size → rebuilt_choice S c x ≡ rebuilt_choice S₁ c x
  choice_agrees c x e h = join_agrees c x e h (key_agrees c)

  pub join_count_agrees : (c : ℕ) → S.child c ≡ true → join_count S size c ≡ join_count S₁ size c
  unfolding join_count
  join_count_agrees c e = counted_ext _ _ _ _ _ _ size (row_agrees c) (λ a l. A.row c a e l) (λ a l. A.link c a e l)

  pub entry_agrees : (c x : ℕ) → S.child c ≡ true → x < size → rebuilt_entry S size c x ≡ rebuilt_entry S₁ size c x
  unfolding rebuilt_entry
  entry_agrees c x e h = ap₂ (λ (m n : ℕ). cond (eqb x 0) m n) (join_count_agrees c e) (choice_agrees c x e h)

  pub count_agrees : (k : ℕ) → rebuilt_count S size k ≡ rebuilt_count S₁ size k
  unfolding rebuilt_count
  count_agrees k =
      sum_ext k _ _ (λ c m.
      only_ext (S.child c) _ _ (λ e. join_count_agrees c e)
      ∙ ap (λ (t : Bool). only t (join_count S₁ size c)) (A.child c))

-- ---- a bound of keys, whatever is rebuilt

-- The parts of keys rebuilt, with children below n, from parts up to B are sums of at most one for each child and one more.
pub rebuilt_key_le : (S : Source) (B size n : ℕ) → ((x : ℕ) → x < size → ((S.own_key x).high ≤ B) × ((S.own_key x).low ≤ B))
    → ((c x : ℕ) → c < n → S.child c ≡ true → x < size → ((S.key c x).high ≤ B) × ((S.key c x).low ≤ B))
    → (k x : ℕ) → k ≤ n → x < size → ((rebuilt_key S k x).high ≤ suc k * B) × ((rebuilt_key S k x).low ≤ suc k * B)
unfolding rebuilt_key
rebuilt_key_le S B size n own kids zero x l h = let z = own x h in (omega (arith, z.0), omega (arith, z.1))
rebuilt_key_le S B size n own kids (suc c) x l h = go (S.child c) refl (λ y. rebuilt_key_le S B size n own kids c y (omega arith))
  where
    go : (t : Bool) → S.child c ≡ t → ((y : ℕ) → y < size → ((rebuilt_key S c y).high ≤ suc c * B) × ((rebuilt_key S c y).low ≤ suc c * B))
        → ((rebuilt_key S (suc c) x).high ≤ suc (suc c) * B) × ((rebuilt_key S (suc c) x).low ≤ suc (suc c) * B)
    go true e ih =
        let m : rebuilt_choice S c x ≤ x = choice_le S c x in
        let y = ih (rebuilt_choice S c x) (omega arith) in
        let z = kids c (x - rebuilt_choice S c x) (omega arith) e (omega arith) in
        rw (key_join S c x e) (omega (arith, y.0, z.0), omega (arith, y.1, z.1))
    go false e ih = let y = ih x h in rw (key_pass S c x e) (omega (arith, y.0), omega (arith, y.1))

-- ---- a source that holds a net's figures and the keys of the ordered net's placings

-- S holds the figures of p and its children in N, and the keys, to the base b with h digits in the low part, of the placings read back
pub record Sourced (b h : ℕ) (N : Net) (p : ℕ) (S : Source) : Type 0 where
  pub own : Holds (2 ^ N.r) (N.node p) S.own
  pub children : (c : ℕ) → c < N.s → S.child c ≡ child N p c
  pub rows : (c : ℕ) → c < N.s → child N p c ≡ true → Holds (2 ^ N.r) (row_at N c N.s) (S.row c)
  pub links : (c : ℕ) → c < N.s → child N p c ≡ true → Holds (2 ^ N.r) (N.link c) (S.link c)
  pub own_keys : (x : ℕ) → x < 2 ^ N.r → S.own_key x ≡ key_parts b h N (choice_at (ordered b N)) p 0 x
  pub keys : (c : ℕ) → c < N.s → child N p c ≡ true → (x : ℕ) → x < 2 ^ N.r → S.key c x ≡ key_parts b h N (choice_at (ordered b N)) c N.s x

module _ (N : Net) (falls : Falls N.parent) (B : ℕ)
    (nodes : (c x k : ℕ) → c < N.s → x < 2 ^ N.r → N.node c x ≡ some k → k ≤ B)
    (links : (c x k : ℕ) → c < N.s → x < 2 ^ N.r → N.link c x ≡ some k → k ≤ B)
    (small : (2 * N.s - 1) * B ≤ limit)
    (b h : ℕ) (some_node : 0 < N.s) (base : N.s ≤ b) (more : 1 < b)
    (p : ℕ) (S : Source) (H : Sourced b h N p S) where
  -- The row rebuilt is the figure of the net's row.
  pub rebuilt_holds : (k : ℕ) → k ≤ N.s → Holds (2 ^ N.r) (row_at N p k) (rebuilt_row S k)
  unfolding rebuilt_row
  rebuilt_holds zero l x hx = H.own x hx ∙ ap figure (sym (row_alone N falls p x))
  rebuilt_holds (suc c) l x hx = go (child N p c) refl (rebuilt_holds c (omega arith))
    where
      go : (t : Bool) → child N p c ≡ t → Holds (2 ^ N.r) (row_at N p c) (rebuilt_row S c) → rebuilt_row S (suc c) x ≡ figure (row_at N p (suc c) x)
      go true e ih =
          rebuilt_join S c x (H.children c (omega arith) ∙ e)
          ∙ next_figure N falls B nodes links small p c e (omega arith) (rebuilt_row S c) (S.row c) (S.link c) ih (H.rows c (omega arith) e) (H.links c (omega arith) e) x hx earlier
      go false e ih = rebuilt_pass S c x (H.children c (omega arith) ∙ e) ∙ ih x hx ∙ ap figure (sym (row_pass N falls p c x e))

  -- so is the count of each join, and of all
  join_counted : (c : ℕ) → c < N.s → child N p c ≡ true → join_count S (2 ^ N.r) c ≡ pairs N.r (flagged N c)
  unfolding join_count
  join_counted c l e =
      next_count N falls B nodes links small p c e l (rebuilt_row S c) (S.row c) (S.link c) (rebuilt_holds c (omega arith)) (H.rows c l e) (H.links c l e)

  pub rebuilt_counted : (k : ℕ) → k ≤ N.s → rebuilt_count S (2 ^ N.r) k ≡ joins N p k
  unfolding rebuilt_count joins
  rebuilt_counted k l =
      sum_ext k _ _ (λ c m.
      ap (λ (t : Bool). only t (join_count S (2 ^ N.r) c)) (H.children c (omega arith)) ∙ only_ext (child N p c) _ _ (λ e. join_counted c (omega arith) e))

  -- the keys after the children below k are those of the placings read back
  abbrev Keyed : ℕ → Type 0
  Keyed k = (x : ℕ) → x < 2 ^ N.r → rebuilt_key S k x ≡ key_parts b h N (choice_at (ordered b N)) p k x

  -- one join to a row with those keys
  chosen : (c x : ℕ) → c < N.s → child N p c ≡ true → x < 2 ^ N.r → Keyed c → rebuilt_choice S c x ≡ choice_at (ordered b N) c x
  unfolding rebuilt_choice
  chosen c x l e hx own =
      next_choice N falls B nodes links small p c e l (rebuilt_row S c) (S.row c) (S.link c) (rebuilt_holds c (omega arith)) (H.rows c l e) (H.links c l e)
      b h some_node base more (rebuilt_key S c) (S.key c) own (H.keys c l e) x hx

  -- Its keys are those of the placings read back from the ordered net's table,
  pub rebuilt_keyed : (k : ℕ) → k ≤ N.s → (x : ℕ) → x < 2 ^ N.r → rebuilt_key S k x ≡ key_parts b h N (choice_at (ordered b N)) p k x
  unfolding rebuilt_key
  rebuilt_keyed zero l x hx = H.own_keys x hx
  rebuilt_keyed (suc c) l x hx = go (child N p c) refl (rebuilt_keyed c (omega arith))
    where
      go : (t : Bool) → child N p c ≡ t → Keyed c → rebuilt_key S (suc c) x ≡ key_parts b h N (choice_at (ordered b N)) p (suc c) x
      go true e ih =
          key_join S c x (H.children c (omega arith) ∙ e) ∙ ap (split_key (rebuilt_key S c) (S.key c) x) (chosen c x (omega arith) e hx ih)
          ∙ next_parts b h N falls some_node base more p c e (omega arith) (rebuilt_key S c) (S.key c) ih (H.keys c (omega arith) e) x hx
      go false e ih = key_pass S c x (H.children c (omega arith) ∙ e) ∙ ih x hx ∙ sym (parts_ext b h N _ _ p (suc c) x p c x (λ v. read_back.key_pass N v (choice_at (ordered b N)) falls p c x e))

  -- and its choices are that table's, with the counts of the joins.
  pub rebuilt_kept : (c x : ℕ) → c < N.s → child N p c ≡ true → x < 2 ^ N.r → rebuilt_entry S (2 ^ N.r) c x ≡ kept_choice b N c x
  unfolding rebuilt_entry kept_choice
  rebuilt_kept c x l e hx =
      ap₂ (λ (m n : ℕ). cond (eqb x 0) m n) (join_counted c l e) (chosen c x l e hx (rebuilt_keyed c (omega arith)))
