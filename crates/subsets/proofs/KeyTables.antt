-- One join of the planner with keys: the subsets chosen are the entries of the ordered net's table, and the keys of the splits chosen are those of the
-- placings read back from it.
use Rattle.std.proofs.Common.{◌≡◌, ℕ, suc, ◌+◌, ◌-◌, ◌*◌, ◌^◌, ◌<◌, ◌≤◌, Bool, true, false, cond, ltb, sym, refl, ap, ◌∙◌, ap₂, arith}
use mathlib.Core.Path.{fun_ext}
use Rattle.subsets.specs.Sets.{has}
use Rattle.subsets.specs.Costs.{Cost, none, some}
use Rattle.subsets.specs.Inner.Totals.{◌⊕◌}
use Rattle.subsets.specs.Figures.{limit}
use Rattle.subsets.specs.Inner.Net.{Falls, Net}
use Rattle.subsets.specs.Inner.Splits.{split_charge}
use Rattle.subsets.specs.Inner.Rows.{child, row_at, choice_at}
use Rattle.subsets.specs.Inner.Back.{seat}
use Rattle.subsets.specs.Inner.Folds.{plus, split_key, by_key, best_split, Holds}
use Rattle.subsets.specs.Inner.Keys.{weight, key, high, low, times, keyed, ordered, key_at, key_parts}
use Rattle.subsets.specs.declared.Key.{Key}
use Rattle.subsets.proofs.Costs.{⊕-assoc, ⊕-comm, ⊕-left-comm}
use Rattle.subsets.proofs.Sets.{Sub, sub_le}
use Rattle.subsets.proofs.Subsets.{winner_ext, winner_sub}
use Rattle.subsets.proofs.Rows.{child_parent}
use Rattle.subsets.proofs.Join.{mix}
use Rattle.subsets.proofs.Back.{choice_wins, seat_below}
use Rattle.subsets.proofs.Tables.{split_read, split_fits}
use Rattle.subsets.proofs.Keys.{cost_part, Above, times_add, row_cost, row_parts, row_key, seat_keyed}
use Rattle.subsets.proofs.KeyRows.{key_mix, key_join}
use Rattle.subsets.proofs.KeyParts.{key_two}
use Rattle.subsets.proofs.First.{ordered_above, low_above}
use Rattle.subsets.proofs.Ties.{with_key, best_winner, before_number}

-- the keyed net's own table
abbrev pub winners : ℕ → (ℕ → ℕ) → Net → ℕ → ℕ → ℕ
winners k w N = choice_at (keyed k w N)

-- the sum of three costs, two of them with keys
with_key_sum : (k : ℕ) (f g l : Cost) (m n : ℕ) → with_key k (f ⊕ g ⊕ l) (m + n) ≡ with_key k f m ⊕ with_key k g n ⊕ times k l
unfolding times ◌⊕◌
with_key_sum k f g l m n =
    ap (λ (z : Cost). z ⊕ some (m + n)) (times_add k (f ⊕ g) l ∙ ap (λ (z : Cost). z ⊕ times k l) (times_add k f g))
    ∙ shuffle (times k f) (times k g) (times k l) (some m) (some n)
  where
    shuffle : (a b c x y : Cost) → ((a ⊕ b) ⊕ c) ⊕ (x ⊕ y) ≡ ((a ⊕ x) ⊕ (b ⊕ y)) ⊕ c
    shuffle a b c x y = simp (⊕-assoc, ⊕-left-comm) (ap (λ (z : Cost). a ⊕ (b ⊕ z)) (⊕-left-comm c x y ∙ ap (λ (z : Cost). x ⊕ z) (⊕-comm c y)))

-- ---- the splits of the keyed net, for any weights

-- the placing of x that reads a on p and its children below c, and the rest on c, back from a table
abbrev split_seat : Net → (ℕ → ℕ → ℕ) → ℕ → ℕ → ℕ → ℕ → ℕ → ℕ
split_seat N choice p c x a = mix a (seat N choice p c a) (seat N choice c N.s (x - a))

-- the key of the split of x that places a when c is joined to p, as one number
abbrev pub split_number : ℕ → (ℕ → ℕ) → Net → ℕ → ℕ → ℕ → ℕ → ℕ
split_number k w N p c x a = key_at N w (winners k w N) p c a + key_at N w (winners k w N) c N.s (x - a)

module _ (N : Net) (choice : ℕ → ℕ → ℕ) (falls : Falls N.parent) (p c : ℕ) (is_child : child N p c ≡ true) (hc : c < N.s) (x : ℕ) (hx : x < 2 ^ N.r) (a : ℕ) (s : Sub a x) where
  -- every service of it is on a node
  split_seat_below : (i : ℕ) → split_seat N choice p c x a i < N.s
  split_seat_below i = go (has a i)
    where
      go : (t : Bool) → cond t (seat N choice p c a i) (seat N choice c N.s (x - a) i) < N.s
      go true = let w = child_parent N p c is_child in seat_below N choice falls p c a i (omega (arith, falls c w.0, w.1)) (omega arith)
      go false = seat_below N choice falls c N.s (x - a) i hc (omega arith)

  -- its key, by any weights, is that of the subset placed and of the rest
  split_seat_key : (v : ℕ → ℕ) → key N.r v x (split_seat N choice p c x a) ≡ key_at N v choice p c a + key_at N v choice c N.s (x - a)
  split_seat_key v = key_mix N.r v x a (seat N choice p c a) (seat N choice c N.s (x - a)) hx s

  -- so that sum is below k where every key is
  pub split_small : (k : ℕ) (v : ℕ → ℕ) → Above k v N → key_at N v choice p c a + key_at N v choice c N.s (x - a) < k
  split_small k v above = rw (sym (split_seat_key v)) (above x (split_seat N choice p c x a) (λ i l e. split_seat_below i))

module _ (k : ℕ) (w : ℕ → ℕ) (N : Net) (above : Above k w N) (falls : Falls N.parent) where
  -- A row of the keyed net is the row of the net with the keys of the placings read back.
  pub row_with_key : (p j x : ℕ) → p < N.s → j ≤ N.s → x < 2 ^ N.r → row_at (keyed k w N) p j x ≡ with_key k (row_at N p j x) (key_at N w (winners k w N) p j x)
  unfolding times ◌⊕◌ cost_part
  row_with_key p j x hp hj hx = go (row_at (keyed k w N) p j x) refl
    where
      seats : seat (keyed k w N) (winners k w N) p j x ≡ seat N (winners k w N) p j x
      seats = fun_ext (λ i. seat_keyed k w N (winners k w N) p j x i)

      go : (g : Cost) → row_at (keyed k w N) p j x ≡ g → row_at (keyed k w N) p j x ≡ times k (row_at N p j x) ⊕ some (key_at N w (winners k w N) p j x)
      go none e = e ∙ sym (ap (λ (f : Cost). times k f ⊕ some (key_at N w (winners k w N) p j x)) (row_cost k w N above falls p j x hp hj hx ∙ ap (cost_part k) e))
      go (some m) e =
          row_parts k w N above falls p j x hp hj hx
          ∙ ap (λ (n : ℕ). times k (row_at N p j x) ⊕ some n)
          (row_key k w N above falls (winners k w N) (choice_wins (keyed k w N) falls) p j x m hp hj hx e ∙ ap (key N.r w x) seats)

  module _ (p c : ℕ) (is_child : child N p c ≡ true) (hc : c < N.s) (x : ℕ) (hx : x < 2 ^ N.r) where
    -- the splits of the keyed net are those of the net with their keys
    pub split_keyed : (a : ℕ) → Sub a x
        → with_key k (split_charge (row_at N p c) (row_at N c N.s) (N.link c) x a) (split_number k w N p c x a)
        ≡ split_charge (row_at (keyed k w N) p c) (row_at (keyed k w N) c N.s) ((keyed k w N).link c) x a
    split_keyed a s =
        let v = child_parent N p c is_child in
        with_key_sum k (row_at N p c a) (row_at N c N.s (x - a)) (N.link c (x - a)) _ _
        ∙ ap₂ (λ (y z : Cost). y ⊕ z ⊕ times k (N.link c (x - a)))
        (sym (row_with_key p c a (omega (arith, falls c v.0, v.1)) (omega arith) (omega (arith, sub_le a x s))))
        (sym (row_with_key c N.s (x - a) hc (omega arith) (omega arith)))

    -- The key of the next row, by any weights, is that of the subset chosen and of the rest.
    pub next_key : (v : ℕ → ℕ) → key_at N v (winners k w N) p (suc c) x
        ≡ key_at N v (winners k w N) p c (winners k w N c x) + key_at N v (winners k w N) c N.s (x - winners k w N c x)
    unfolding choice_at
    next_key v =
        key_join N v (winners k w N) falls p c x is_child hc hx
        ∙ ap (λ (a : ℕ). key_at N v (winners k w N) p c a + key_at N v (winners k w N) c N.s (x - a)) (winner_sub _ x)

-- ---- keys in two parts

module _ (b h : ℕ) (N : Net) (falls : Falls N.parent) (some_node : 0 < N.s) (base : N.s ≤ b) (more : 1 < b) (p c : ℕ) (is_child : child N p c ≡ true) (hc : c < N.s)
    (keys kid_keys : ℕ → Key)
    (own : (a : ℕ) → a < 2 ^ N.r → keys a ≡ key_parts b h N (choice_at (ordered b N)) p c a)
    (kids : (a : ℕ) → a < 2 ^ N.r → kid_keys a ≡ key_parts b h N (choice_at (ordered b N)) c N.s a) (x : ℕ) (hx : x < 2 ^ N.r) where
  -- the parts of a split's key
  abbrev parts : ℕ → Key
  parts = split_key (key_parts b h N (choice_at (ordered b N)) p c) (key_parts b h N (choice_at (ordered b N)) c N.s) x

  abbrev number : ℕ → ℕ
  number = split_number (b ^ N.r) (weight b N.r) N p c x

  parts_number : (a : ℕ) → Sub a x → (parts a).high * b ^ h + (parts a).low ≡ number a
  parts_number a s =
      ap₂ (λ (y z : ℕ). y * b ^ h + z) (sym (at (high (b ^ h) (weight b N.r)))) (sym (at (low (b ^ h) (weight b N.r))))
      ∙ sym (key_two N.r (b ^ h) (weight b N.r) x (split_seat N (choice_at (ordered b N)) p c x a)) ∙ at (weight b N.r)
    where
      at : (v : ℕ → ℕ) → key N.r v x (split_seat N (choice_at (ordered b N)) p c x a)
          ≡ key_at N v (choice_at (ordered b N)) p c a + key_at N v (choice_at (ordered b N)) c N.s (x - a)
      at = split_seat_key N (choice_at (ordered b N)) falls p c is_child hc x hx a s

  parts_low : (a : ℕ) → Sub a x → (parts a).low < b ^ h
  parts_low a s = split_small N (choice_at (ordered b N)) falls p c is_child hc x hx a s (b ^ h) _ (low_above b N some_node base h more)

  -- The order of splits by their keys is that of their numbers.
  pub key_order : (a d : ℕ) → Sub a x → Sub d x → by_key keys kid_keys x a d
      ≡ ltb (split_number (b ^ N.r) (weight b N.r) N p c x a) (split_number (b ^ N.r) (weight b N.r) N p c x d)
  key_order a d s t =
      rw (own a (omega (arith, sub_le a x s)), own d (omega (arith, sub_le d x t)), kids (x - a) (omega arith), kids (x - d) (omega arith))
      (before_number (b ^ h) (parts a) (parts d) (parts_low a s) (parts_low d t) ∙ ap₂ ltb (parts_number a s) (parts_number d t))

  -- The key of the split that the table names is that of the next row.
  pub next_parts : split_key keys kid_keys x (choice_at (ordered b N) c x) ≡ key_parts b h N (choice_at (ordered b N)) p (suc c) x
  next_parts =
      ap₂ plus (own (choice_at (ordered b N) c x) (omega (arith, small))) (kids (x - choice_at (ordered b N) c x) (omega arith))
      ∙ ap₂ (λ (y z : ℕ). record { high = y; low = z }) (sym (next (high (b ^ h) (weight b N.r)))) (sym (next (low (b ^ h) (weight b N.r))))
    where
      small : choice_at (ordered b N) c x ≤ x
      small = unfold choice_at in sub_le _ x (winner_sub _ x)

      next : (v : ℕ → ℕ) → key_at N v (choice_at (ordered b N)) p (suc c) x
          ≡ key_at N v (choice_at (ordered b N)) p c (choice_at (ordered b N) c x) + key_at N v (choice_at (ordered b N)) c N.s (x - choice_at (ordered b N) c x)
      next = next_key (b ^ N.r) (weight b N.r) N (ordered_above b N some_node base) falls p c is_child hc x hx

-- ---- one join over figures

module _ (N : Net) (falls : Falls N.parent) (B : ℕ)
    (nodes : (c x k : ℕ) → c < N.s → x < 2 ^ N.r → N.node c x ≡ some k → k ≤ B)
    (links : (c x k : ℕ) → c < N.s → x < 2 ^ N.r → N.link c x ≡ some k → k ≤ B)
    (small : (2 * N.s - 1) * B ≤ limit)
    (p c : ℕ) (is_child : child N p c ≡ true) (hc : c < N.s) (row kid link : ℕ → ℕ)
    (hr : Holds (2 ^ N.r) (row_at N p c) row) (hk : Holds (2 ^ N.r) (row_at N c N.s) kid) (hl : Holds (2 ^ N.r) (N.link c) link)
    (b h : ℕ) (some_node : 0 < N.s) (base : N.s ≤ b) (more : 1 < b) (keys kid_keys : ℕ → Key)
    (own : (a : ℕ) → a < 2 ^ N.r → keys a ≡ key_parts b h N (choice_at (ordered b N)) p c a)
    (kids : (a : ℕ) → a < 2 ^ N.r → kid_keys a ≡ key_parts b h N (choice_at (ordered b N)) c N.s a) (x : ℕ) (hx : x < 2 ^ N.r) where
  -- The subset chosen, where ties are settled by keys, is the entry of the ordered net's table.
  pub next_choice : (best_split (by_key keys kid_keys x) row kid link x).chosen ≡ choice_at (ordered b N) c x
  unfolding choice_at
  next_choice =
      best_winner row kid link x (split_fits N falls B nodes links small p c is_child hc row kid link hr hk hl x hx) (b ^ N.r) (split_number (b ^ N.r) (weight b N.r) N p c x)
      (λ a s. split_small N (choice_at (ordered b N)) falls p c is_child hc x hx a s (b ^ N.r) (weight b N.r) above)
      (by_key keys kid_keys x) (key_order b h N falls some_node base more p c is_child hc keys kid_keys own kids x hx)
      ∙ winner_ext _ _ x (λ a s.
      ap (λ (f : Cost). with_key (b ^ N.r) f (split_number (b ^ N.r) (weight b N.r) N p c x a)) (split_read N falls B nodes links small p c is_child hc row kid link hr hk hl x hx a s)
      ∙ split_keyed (b ^ N.r) (weight b N.r) N above falls p c is_child hc x hx a s
      ∙ ap (λ (v : ℕ). split_charge (row_at (ordered b N) v c) (row_at (ordered b N) c N.s) ((ordered b N).link c) x a) (sym (child_parent N p c is_child).1))
    where
      above : Above (b ^ N.r) (weight b N.r) N
      above = ordered_above b N some_node base
