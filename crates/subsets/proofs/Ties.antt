-- What the fold over subsets finds where ties are settled by keys: its cost and the key of its choice are the least over splits of costs with keys,
-- and its choice is the winner there. So its cost is the least over splits, however ties are settled.
use Rattle.std.proofs.Common.{◌≡◌, ℕ, zero, suc, ◌+◌, ◌-◌, ◌*◌, ◌%◌, ◌^◌, ◌<◌, ◌≤◌, min, Bool, true, false, cond, ◌&&◌, ◌||◌, eqb, ltb, ◌⊎◌, sym, refl, ap, ◌∙◌, subst, inl, inr, mul-le-mul_right, mul-one, arith, ltb-false, ltb-true, le-ltb, lt-ltb, eqb-true, leb-true}
use mathlib.Core.Bool.{and-false}
use native.Mathlib.Decide.{dec_lt}
use lib.Bits.{bit_and, and_zero_l}
use borrow.Author.Tests.{eqb-false}
use Rattle.finite.proofs.Booleans.{clash, both_l, both_r, either, neither_l, neither_r}
use Rattle.subsets.specs.Inner.Masks.{within}
use Rattle.subsets.specs.Costs.{Cost, none, some, provided}
use Rattle.subsets.specs.Inner.Totals.{◌⊕◌, Le}
use Rattle.subsets.specs.Figures.{limit, is_cost, read, lesser_figure, weighing}
use Rattle.subsets.specs.Inner.Encoded.{nothing, figure}
use Rattle.subsets.specs.Inner.Splits.{least_subset, least_split, winner}
use Rattle.subsets.specs.Inner.Folds.{earlier, key_before, may_tie, is_tie, scan, start, best_split}
use Rattle.subsets.specs.Inner.Keys.{times}
use Rattle.subsets.specs.declared.Best.{Best}
use Rattle.subsets.specs.declared.Key.{Key}
use Rattle.subsets.proofs.Costs.{Le-refl, Le-trans, Le-none, Le-not, ⊕-zero}
use Rattle.subsets.proofs.Figures.{read_cost, read_none, read_sum, figure_read}
use Rattle.subsets.proofs.Sets.{Sub, sub_le}
use Rattle.subsets.proofs.Subsets.{subset_least, subset_ext, winner_is, winner_none}
use Rattle.subsets.proofs.Folds.{any_cost, try_at, lesser_le, costs, best_top}

-- ---- a tie by its sum in 64 bits

-- a sum of three costs does not wrap, and no other sum counts
pub tie_sum : (best placed rest link : ℕ) → (is_cost placed && (is_cost rest && is_cost link)) && may_tie best placed rest link ≡ is_tie best placed rest link
unfolding is_tie may_tie
tie_sum best placed rest link = go (is_cost placed) (is_cost rest) (is_cost link) refl refl refl
  where
    go : (a b d : Bool) → is_cost placed ≡ a → is_cost rest ≡ b → is_cost link ≡ d
        → (a && (b && d)) && eqb (((placed + rest) % 2 ^ 64 + link) % 2 ^ 64) best ≡ (a && (b && d)) && eqb (placed + rest + link) best
    go true true true p q t =
        let hp : placed ≤ limit = leb-true _ _ p in
        let hq : rest ≤ limit = leb-true _ _ q in
        let ht : link ≤ limit = leb-true _ _ t in
        ap (λ (n : ℕ). eqb n best) (let e : ((placed + rest) % 2 ^ 64 + link) % 2 ^ 64 ≡ placed + rest + link = omega arith in e)
    go true true false p q t = refl
    go true false d p q t = refl
    go false b d p q t = refl

-- so where the sum is not the best there is no tie
pub no_tie : (best placed rest link : ℕ) → may_tie best placed rest link ≡ false → is_tie best placed rest link ≡ false
no_tie best placed rest link e = sym (tie_sum best placed rest link) ∙ rw e (and-false (is_cost placed && (is_cost rest && is_cost link)))

-- ---- two numbers as one

-- pairs whose second numbers are below m are in the order of the numbers that they make
pair_less : (m h l i n : ℕ) → l < m → (h < i) ⊎ ((h ≡ i) × (l < n)) → h * m + l < i * m + n
pair_less m h l i n p (inl q) = omega (arith, mul-le-mul_right {m = suc h} {n = i} m q)
pair_less m h l i n p (inr q) = let z : h * m ≡ i * m = ap (λ (y : ℕ). y * m) q.0 in omega (arith, q.1)

-- the same with equality
pair_le : (m h l i n : ℕ) → l < m → (h < i) ⊎ ((h ≡ i) × (l ≤ n)) → h * m + l ≤ i * m + n
pair_le m h l i n p (inl q) = omega (arith, pair_less m h l i n p (inl q))
pair_le m h l i n p (inr q) = omega (arith, pair_less m h l i (suc n) p (inr (q.0, omega (arith, q.1))))

-- So a key is before another where its number is less.
pub before_number : (m : ℕ) (k l : Key) → k.low < m → l.low < m → key_before k l ≡ ltb (k.high * m + k.low) (l.high * m + l.low)
unfolding key_before
before_number m k l p q = go (ltb k.high l.high) refl (eqb k.high l.high) refl (ltb k.low l.low) refl
  where
    go : (t : Bool) → ltb k.high l.high ≡ t → (u : Bool) → eqb k.high l.high ≡ u → (v : Bool) → ltb k.low l.low ≡ v
        → t || (u && v) ≡ ltb (k.high * m + k.low) (l.high * m + l.low)
    go true e u f v g = sym (lt-ltb _ _ (pair_less m k.high k.low l.high l.low p (inl (ltb-true _ _ e))))
    go false e true f true g = sym (lt-ltb _ _ (pair_less m k.high k.low l.high l.low p (inr (eqb-true _ _ f, ltb-true _ _ g))))
    go false e true f false g = sym (le-ltb _ _ (pair_le m l.high l.low k.high k.low q (inr (sym (eqb-true _ _ f), ltb-false _ _ g))))
    go false e false f v g =
        let y : (k.high ≡ l.high → ⊥) = eqb-false _ _ f in
        sym (le-ltb _ _ (pair_le m l.high l.low k.high k.low q (inl (omega (arith, ltb-false k.high l.high e)))))

-- ---- the least of G over the subsets of x, found in falling order

-- what holds once the subsets from n on were looked at: v is the least of them and a the first that has it
record Found (G : ℕ → Cost) (x n : ℕ) (v : Cost) (a : ℕ) : Type 0 where
  low : (c : ℕ) → Sub c x → n ≤ c → Le v (G c)
  sub : Sub a x
  won : (m : ℕ) → v ≡ some m → G a ≡ v
  first : (m : ℕ) → v ≡ some m → (c : ℕ) → Sub c x → a < c → G c ≡ v → ⊥
  empty : v ≡ none → a ≡ 0

module _ (G : ℕ → Cost) (x : ℕ) where
  -- before any
  found_none : Found G x (suc x) none 0
  found_none = record {
    low = λ c s h. absurd (omega (arith, sub_le c x s));
    sub = and_zero_l x;
    won = λ m e. absurd (let z : ◌≡◌ {A = ℕ} 0 1 = cc in omega arith);
    first = λ m e. absurd (let z : ◌≡◌ {A = ℕ} 0 1 = cc in omega arith);
    empty = λ e. refl;
  }

  -- one that is less is taken
  found_take : (a m : ℕ) (v : Cost) (d : ℕ) → Found G x (suc a) v d → Sub a x → G a ≡ some m → (Le v (some m) → ⊥) → Found G x a (G a) a
  found_take a m v d T s e less = record {
    low = λ c t h. go c t h (eqb c a) refl;
    sub = s;
    won = λ n q. refl;
    first = λ n q c t h r. less (subst (Le v) (r ∙ e) (T.low c t h));
    empty = λ q. absurd (let z : ◌≡◌ {A = ℕ} 0 1 = cc in omega arith);
  }
    where
      go : (c : ℕ) → Sub c x → a ≤ c → (t : Bool) → eqb c a ≡ t → Le (G a) (G c)
      go c t h true q = rw (eqb-true c a q) (Le-refl (G a))
      go c t h false q =
          let z : (c ≡ a → ⊥) = eqb-false c a q in
          Le-trans _ _ _ (subst (λ (f : Cost). Le f v) (sym e) (Le-not v (some m) less)) (T.low c t (omega arith))

  -- any other is left
  found_keep : (a : ℕ) (v : Cost) (d : ℕ) → Found G x (suc a) v d → (Sub a x → Le v (G a)) → Found G x a v d
  found_keep a v d T h = record { low = λ c t l. go c t l (eqb c a) refl; sub = T.sub; won = T.won; first = T.first; empty = T.empty }
    where
      go : (c : ℕ) → Sub c x → a ≤ c → (t : Bool) → eqb c a ≡ t → Le v (G c)
      go c t l true q = let z : c ≡ a = eqb-true c a q in rw z (h (subst (λ (y : ℕ). Sub y x) z t))
      go c t l false q = let z : (c ≡ a → ⊥) = eqb-false c a q in T.low c t (omega arith)

  -- at the end v is the least
  found_least : (v : Cost) (a : ℕ) → Found G x 0 v a → v ≡ least_subset G x
  found_least v a T = subset_least G x v (λ c s. T.low c s (omega arith)) (λ n e. (a, T.sub, T.won n e))

  -- and the one found is the winner
  found_winner : (v : Cost) (a : ℕ) → Found G x 0 v a → a ≡ winner G x
  found_winner v a T = go v refl
    where
      go : (f : Cost) → v ≡ f → a ≡ winner G x
      go none e = T.empty e ∙ sym (winner_none G x (sym (found_least v a T) ∙ e))
      go (some n) e = sym (winner_is G x a n T.sub (sym (found_least v a T) ∙ e) (T.won n e ∙ e) (λ b s l q. T.first n e b s l (q ∙ sym e)))

-- ---- one weighing

module _ (best p q l : ℕ) where
  abbrev new : ℕ
  new = lesser_figure best p q l

  abbrev sum : Cost
  sum = read p ⊕ read q ⊕ read l

  -- the sum of three costs
  sum_some : is_cost p && (is_cost q && is_cost l) ≡ true → (sum ≡ some (p + q + l)) × (new ≡ min best (p + q + l)) × (is_tie best p q l ≡ eqb (p + q + l) best)
  unfolding lesser_figure is_tie provided
  sum_some e = (read_sum p q l true e, rw e, rw e)

  sum_none : is_cost p && (is_cost q && is_cost l) ≡ false → (sum ≡ none) × (new ≡ best) × (is_tie best p q l ≡ false)
  unfolding lesser_figure is_tie provided
  sum_none e = (read_sum p q l false e, rw e, rw e)

  -- a split that is chosen costs less than the best so far, or the same and it wins the tie
  weigh_taken : (low : Bool) → (low && is_tie best p q l) || ltb new best ≡ true → (sum ≡ some new) × ((new < best) ⊎ ((new ≡ best) × (low ≡ true)))
  weigh_taken low h = go (is_cost p && (is_cost q && is_cost l)) refl
    where
      go : (t : Bool) → is_cost p && (is_cost q && is_cost l) ≡ t → (sum ≡ some new) × ((new < best) ⊎ ((new ≡ best) × (low ≡ true)))
      go true e =
          let s = sum_some e in
          at (either (low && is_tie best p q l) (ltb new best) h) s.0 s.1 s.2
        where
          at : (low && is_tie best p q l ≡ true) ⊎ (ltb new best ≡ true) → sum ≡ some (p + q + l) → new ≡ min best (p + q + l) → is_tie best p q l ≡ eqb (p + q + l) best
              → (sum ≡ some new) × ((new < best) ⊎ ((new ≡ best) × (low ≡ true)))
          at (inl f) s m t =
              let z : p + q + l ≡ best = eqb-true _ _ (sym t ∙ both_r low (is_tie best p q l) f) in
              let y : new ≡ best = omega arith in
              (s ∙ ap some (z ∙ sym y), inr (y, both_l low (is_tie best p q l) f))
          at (inr f) s m t =
              let z : new < best = ltb-true _ _ f in
              (s ∙ ap some (let y : p + q + l ≡ new = omega arith in y), inl z)
      go false e = let s = sum_none e in absurd (at (either (low && is_tie best p q l) (ltb new best) h) s.1 s.2)
        where
          at : (low && is_tie best p q l ≡ true) ⊎ (ltb new best ≡ true) → new ≡ best → is_tie best p q l ≡ false → ⊥
          at (inl f) m t = clash (sym (both_r low (is_tie best p q l) f) ∙ t)
          at (inr f) m t = omega (arith, ltb-true new best f)

  -- one that is not leaves the best, and costs more, or the same and it loses the tie
  weigh_kept : (low : Bool) → (low && is_tie best p q l) || ltb new best ≡ false
      → (new ≡ best) × ((n : ℕ) → sum ≡ some n → (best < n) ⊎ ((best ≡ n) × (low ≡ false)))
  weigh_kept low h = (same, λ n f. go n f (is_cost p && (is_cost q && is_cost l)) refl)
    where
      same : new ≡ best
      same = omega (arith, lesser_le best p q l, ltb-false new best (neither_r (low && is_tie best p q l) (ltb new best) h))

      lost : (low : Bool) → low && true ≡ false → low ≡ false
      lost true e = e
      lost false e = refl

      go : (n : ℕ) → sum ≡ some n → (t : Bool) → is_cost p && (is_cost q && is_cost l) ≡ t → (best < n) ⊎ ((best ≡ n) × (low ≡ false))
      go n f true e =
          let s = sum_some e in
          let z : p + q + l ≡ n = cc s.0 in
          at z s.1 (eqb (p + q + l) best) refl s.2
        where
          at : p + q + l ≡ n → new ≡ min best (p + q + l) → (t : Bool) → eqb (p + q + l) best ≡ t → is_tie best p q l ≡ eqb (p + q + l) best → (best < n) ⊎ ((best ≡ n) × (low ≡ false))
          at z m true g i =
              inr (
                let y : p + q + l ≡ best = eqb-true _ _ g in omega arith,
                lost low (ap (λ (t : Bool). low && t) (sym (i ∙ g)) ∙ neither_l (low && is_tie best p q l) (ltb new best) h),
              )
          at z m false g i = inl (let y : (p + q + l ≡ best → ⊥) = eqb-false _ _ g in omega (arith, same))
      go n f false e = absurd (let s = sum_none e in let z : ◌≡◌ {A = ℕ} 0 1 = cc s.0 in omega arith)

-- ---- all of them

-- a cost with a key
abbrev pub with_key : ℕ → Cost → ℕ → Cost
with_key k f κ = times k f ⊕ some κ

with_key_none : (k κ : ℕ) → with_key k none κ ≡ none
unfolding times ◌⊕◌
with_key_none k κ = refl

with_key_some : (k n κ : ℕ) → with_key k (some n) κ ≡ some (n * k + κ)
unfolding times ◌⊕◌
with_key_some k n κ = refl

-- every sum of three costs, one for each split of x, is at most the limit
abbrev pub Fits : (ℕ → ℕ) → (ℕ → ℕ) → (ℕ → ℕ) → ℕ → Type 0
Fits row child link x = (a n : ℕ) → Sub a x → costs row child link x a ≡ some n → n ≤ limit

module _ (row child link : ℕ → ℕ) (x : ℕ) (fits : Fits row child link x) (k : ℕ) (keys : ℕ → ℕ) (small : (a : ℕ) → Sub a x → keys a < k)
    (lower : ℕ → ℕ → Bool) (order : (a d : ℕ) → Sub a x → Sub d x → lower a d ≡ ltb (keys a) (keys d)) where
  abbrev F : ℕ → Cost
  F = costs row child link x

  abbrev G : ℕ → Cost
  G a = with_key k (costs row child link x a) (keys a)

  -- a cost found, with the key of the split that has it
  abbrev H : ℕ → ℕ → Cost
  H cost a = with_key k (read cost) (keys a)

  abbrev State : ℕ → ℕ → ℕ → Type 0
  State n cost a = Found G x n (H cost a) a

  -- it is a number where the cost is one, and else none
  cost_some : (cost a : ℕ) → cost ≤ limit → H cost a ≡ some (cost * k + keys a)
  cost_some cost a h = ap (λ (f : Cost). with_key k f (keys a)) (read_cost cost h) ∙ with_key_some k cost (keys a)

  cost_none : (cost a : ℕ) → limit < cost → H cost a ≡ none
  cost_none cost a h = ap (λ (f : Cost). with_key k f (keys a)) (read_none cost h) ∙ with_key_none k (keys a)

  -- so is a split
  split_some : (a n : ℕ) → F a ≡ some n → G a ≡ some (n * k + keys a)
  split_some a n e = ap (λ (f : Cost). with_key k f (keys a)) e ∙ with_key_some k n (keys a)

  -- a split that costs less, or the same by a lower key, is taken
  take : (a cost d n : ℕ) → Sub a x → F a ≡ some n → (n < cost) ⊎ ((n ≡ cost) × (keys a < keys d)) → State (suc a) cost d → State a n a
  unfolding Le
  take a cost d n s e h T =
      subst (λ (f : Cost). Found G x a f a) (split_some a n e ∙ sym (cost_some n a (fits a n s e)))
      (found_take G x a (n * k + keys a) (H cost d) d T s (split_some a n e) (less (dec_lt limit cost)))
    where
      less : Dec (limit < cost) → Le (H cost d) (some (n * k + keys a)) → ⊥
      less (yes l) u = subst (λ (f : Cost). Le f (some (n * k + keys a))) (cost_none cost d l) u
      less (no l) u =
          let z : cost * k + keys d ≤ n * k + keys a = subst (λ (f : Cost). Le f (some (n * k + keys a))) (cost_some cost d (omega arith)) u in
          omega (arith, pair_less k n (keys a) cost (keys d) (small a s) h)

  -- one that costs more, or the same by no lower a key, is left
  keep : (a cost d : ℕ) → Sub a x → ((n : ℕ) → F a ≡ some n → (cost < n) ⊎ ((cost ≡ n) × (keys d ≤ keys a))) → State (suc a) cost d → State a cost d
  unfolding Le
  keep a cost d s h T = found_keep G x a (H cost d) d T (λ t. go (F a) refl)
    where
      under : (n : ℕ) → n ≤ limit → (cost < n) ⊎ ((cost ≡ n) × (keys d ≤ keys a)) → Le (H cost d) (some (n * k + keys a))
      under n l u =
          subst (λ (f : Cost). Le f (some (n * k + keys a))) (sym (cost_some cost d (at u)))
          (pair_le k cost (keys d) n (keys a) (small d T.sub) u)
        where
          at : (cost < n) ⊎ ((cost ≡ n) × (keys d ≤ keys a)) → cost ≤ limit
          at (inl u) = omega arith
          at (inr u) = omega (arith, u.0)

      go : (f : Cost) → F a ≡ f → Le (H cost d) (G a)
      go none e = subst (Le (H cost d)) (sym (ap (λ (f : Cost). with_key k f (keys a)) e ∙ with_key_none k (keys a))) (Le-none (H cost d))
      go (some n) e = subst (Le (H cost d)) (sym (split_some a n e)) (under n (fits a n s e) (h n e))

  -- that is what a try does
  try_state : (a : ℕ) (b : Best) → Sub a x → State (suc a) b.cost b.chosen
      → State a (try_at lower row child link x b a).cost (try_at lower row child link x b a).chosen
  unfolding weighing
  try_state a b s T = go ((lower a b.chosen && is_tie b.cost p q l) || ltb n b.cost) refl
    where
      p : ℕ
      p = row a

      q : ℕ
      q = child (x - a)

      l : ℕ
      l = link (x - a)

      n : ℕ
      n = lesser_figure b.cost p q l

      wins : (n < b.cost) ⊎ ((n ≡ b.cost) × (lower a b.chosen ≡ true)) → (n < b.cost) ⊎ ((n ≡ b.cost) × (keys a < keys b.chosen))
      wins (inl h) = inl h
      wins (inr h) = inr (h.0, ltb-true _ _ (sym (order a b.chosen s T.sub) ∙ h.1))

      loses : (m : ℕ) → (b.cost < m) ⊎ ((b.cost ≡ m) × (lower a b.chosen ≡ false)) → (b.cost < m) ⊎ ((b.cost ≡ m) × (keys b.chosen ≤ keys a))
      loses m (inl h) = inl h
      loses m (inr h) = inr (h.0, ltb-false _ _ (sym (order a b.chosen s T.sub) ∙ h.1))

      go : (t : Bool) → (lower a b.chosen && is_tie b.cost p q l) || ltb n b.cost ≡ t → State a n (cond t a b.chosen)
      go true e = let w = weigh_taken b.cost p q l (lower a b.chosen) e in take a b.cost b.chosen n s w.0 (wins w.1) T
      go false e =
          let w = weigh_kept b.cost p q l (lower a b.chosen) e in
          subst (λ (y : ℕ). State a y b.chosen) (sym w.0) (keep a b.cost b.chosen s (λ m f. loses m (w.1 m f)) T)

  -- and so on down to the empty set
  scan_state : (n : ℕ) (b : Best) → State n b.cost b.chosen → State 0 (scan lower row child link x n b).cost (scan lower row child link x n b).chosen
  unfolding scan
  scan_state zero b T = T
  scan_state (suc a) b T = scan_state a _ (go (within a x) refl)
    where
      go : (t : Bool) → within a x ≡ t → State a (cond t (try_at lower row child link x b a) b).cost (cond t (try_at lower row child link x b a) b).chosen
      go true e = try_state a b (eqb-true (bit_and a x) a e) T
      go false e = found_keep G x a (H b.cost b.chosen) b.chosen T (λ s. absurd (eqb-false (bit_and a x) a e s))

  done : State 0 (best_split lower row child link x).cost (best_split lower row child link x).chosen
  unfolding best_split
  done = scan_state (suc x) start (subst (λ (f : Cost). Found G x (suc x) f 0) (sym (cost_none nothing 0 (omega arith))) (found_none G x))

  -- The best cost, read as a figure and with the key of the choice, is the least over splits of costs with keys.
  pub best_keyed : with_key k (read (best_split lower row child link x).cost) (keys (best_split lower row child link x).chosen) ≡ least_subset G x
  best_keyed = found_least G x _ _ done

  -- The choice is the winner among them.
  pub best_winner : (best_split lower row child link x).chosen ≡ winner G x
  best_winner = found_winner G x _ _ done

-- ---- however ties are settled

-- a key of no size adds nothing
with_key_plain : (f : Cost) → with_key 1 f 0 ≡ f
unfolding times
with_key_plain none = ⊕-zero none
with_key_plain (some n) = ⊕-zero (some (n * 1)) ∙ ap some (mul-one n)

module _ (row child link : ℕ → ℕ) (x : ℕ) (fits : Fits row child link x) (lower : ℕ → ℕ → Bool) where
  -- The cost, read as a figure, is the least over splits.
  pub best_least : read (best_split lower row child link x).cost ≡ least_split (λ a. read (row a)) (λ a. read (child a)) (λ a. read (link a)) x
  best_least =
      ap read (any_cost lower earlier row child link x) ∙ sym (with_key_plain _)
      ∙ best_keyed row child link x fits 1 (λ a. 0) (λ a s. omega arith) earlier (λ a d s t. refl)
      ∙ subset_ext _ _ x (λ a s. with_key_plain (costs row child link x a))

  -- So the number itself is the figure of the least.
  pub best_figure : (best_split lower row child link x).cost ≡ figure (least_split (λ a. read (row a)) (λ a. read (child a)) (λ a. read (link a)) x)
  best_figure = sym (ap figure (sym best_least) ∙ figure_read (best_split lower row child link x).cost (best_top lower row child link x))
