-- The keyed net: a placing's charge is its charge in the net, k times over, and its key. So a row of it holds the row of the net and a key.
use Rattle.std.proofs.Common.{◌≡◌, ℕ, zero, suc, ◌+◌, ◌*◌, ◌/◌, ◌%◌, ◌^◌, ◌<◌, ◌≤◌, Bool, true, false, not, ◌&&◌, eqb, sym, refl, ap, ◌∙◌, subst, ap₂, mul-le-mul_right, mod-lt, add-mul, div-add-mod', arith, eq-eqb, ne_eqb, eqb-true}
use native.Mathlib.Decide.{dec_lt}
use lib.Arith.{digits_div, digits_mod}
use borrow.Author.Tests.{eqb-false}
use Rattle.finite.specs.Below.{only, sum_below}
use Rattle.finite.proofs.Sums.{sum_ext, sum_mul, sum_swap, sum_one, sum_zero, only_ext}
use Rattle.subsets.specs.Sets.{has}
use Rattle.subsets.specs.Costs.{Cost, none, some}
use Rattle.subsets.specs.Inner.Totals.{◌⊕◌, Le, total_below, charged}
use Rattle.subsets.specs.Inner.Net.{Falls, Net, on, below, charge, Sits, Least}
use Rattle.subsets.specs.Tree.{part}
use Rattle.subsets.specs.Inner.Rows.{row_at}
use Rattle.subsets.specs.Inner.Back.{seat, Wins, Meets}
use Rattle.subsets.specs.Inner.Keys.{key, times, keyed}
use Rattle.subsets.proofs.Costs.{⊕-assoc, ⊕-comm, ⊕-parts, total_ext, total_add}
use Rattle.subsets.proofs.Sets.{has_keep}
use Rattle.subsets.proofs.Rows.{row_least}
use Rattle.subsets.proofs.Back.{seat_bare, seat_meets}

-- the cost in a charge that carries a key below k
unfoldable pub cost_part : ℕ → Cost → Cost
cost_part k none = none
cost_part k (some m) = some (m / k)

-- and the key in it
unfoldable pub key_part : ℕ → Cost → ℕ
key_part k none = 0
key_part k (some m) = m % k

-- ---- charges k times over

-- a sum k times over
pub times_add : (k : ℕ) (x y : Cost) → times k (x ⊕ y) ≡ times k x ⊕ times k y
unfolding times ◌⊕◌
times_add k none y = refl
times_add k (some a) none = refl
times_add k (some a) (some b) = ap some (add-mul a b k)

-- a total k times over
times_total : (k n : ℕ) (f : ℕ → Cost) → times k (total_below n f) ≡ total_below n (λ c. times k (f c))
unfolding total_below times
times_total k zero f = ap some (let q : 0 * k ≡ 0 = omega arith in q)
times_total k (suc n) f = times_add k (total_below n f) (f n) ∙ ap (λ (z : Cost). z ⊕ times k (f n)) (times_total k n f)

times_charged : (k : ℕ) (t : Bool) (x : Cost) → charged t (times k x) ≡ times k (charged t x)
unfolding charged times
times_charged k true x = refl
times_charged k false x = ap some (let q : 0 ≡ 0 * k = omega arith in q)

-- numbers alone
total_some : (n : ℕ) (f : ℕ → ℕ) → total_below n (λ c. some (f c)) ≡ some (sum_below n f)
unfolding total_below sum_below ◌⊕◌
total_some zero f = refl
total_some (suc n) f = ap (λ (z : Cost). z ⊕ some (f n)) (total_some n f)

-- a node's charge with its key
charged_key : (k : ℕ) (t : Bool) (x : Cost) (m : ℕ) → charged t (times k x ⊕ some m) ≡ times k (charged t x) ⊕ some (only t m)
unfolding charged times only ◌⊕◌
charged_key k true x m = refl
charged_key k false x m = ap some (let q : 0 ≡ 0 * k + 0 = omega arith in q)

-- ---- keys

-- a key depends on the placing at the services of the set alone
pub key_ext : (r : ℕ) (w : ℕ → ℕ) (x : ℕ) (π ρ : ℕ → ℕ) → ((i : ℕ) → i < r → has x i ≡ true → π i ≡ ρ i) → key r w x π ≡ key r w x ρ
unfolding key
key_ext r w x π ρ h = sum_ext r _ _ (λ i k. only_ext (has x i) _ _ (λ e. ap (λ (z : ℕ). z * w i) (h i k e)))

-- the key of a set on one node is that node × the weight of the set
pub key_own : (r : ℕ) (w : ℕ → ℕ) (x c : ℕ) → key r w x (λ i. c) ≡ key r w x (λ i. 1) * c
unfolding key only
key_own r w x c = sum_ext r _ _ (λ i k. go i (has x i)) ∙ sym (sum_mul r (λ i. only (has x i) (1 * w i)) c)
  where
    go : (i : ℕ) (t : Bool) → only t (c * w i) ≡ only t (1 * w i) * c
    go i true = omega arith
    go i false = omega arith

zero_in : (t : Bool) → only t 0 ≡ 0
unfolding only
zero_in true = refl
zero_in false = refl

-- the keys of the services on each node of a part sum to the key of the placing
keys_sum : (N : Net) (w : ℕ → ℕ) (T : ℕ → Bool) (x : ℕ) (π : ℕ → ℕ) → Sits N T x π
    → sum_below N.s (λ c. only (T c) (key N.r w (on N π x c) (λ i. c))) ≡ key N.r w x π
unfolding key only
keys_sum N w T x π sits =
    sum_ext N.s _ (λ c. sum_below N.r (λ i. only (T c) (only (has x i && eqb (π i) c) (c * w i)))) (λ c k. inside (T c) c)
    ∙ sum_swap N.s N.r (λ c i. only (T c) (only (has x i && eqb (π i) c) (c * w i)))
    ∙ sum_ext N.r _ _ (λ i k. one i k (has x i) refl)
  where
    inside : (t : Bool) (c : ℕ) → only t (sum_below N.r (λ i. only (has (on N π x c) i) (c * w i))) ≡ sum_below N.r (λ i. only t (only (has x i && eqb (π i) c) (c * w i)))
    inside true c = sum_ext N.r _ _ (λ i k. ap (λ (t : Bool). only t (c * w i)) (has_keep N.r (λ i. eqb (π i) c) x i k))
    inside false c = sym (sum_zero N.r _ (λ i k. refl))

    at : (i c : ℕ) → T (π i) ≡ true → (t : Bool) → eqb (π i) c ≡ t → only (T c) (only t (c * w i)) ≡ only (eqb c (π i)) (π i * w i)
    at i c h true e = let q : π i ≡ c = eqb-true (π i) c e in rw (sym q, h, eq-eqb (π i) (π i) refl)
    at i c h false e = let q : (π i ≡ c → ⊥) = eqb-false (π i) c e in rw (ne_eqb c (π i) (λ z. q (sym z))) (zero_in (T c))

    one : (i : ℕ) → i < N.r → (t : Bool) → has x i ≡ t → sum_below N.s (λ c. only (T c) (only (t && eqb (π i) c) (c * w i))) ≡ only t (π i * w i)
    one i k true e =
        let h : (T (π i) ≡ true) × (π i < N.s) = sits i k e in
        sum_ext N.s _ (λ c. only (eqb c (π i)) (π i * w i)) (λ c l. at i c h.0 (eqb (π i) c) refl) ∙ sum_one N.s (π i) (π i * w i) h.1
    one i k false e = sum_zero N.s _ (λ c l. zero_in (T c))

-- ---- the charge of a placing

-- In the keyed net a placing costs what it costs in the net, k times over, and its key.
pub charge_keyed : (k : ℕ) (w : ℕ → ℕ) (N : Net) (T : ℕ → Bool) (v x : ℕ) (π : ℕ → ℕ) → Sits N T x π
    → charge (keyed k w N) T v x π ≡ times k (charge N T v x π) ⊕ some (key N.r w x π)
unfolding charge
charge_keyed k w N T v x π sits =
    ap₂ ◌⊕◌
    (total_ext N.s _ _ (λ c l. charged_key k (T c) (N.node c (on N π x c)) _) ∙ total_add N.s _ _ ∙ ap₂ ◌⊕◌ (sym (times_total k N.s _)) (total_some N.s _))
    (total_ext N.s _ _ (λ c l. times_charged k (T c && not (eqb c v)) (N.link c (below N π x c))) ∙ sym (times_total k N.s _))
    ∙ shuffle _ _ _
    ∙ ap₂ ◌⊕◌ (sym (times_add k _ _)) (ap some (keys_sum N w T x π sits))
  where
    shuffle : (a b c : Cost) → (a ⊕ b) ⊕ c ≡ (a ⊕ c) ⊕ b
    shuffle a b c = ⊕-assoc a b c ∙ ap (λ (z : Cost). a ⊕ z) (⊕-comm b c) ∙ sym (⊕-assoc a c b)

-- ---- costs and keys in the keyed net

-- every key of a placing on the nodes is below k
abbrev pub Above : ℕ → (ℕ → ℕ) → Net → Type 0
Above k w N = (x : ℕ) (π : ℕ → ℕ) → ((i : ℕ) → i < N.r → has x i ≡ true → π i < N.s) → key N.r w x π < k

times_parts : (k : ℕ) (f : Cost) (a : ℕ) → times k f ≡ some a → (n : ℕ) × (f ≡ some n) × (a ≡ n * k)
unfolding times
times_parts k none a e = absurd (let z : ◌≡◌ {A = ℕ} 0 1 = cc in omega arith)
times_parts k (some n) a e = (n, refl, cc)

-- the parts of a charge with a key
pub parts_of : (k n κ : ℕ) → κ < k → (cost_part k (some (n * k + κ)) ≡ some n) × (key_part k (some (n * k + κ)) ≡ κ)
unfolding cost_part key_part
parts_of k n κ h = (ap some (digits_div n h), digits_mod n h)

-- a least of costs with keys is the least cost
quotient : (k n n₁ κ κ₁ : ℕ) → κ < k → κ₁ < k → n ≤ n₁ → n₁ * k + κ₁ ≤ n * k + κ → n₁ ≡ n
quotient k n n₁ κ κ₁ h h₁ l m = go (dec_lt n n₁)
  where
    go : Dec (n < n₁) → n₁ ≡ n
    go (yes q) = absurd (omega (arith, mul-le-mul_right {m = suc n} {n = n₁} k q))
    go (no q) = omega arith

module _ (k : ℕ) (w : ℕ → ℕ) (N : Net) (small : Above k w N) where
  -- a cost in the net is a cost in the keyed net
  pub charge_some : (T : ℕ → Bool) (v x n : ℕ) (π : ℕ → ℕ) → Sits N T x π → charge N T v x π ≡ some n
      → charge (keyed k w N) T v x π ≡ some (n * k + key N.r w x π)
  unfolding times ◌⊕◌
  charge_some T v x n π si e = charge_keyed k w N T v x π si ∙ ap (λ (f : Cost). times k f ⊕ some (key N.r w x π)) e

  -- and the other way round
  pub charge_parts : (T : ℕ → Bool) (v x m : ℕ) (π : ℕ → ℕ) → Sits N T x π → charge (keyed k w N) T v x π ≡ some m
      → (n : ℕ) × (charge N T v x π ≡ some n) × (m ≡ n * k + key N.r w x π)
  charge_parts T v x m π si e =
      let p = ⊕-parts (times k (charge N T v x π)) (some (key N.r w x π)) m (sym (charge_keyed k w N T v x π si) ∙ e) in
      let q = times_parts k (charge N T v x π) p.0 p.2 in
      (q.0, q.1, p.4 ∙ ap₂ ◌+◌ q.2 (let z : p.1 ≡ key N.r w x π = cc p.3 in z))

  sits_key : (T : ℕ → Bool) (x : ℕ) (π : ℕ → ℕ) → Sits N T x π → key N.r w x π < k
  sits_key T x π si = small x π (λ i l e. (si i l e).1)

  -- The least charge in the net is the cost in the least charge of the keyed net.
  pub least_cost : (T : ℕ → Bool) (v x : ℕ) (f g : Cost) → Least N T v x f → Least (keyed k w N) T v x g → f ≡ cost_part k g
  unfolding Le cost_part
  least_cost T v x none none L M = refl
  least_cost T v x (some n) none L M =
      let h = L.hit n refl in
      absurd (subst (Le none) (charge_some T v x n h.0 h.1 h.2) (M.low h.0 h.1))
  least_cost T v x none (some m) L M =
      let h = M.hit m refl in
      let p = charge_parts T v x m h.0 h.1 h.2 in
      absurd (subst (Le none) p.1 (L.low h.0 h.1))
  least_cost T v x (some n) (some m) L M =
      let h = L.hit n refl in
      let i = M.hit m refl in
      let p = charge_parts T v x m i.0 i.1 i.2 in
      let a : n ≤ p.0 = subst (Le (some n)) p.1 (L.low i.0 i.1) in
      let b : m ≤ n * k + key N.r w x h.0 = subst (Le (some m)) (charge_some T v x n h.0 h.1 h.2) (M.low h.0 h.1) in
      let c : p.0 * k + key N.r w x i.0 ≤ n * k + key N.r w x h.0 = omega (arith, p.2) in
      let d : p.0 ≡ n = quotient k n p.0 _ _ (sits_key T x h.0 h.1) (sits_key T x i.0 i.1) a c in
      ap some (sym (ap (λ (z : ℕ). z / k) p.2 ∙ digits_div p.0 (sits_key T x i.0 i.1) ∙ d))

  -- A placing that meets a charge of the keyed net has the cost in it and the key in it.
  pub meets_parts : (T : ℕ → Bool) (v x m : ℕ) (π : ℕ → ℕ) → Meets (keyed k w N) T v x (some m) π
      → (charge N T v x π ≡ cost_part k (some m)) × (key N.r w x π ≡ key_part k (some m))
  unfolding cost_part key_part
  meets_parts T v x m π M =
      let p = charge_parts T v x m π M.sits M.cost in
      let l = sits_key T x π M.sits in
      (p.1 ∙ ap some (sym (ap (λ (z : ℕ). z / k) p.2 ∙ digits_div p.0 l)), sym (ap (λ (z : ℕ). z % k) p.2 ∙ digits_mod p.0 l))

  module _ (falls : Falls N.parent) where
    -- The rows of the net are the costs in the rows of the keyed net.
    pub row_cost : (p j x : ℕ) → p < N.s → j ≤ N.s → x < 2 ^ N.r → row_at N p j x ≡ cost_part k (row_at (keyed k w N) p j x)
    row_cost p j x hp hj hx =
        least_cost (part N.parent p j) p x _ _ (row_least N falls p j x hp hj hx) (row_least (keyed k w N) falls p j x hp hj hx)

    -- So a row of the keyed net is the row of the net, k times over, and a key below k.
    pub row_parts : (p j x : ℕ) → p < N.s → j ≤ N.s → x < 2 ^ N.r
        → row_at (keyed k w N) p j x ≡ times k (row_at N p j x) ⊕ some (key_part k (row_at (keyed k w N) p j x))
    unfolding times ◌⊕◌ cost_part key_part
    row_parts p j x hp hj hx = go (row_at (keyed k w N) p j x) (row_at N p j x) (row_cost p j x hp hj hx)
      where
        go : (g f : Cost) → f ≡ cost_part k g → g ≡ times k f ⊕ some (key_part k g)
        go none f e = rw e
        go (some m) f e = rw e (ap some (sym (div-add-mod' m k)))

    -- From a table of winners of the keyed net, the key in a row is that of the placing read back.
    pub row_key : (choice : ℕ → ℕ → ℕ) → Wins (keyed k w N) choice → (p j x m : ℕ) → p < N.s → j ≤ N.s → x < 2 ^ N.r → row_at (keyed k w N) p j x ≡ some m
        → key_part k (row_at (keyed k w N) p j x) ≡ key N.r w x (seat (keyed k w N) choice p j x)
    row_key choice wins p j x m hp hj hx e =
        let M = seat_meets (keyed k w N) choice falls wins p j x m hp hj hx e in
        ap (key_part k) e
        ∙ sym (meets_parts (part N.parent p j) p x m _ (subst (λ (f : Cost). Meets (keyed k w N) (part N.parent p j) p x f (seat (keyed k w N) choice p j x)) e M)).1

-- a key is below k
pub key_part_lt : (k : ℕ) (g : Cost) → 0 < k → key_part k g < k
unfolding key_part
key_part_lt k none h = h
key_part_lt k (some m) h = mod-lt m h

-- ---- the placing read back

-- The walk down is the same in the keyed net.
pub seat_keyed : (k : ℕ) (w : ℕ → ℕ) (N : Net) (choice : ℕ → ℕ → ℕ) (p j x i : ℕ) → seat (keyed k w N) choice p j x i ≡ seat N choice p j x i
seat_keyed k w N = seat_bare (keyed k w N) N refl refl
