-- How large a figure can grow: where every single charge is at most B, a least charge that is a cost is at most (2s - 1) × B.
use Rattle.std.proofs.Common.{◌≡◌, ℕ, zero, suc, ◌+◌, ◌-◌, ◌*◌, ◌^◌, ◌<◌, ◌≤◌, Bool, true, false, not, ◌&&◌, eqb, sym, ap, ◌∙◌, subst, ap₂, add-mul, arith}
use Rattle.finite.specs.Below.{only, sum_below}
use Rattle.finite.proofs.Sums.{sum_le, sum_add, sum_one, only_le, only_both_r, only_not}
use Rattle.subsets.specs.Costs.{Cost, some}
use Rattle.subsets.specs.Inner.Totals.{◌⊕◌, charged, total_below}
use Rattle.subsets.specs.Inner.Net.{Falls}
use Rattle.subsets.specs.Tree.{under, before}
use Rattle.subsets.specs.Inner.Net.{Net, on, below, charge, Sits}
use Rattle.subsets.specs.Inner.Join.{joined}
use Rattle.subsets.specs.Inner.Splits.{split_charge}
use Rattle.subsets.specs.Inner.Rows.{child, row_at}
use Rattle.subsets.proofs.Costs.{⊕-parts}
use Rattle.subsets.proofs.Sets.{Sub, keep_lt, sub_le}
use Rattle.subsets.proofs.Rows.{child_parent, row_least, row_before, row_under}
use Rattle.subsets.proofs.Parts.{beside}
use Rattle.subsets.proofs.Join.{mix, mix_charge}

-- a sum of costs is at most the sum of their bounds
total_bound : (n : ℕ) (f : ℕ → Cost) (g : ℕ → ℕ) → ((d k : ℕ) → d < n → f d ≡ some k → k ≤ g d) → (m : ℕ) → total_below n f ≡ some m → m ≤ sum_below n g
unfolding total_below sum_below
total_bound zero f g h m e = omega (arith, (let q : m ≡ 0 = cc in q))
total_bound (suc n) f g h m e =
    let p = ⊕-parts (total_below n f) (f n) m e in
    omega (arith, total_bound n f g (λ d k l. h d k (omega arith)) p.0 p.2, h n p.1 (omega arith) p.3, p.4)

-- a charge where the test passes
charged_bound : (t : Bool) (x : Cost) (B : ℕ) → ((k : ℕ) → x ≡ some k → k ≤ B) → (k : ℕ) → charged t x ≡ some k → k ≤ only t B
unfolding charged only
charged_bound true x B h k e = h k e
charged_bound false x B h k e = omega (arith, (let q : k ≡ 0 = cc in q))

-- B at every place below n but one
all_but_one : (n v B : ℕ) → v < n → sum_below n (λ d. only (not (eqb d v)) B) + B ≤ n * B
all_but_one n v B h =
    omega (
      arith,
      sum_add n (λ d. only (not (eqb d v)) B) (λ d. only (eqb d v) B),
      sum_one n v B h,
      sum_le n B (λ d. only (not (eqb d v)) B + only (eqb d v) B) (λ d k. omega (arith, only_not (eqb d v) B)),
    )

twice_less : (s B m k : ℕ) → 0 < s → m ≤ s * B → k + B ≤ s * B → m + k ≤ (2 * s - 1) * B
twice_less zero B m k z p q = absurd (omega arith)
twice_less (suc s) B m k z p q =
    let e : (2 * suc s - 1) * B ≡ (suc s + s) * B = ap (λ (n : ℕ). n * B) (let q : 2 * suc s - 1 ≡ suc s + s = omega arith in q) in
    omega (arith, e, add-mul (suc s) s B)

module _ (N : Net) (B : ℕ)
    (nodes : (c x k : ℕ) → c < N.s → x < 2 ^ N.r → N.node c x ≡ some k → k ≤ B)
    (links : (c x k : ℕ) → c < N.s → x < 2 ^ N.r → N.link c x ≡ some k → k ≤ B) where
  -- the charge of any placing on any part, where it is a cost
  pub charge_bound : (T : ℕ → Bool) (v x n : ℕ) (π : ℕ → ℕ) → v < N.s → charge N T v x π ≡ some n → n ≤ (2 * N.s - 1) * B
  unfolding charge
  charge_bound T v x n π h e =
      let p = ⊕-parts _ _ n e in
      let a : p.0 ≤ sum_below N.s (λ c. B) =
      total_bound N.s _ (λ c. B) (λ c k l q. le (only_le (T c) B) (charged_bound (T c) _ B (λ j. nodes c (on N π x c) j l (keep_lt N.r _ x)) k q)) p.0 p.2 in
      let b : p.1 ≤ sum_below N.s (λ c. only (not (eqb c v)) B) =
      total_bound N.s _ (λ c. only (not (eqb c v)) B) (λ c k l q.
      le (only_both_r (T c) (not (eqb c v)) B) (charged_bound (T c && not (eqb c v)) _ B (λ j. links c (below N π x c) j l (keep_lt N.r _ x)) k q)) p.1 p.3 in
      omega (arith, twice_less N.s B p.0 p.1 (omega arith) (omega (arith, sum_le N.s B (λ c. B) (λ c k. omega arith))) (omega (arith, all_but_one N.s v B h)), p.4)
    where
      le : {i j k : ℕ} → i ≤ j → k ≤ i → k ≤ j
      le h g = omega arith

  -- every figure of every row that is a cost
  pub row_bound : Falls N.parent → (p k x n : ℕ) → p < N.s → k ≤ N.s → x < 2 ^ N.r → row_at N p k x ≡ some n → n ≤ (2 * N.s - 1) * B
  row_bound falls p k x n hp hk hx e =
      let h = (row_least N falls p k x hp hk hx).hit n e in
      charge_bound _ p x n h.0 hp (h.2 ∙ e)

  -- every split that a join weighs, where it is a cost: it is the charge of some placing
  pub split_bound : Falls N.parent → (p c x a n : ℕ) → child N p c ≡ true → c < N.s → x < 2 ^ N.r → Sub a x
      → split_charge (row_at N p c) (row_at N c N.s) (N.link c) x a ≡ some n → n ≤ (2 * N.s - 1) * B
  split_bound falls p c x a n q l hx sa e =
      let w = child_parent N p c q in
      at w.0 (subst (λ (p : ℕ). split_charge (row_at N p c) (row_at N c N.s) (N.link c) x a ≡ some n) (sym w.1) e)
    where
      at : 0 < c → split_charge (row_at N (N.parent c) c) (row_at N c N.s) (N.link c) x a ≡ some n → n ≤ (2 * N.s - 1) * B
      at z e =
          let s = ⊕-parts (row_at N (N.parent c) c a ⊕ row_at N c N.s (x - a)) (N.link c (x - a)) n e in
          let t = ⊕-parts (row_at N (N.parent c) c a) (row_at N c N.s (x - a)) s.0 s.2 in
          met z ((row_before N falls c a z l (omega (arith, sub_le a x sa))).hit t.0 t.2) ((row_under N falls c (x - a) l (omega arith)).hit t.1 t.3) e
        where
          met : 0 < c → (π : ℕ → ℕ) × Sits N (before N.parent c) a π × (charge N (before N.parent c) (N.parent c) a π ≡ row_at N (N.parent c) c a)
              → (π : ℕ → ℕ) × Sits N (under N.parent c) (x - a) π × (charge N (under N.parent c) c (x - a) π ≡ row_at N c N.s (x - a))
              → split_charge (row_at N (N.parent c) c) (row_at N c N.s) (N.link c) x a ≡ some n → n ≤ (2 * N.s - 1) * B
          met z P Q e =
              charge_bound (joined N (before N.parent c) c) (N.parent c) x n (mix a P.0 Q.0) (omega (arith, falls c z))
              (mix_charge N falls (before N.parent c) (N.parent c) c (beside N falls c z l) x hx a sa P.0 Q.0 P.1 Q.1
              ∙ ap₂ (λ (y z : Cost). (y ⊕ z) ⊕ N.link c (x - a)) P.2 Q.2 ∙ e)
