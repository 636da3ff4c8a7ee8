-- The placing that meets the least charge of the ordered net is the first of the cheapest placings, and there is only one.
use Rattle.std.proofs.Common.{◌≡◌, ℕ, ◌+◌, ◌*◌, ◌/◌, ◌^◌, ◌<◌, ◌≤◌, Bool, true, sym, refl, ap, ◌∙◌, subst, div-add-mod', arith}
use mathlib.Core.Path.{fun_ext}
use Rattle.subsets.specs.Inner.Masks.{full}
use Rattle.subsets.specs.Costs.{Cost, none, some}
use Rattle.subsets.specs.Inner.Totals.{Le}
use Rattle.subsets.specs.Inner.Net.{Falls, Net, charge, Sits, Least}
use Rattle.subsets.specs.Inner.Rows.{row_at, choice_at}
use Rattle.subsets.specs.Inner.Back.{seat, Wins, Meets}
use Rattle.subsets.specs.Order.{NotAfter}
use Rattle.subsets.specs.Inner.Keys.{weight, key, high, low, ordered}
use Rattle.subsets.proofs.Sets.{has_full, full_lt}
use Rattle.subsets.proofs.Rows.{row_root}
use Rattle.subsets.proofs.Back.{seat_root, choice_wins}
use Rattle.subsets.proofs.Order.{number, number_same, number_first, first_number, key_lt, key_full}
use Rattle.subsets.proofs.KeyParts.{low_lt, high_lt}
use Rattle.subsets.proofs.Keys.{cost_part, key_part, Above, charge_some, row_cost, meets_parts, seat_keyed}

-- π is the first of the placings of all services on T at the charge f: it has that charge, and it is not after any other that has it
pub record First (N : Net) (T : ℕ → Bool) (v : ℕ) (f : Cost) (π : ℕ → ℕ) : Type 0 where
  pub meets : Meets N T v (full N.r) f π
  pub first : (ρ : ℕ → ℕ) → Meets N T v (full N.r) f ρ → NotAfter N.r π ρ

-- two placings that are not after one another are the same
pub not_after_both : (b r : ℕ) (π ρ : ℕ → ℕ) → ((i : ℕ) → i < r → π i < b) → ((i : ℕ) → i < r → ρ i < b) → NotAfter r π ρ → NotAfter r ρ π
    → (i : ℕ) → i < r → π i ≡ ρ i
not_after_both b r π ρ hp hr p q =
    number_same b r π ρ hp hr (let e : number b r π ≡ number b r ρ = omega (arith, first_number b r π ρ hp hr p, first_number b r ρ π hr hp q) in e)

-- all services sit on nodes
sits_below : (N : Net) (T : ℕ → Bool) (π : ℕ → ℕ) → Sits N T (full N.r) π → (i : ℕ) → i < N.r → π i < N.s
sits_below N T π si i k = (si i k (has_full N.r i k)).1

-- There is one first placing.
pub first_unique : (N : Net) (T : ℕ → Bool) (v : ℕ) (f : Cost) (π ρ : ℕ → ℕ) → First N T v f π → First N T v f ρ → (i : ℕ) → i < N.r → π i ≡ ρ i
first_unique N T v f π ρ P Q =
    not_after_both N.s N.r π ρ (sits_below N T π P.meets.sits) (sits_below N T ρ Q.meets.sits) (P.first ρ Q.meets) (Q.first π P.meets)

module _ (b : ℕ) (N : Net) (some_node : 0 < N.s) (base : N.s ≤ b) where
  -- keys to a base no less than the number of nodes are below b^r
  pub ordered_above : Above (b ^ N.r) (weight b N.r) N
  ordered_above x π h = key_lt b N.r x π (omega arith) (λ i k e. omega (arith, h i k e))

  -- so are their low parts of h digits below b^h, and their high parts of the other g digits below b^g
  pub low_above : (h : ℕ) → 1 < b → Above (b ^ h) (low (b ^ h) (weight b N.r)) N
  low_above h z x π d = low_lt b N.r h x π z (λ i k e. omega (arith, d i k e))

  pub high_above : (h g : ℕ) → N.r ≤ g + h → Above (b ^ g) (high (b ^ h) (weight b N.r)) N
  high_above h g l x π d = high_lt b N.r h g x π (omega arith) l (λ i k e. omega (arith, d i k e))

  -- The placing that meets the least charge of the ordered net is the first at the least charge of the net.
  pub ordered_first : (T : ℕ → Bool) (v m : ℕ) (π : ℕ → ℕ) → Least (ordered b N) T v (full N.r) (some m) → Meets (ordered b N) T v (full N.r) (some m) π
      → First N T v (cost_part (b ^ N.r) (some m)) π
  unfolding Le cost_part key_part
  ordered_first T v m π L M = record {
    meets = record { sits = M.sits; cost = parts.0 };
    first = λ ρ R.
        number_first b N.r π ρ (λ i k. omega (arith, sits_below N T ρ R.sits i k))
        (let l = low ρ R in omega (arith, key_full b N.r π, key_full b N.r ρ));
  }
    where
      parts : (charge N T v (full N.r) π ≡ cost_part (b ^ N.r) (some m)) × (key N.r (weight b N.r) (full N.r) π ≡ key_part (b ^ N.r) (some m))
      parts = meets_parts (b ^ N.r) (weight b N.r) N ordered_above T v (full N.r) m π M

      low : (ρ : ℕ → ℕ) → Meets N T v (full N.r) (cost_part (b ^ N.r) (some m)) ρ
          → key N.r (weight b N.r) (full N.r) π ≤ key N.r (weight b N.r) (full N.r) ρ
      low ρ R =
          let k : ℕ = b ^ N.r in
          let e = charge_some (b ^ N.r) (weight b N.r) N ordered_above T v (full N.r) (m / k) ρ R.sits R.cost in
          let l : m ≤ m / k * k + key N.r (weight b N.r) (full N.r) ρ = subst (Le (some m)) e (L.low ρ R.sits) in
          omega (arith, div-add-mod' m k, parts.1)

  module _ (falls : Falls N.parent) where
    -- From a table of winners of the ordered net, the placing read back at the root is the first of the cheapest.
    pub seat_first : (choice : ℕ → ℕ → ℕ) → Wins (ordered b N) choice → (n : ℕ) → row_at N 0 N.s (full N.r) ≡ some n
        → First N (λ d. true) 0 (some n) (seat N choice 0 N.s (full N.r))
    unfolding cost_part
    seat_first choice wins n e = go (row_at (ordered b N) 0 N.s (full N.r)) refl
      where
        cost : row_at N 0 N.s (full N.r) ≡ cost_part (b ^ N.r) (row_at (ordered b N) 0 N.s (full N.r))
        cost = row_cost (b ^ N.r) (weight b N.r) N ordered_above falls 0 N.s (full N.r) some_node (omega arith) (full_lt N.r)

        go : (g : Cost) → row_at (ordered b N) 0 N.s (full N.r) ≡ g → First N (λ d. true) 0 (some n) (seat N choice 0 N.s (full N.r))
        go none q = absurd (let h : some n ≡ none = sym e ∙ cost ∙ ap (cost_part (b ^ N.r)) q in let z : ◌≡◌ {A = ℕ} 0 1 = cc in omega arith)
        go (some m) q =
            let L : Least (ordered b N) (λ d. true) 0 (full N.r) (some m) =
            subst (Least (ordered b N) (λ d. true) 0 (full N.r)) q (row_root (ordered b N) falls (full N.r) some_node (full_lt N.r)) in
            let M : Meets (ordered b N) (λ d. true) 0 (full N.r) (some m) (seat (ordered b N) choice 0 N.s (full N.r)) =
            subst (λ (f : Cost). Meets (ordered b N) (λ d. true) 0 (full N.r) f (seat (ordered b N) choice 0 N.s (full N.r))) q
            (seat_root (ordered b N) choice falls wins (full N.r) m some_node (full_lt N.r) q) in
            let h : cost_part (b ^ N.r) (some m) ≡ some n = sym (ap (cost_part (b ^ N.r)) q) ∙ sym cost ∙ e in
            let same : seat (ordered b N) choice 0 N.s (full N.r) ≡ seat N choice 0 N.s (full N.r) =
            fun_ext (λ i. seat_keyed (b ^ N.r) (weight b N.r) N choice 0 N.s (full N.r) i) in
            subst (First N (λ d. true) 0 (some n)) same
            (subst (λ (f : Cost). First N (λ d. true) 0 f (seat (ordered b N) choice 0 N.s (full N.r))) h
            (ordered_first (λ d. true) 0 m (seat (ordered b N) choice 0 N.s (full N.r)) L M))

    -- So it is from the table of the ordered net's own winners.
    pub choice_first : (n : ℕ) → row_at N 0 N.s (full N.r) ≡ some n → First N (λ d. true) 0 (some n) (seat N (choice_at (ordered b N)) 0 N.s (full N.r))
    choice_first = seat_first (choice_at (ordered b N)) (choice_wins (ordered b N) falls)
