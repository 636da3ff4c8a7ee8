-- The first of the cheapest plans: the plan found by trying all in order, the plan first by its laws, and the placing read back from the winners of the ordered net are the same.
use Prim.Native.Nat.{ℕ, zero, suc, ◌+◌, ◌-◌, ◌*◌, ◌/◌, ◌%◌, ◌^◌, ◌≤◌, ◌<◌}
use native.Mathlib.Nat.{pow-zero, pow-suc, div-add-mod', div-lt_iff_lt-mul}
use native.Mathlib.Omega.{arith}
use mathlib.Core.Logic.{◌↔◌}
use mathlib.Core.Path.{◌≡◌, refl, sym, ap, ap₂, ◌∙◌, subst}
use mathlib.Core.Bool.{Bool, true, false}
use mathlib.Core.List.{List}
use lib.ListN.{length, get_or}
use lib.Seq.{ext_get_or}
use borrow.Author.Tests.{eqb-true, eq-eqb}
use Rattle.subsets.specs.Order.{NotAfter}
use Rattle.subsets.specs.Costs.{Cost, none, some}
use Rattle.subsets.specs.Inner.Masks.{full}
use Rattle.subsets.specs.Inner.Totals.{Le}
use Rattle.subsets.specs.Inner.Rows.{row_at, choice_at}
use Rattle.subsets.specs.Inner.Back.{seat, Wins}
use Rattle.subsets.specs.Inner.Keys.{ordered}
use Rattle.subsets.proofs.Order.{number, number_ext, number_lt, number_same, number_first}
use Rattle.subsets.proofs.First as placings
use Rattle.subsets.proofs.First.{not_after_both, seat_first}
use Rattle.subsets.proofs.Sets.{has_full, full_lt}
use Rattle.subsets.proofs.Rows.{row_root}
use Rattle.subsets.proofs.Back.{choice_wins, seat_ext}
use Rattle.subsets.proofs.Costs.{least_met}
use Rattle.subsets.proofs.Provided.{provided_some}
use Rattle.finite.proofs.Booleans.{clash, both, both_l, both_r}
use Rattle.sheet.specs.Instance.{Instance, WellFormed}
use Rattle.embedding.specs.Definition1.{Feasible, cost}
use Rattle.embedding.specs.Limits.{Limits}
use Rattle.embedding.specs.Road.{road}
use Rattle.embedding.specs.Plan.{digit, in_range, valid, plan_cost, worth, cheapest}
use Rattle.embedding.specs.First.{nth_plan, first_from, equals, places, is_cheapest, first_number, first_plan}
use Rattle.embedding.specs.Inner.Charge.{net}
use Rattle.embedding.proofs.Digits.{digit_lt}
use Rattle.embedding.proofs.Mappings.{InRange, range_test, plan_iff_mapping}
use Rattle.embedding.proofs.Services.{worth_ext}
use Rattle.embedding.proofs.Charges.{everywhere, charges}
use Rattle.embedding.proofs.Cheapest.{cheapest_low, cheapest_least}

-- the plan π is valid, no valid plan costs less, and it is not after any valid plan that costs the same
pub record First (I : Instance) (π : ℕ → ℕ) : Type 0 where
  pub keeps : valid I π ≡ true
  pub cheapest : (ρ : ℕ → ℕ) → valid I ρ ≡ true → plan_cost I π ≤ plan_cost I ρ
  pub first : (ρ : ℕ → ℕ) → valid I ρ ≡ true → plan_cost I ρ ≡ plan_cost I π → NotAfter I.r π ρ

-- ---- plans as lists

-- the list has an entry for each service
pub places_length : (r : ℕ) (π : ℕ → ℕ) → length (places r π) ≡ r
unfolding places
places_length zero π = refl
places_length (suc r) π = ap suc (places_length r (λ i. π (suc i)))

-- the entry of a service is its cabinet
pub places_at : (r : ℕ) (π : ℕ → ℕ) (i : ℕ) → i < r → get_or (places r π) i 0 ≡ π i
unfolding places
places_at zero π i h = absurd (omega arith)
places_at (suc r) π zero h = refl
places_at (suc r) π (suc i) h = places_at r (λ i. π (suc i)) i (omega arith)

-- any other list with these entries is the same list
pub places_only : (r : ℕ) (π : ℕ → ℕ) (l : List ℕ) → length l ≡ r → ((i : ℕ) → i < r → get_or l i 0 ≡ π i) → l ≡ places r π
places_only r π l e h = ext_get_or 0 l (places r π) (e ∙ sym (places_length r π)) (λ i k. let j : i < r = omega (arith, e) in h i j ∙ sym (places_at r π i j))

-- plans with the same cabinets have the same list
pub places_ext : (r : ℕ) (π ρ : ℕ → ℕ) → ((i : ℕ) → i < r → π i ≡ ρ i) → places r π ≡ places r ρ
places_ext r π ρ h = places_only r ρ (places r π) (places_length r π) (λ i k. places_at r π i k ∙ h i k)

-- ---- plans by number

-- every service has a cabinet
pub nth_lt : (s r n i : ℕ) → 0 < s → nth_plan s r n i < s
unfolding nth_plan
nth_lt s r n i h = digit_lt s n (r - 1 - i) h

-- with one service more, the services before it have the plan numbered n / s
nth_next : (s r n i : ℕ) → i < r → nth_plan s (suc r) n i ≡ nth_plan s r (n / s) i
unfolding nth_plan digit
nth_next s r n i h = ap (digit s n) (let q : suc r - 1 - i ≡ suc (r - 1 - i) = omega arith in q)

-- and it has the last digit
nth_last : (s r n : ℕ) → nth_plan s (suc r) n r ≡ n % s
unfolding nth_plan digit
nth_last s r n = ap (digit s n) (let q : suc r - 1 - r ≡ 0 = omega arith in q)

-- the plan numbered n has the number n
pub number_nth : (s r n : ℕ) → 0 < s → n < s ^ r → number s r (nth_plan s r n) ≡ n
unfolding number
number_nth s zero n z h = omega (arith, pow-zero s)
number_nth s (suc r) n z h =
    ap₂ (λ (a b : ℕ). a * s + b)
    (number_ext s r _ _ (λ i k. nth_next s r n i k) ∙ number_nth s r (n / s) z ((div-lt_iff_lt-mul z).1 (subst (λ (m : ℕ). n < m) (pow-suc s r) h)))
    (nth_last s r n)
    ∙ div-add-mod' n s

-- and the plan of a plan's number is that plan
pub nth_number : (s r : ℕ) (π : ℕ → ℕ) → 0 < s → ((i : ℕ) → i < r → π i < s) → (i : ℕ) → i < r → nth_plan s r (number s r π) i ≡ π i
nth_number s r π z h = number_same s r _ π (λ i k. nth_lt s r (number s r π) i z) h (number_nth s r (number s r π) z (number_lt s r π h))

-- ---- the first number that passes a test

-- where some number passes, the first one is no greater, and it passes
pub first_from_is : (n a : ℕ) (p : ℕ → Bool) (d : ℕ) → a ≤ d → d < a + n → p d ≡ true → (first_from n a p ≤ d) × (p (first_from n a p) ≡ true)
unfolding first_from
first_from_is zero a p d h k e = absurd (omega arith)
first_from_is (suc n) a p d h k e = go (p a) refl (λ l. first_from_is n (suc a) p d l (omega arith) e)
  where
    go : (t : Bool) → p a ≡ t → (suc a ≤ d → (first_from n (suc a) p ≤ d) × (p (first_from n (suc a) p) ≡ true)) → (first_from (suc n) a p ≤ d) × (p (first_from (suc n) a p) ≡ true)
    go true q ih = rw (q, first_from) (h, q)
    go false q ih = rw (q, first_from) (ih (let z : (d ≡ a → ⊥) = λ r. clash (sym e ∙ ap p r ∙ q) in omega arith))

-- the number n is the cost k exactly when the two are the same
equals_some : (n k : ℕ) → (equals n (some k) ≡ true) ↔ (n ≡ k)
unfolding equals
equals_some n k = (eqb-true n k, eq-eqb n k)

module _ (I : Instance) (W : WellFormed I) where
  -- there is a cabinet
  some_cabinet : 0 < I.s
  some_cabinet = omega (arith, W.some_cabinet)

  -- a valid plan gives every service a cabinet of the road
  valid_range : (π : ℕ → ℕ) → valid I π ≡ true → InRange I π
  unfolding valid
  valid_range π h = (range_test I π).0 (both_l (in_range I π) _ h)

  -- a plan is worth k exactly when it is valid at cost k
  worth_iff : (π : ℕ → ℕ) (k : ℕ) → (worth I π ≡ some k) ↔ ((valid I π ≡ true) × (plan_cost I π ≡ k))
  unfolding worth
  worth_iff π k = provided_some (valid I π) (plan_cost I π) k

  -- no valid plan costs less than the cheapest
  low : (k : ℕ) → cheapest I ≡ some k → (ρ : ℕ → ℕ) → valid I ρ ≡ true → k ≤ plan_cost I ρ
  unfolding Le
  low k e ρ h =
      subst (λ (f : Cost). Le f (some (plan_cost I ρ))) e
      (subst (Le (cheapest I)) ((worth_iff ρ (plan_cost I ρ)).1 (h, refl)) (cheapest_low I W ρ (valid_range ρ h)))

  -- There is one first plan.
  pub first_unique : (π ρ : ℕ → ℕ) → First I π → First I ρ → (i : ℕ) → i < I.r → π i ≡ ρ i
  first_unique π ρ P Q =
      let e : plan_cost I π ≡ plan_cost I ρ = omega (arith, P.cheapest ρ Q.keeps, Q.cheapest π P.keeps) in
      not_after_both I.s I.r π ρ (valid_range π P.keeps) (valid_range ρ Q.keeps) (P.first ρ Q.keeps (sym e)) (Q.first π P.keeps e)

  -- ---- all plans tried in order

  -- a plan is a cheapest one exactly when it is valid at the least cost
  pub cheapest_iff : (k : ℕ) → cheapest I ≡ some k → (π : ℕ → ℕ) → (is_cheapest I π ≡ true) ↔ ((valid I π ≡ true) × (plan_cost I π ≡ k))
  unfolding is_cheapest
  cheapest_iff k e π = (
    λ h. (both_l (valid I π) _ h, (equals_some (plan_cost I π) k).0 (subst (λ (f : Cost). equals (plan_cost I π) f ≡ true) e (both_r (valid I π) _ h))),
    λ h. both (valid I π) _ h.0 (subst (λ (f : Cost). equals (plan_cost I π) f ≡ true) (sym e) ((equals_some (plan_cost I π) k).1 h.1)),
  )

  -- the plan of a cheapest plan's number is a cheapest plan
  test_in : (k : ℕ) → cheapest I ≡ some k → (ρ : ℕ → ℕ) → valid I ρ ≡ true → plan_cost I ρ ≡ k
      → is_cheapest I (nth_plan I.s I.r (number I.s I.r ρ)) ≡ true
  test_in k e ρ h c =
      (cheapest_iff k e _).1
      ((worth_iff _ k).0 (worth_ext I W _ ρ (nth_number I.s I.r ρ some_cabinet (valid_range ρ h)) ∙ (worth_iff ρ k).1 (h, c)))

  -- the first number of a cheapest plan is no greater than the number of any, and its plan is one
  first_at : (k : ℕ) → cheapest I ≡ some k → (ρ : ℕ → ℕ) → valid I ρ ≡ true → plan_cost I ρ ≡ k
      → (first_number I ≤ number I.s I.r ρ) × (is_cheapest I (nth_plan I.s I.r (first_number I)) ≡ true)
  unfolding first_number
  first_at k e ρ h c =
      first_from_is (I.s ^ I.r) 0 (λ n. is_cheapest I (nth_plan I.s I.r n)) (number I.s I.r ρ) (omega arith)
      (omega (arith, number_lt I.s I.r ρ (valid_range ρ h))) (test_in k e ρ h c)

  -- some plan has the least cost
  some_plan : (k : ℕ) → cheapest I ≡ some k → (ρ : ℕ → ℕ) × (valid I ρ ≡ true) × (plan_cost I ρ ≡ k)
  unfolding cheapest
  some_plan k e =
      let h = least_met (I.s ^ I.r) (λ n. worth I (digit I.s n)) k e in
      let v = (worth_iff (digit I.s h.0) k).0 (h.2 ∙ e) in
      (digit I.s h.0, v.0, v.1)

  -- The first plan is valid at the least cost.
  pub first_valid : (k : ℕ) → cheapest I ≡ some k → (valid I (first_plan I) ≡ true) × (plan_cost I (first_plan I) ≡ k)
  unfolding first_plan
  first_valid k e = let w = some_plan k e in (cheapest_iff k e (nth_plan I.s I.r (first_number I))).0 (first_at k e w.0 w.1 w.2).1

  -- It is not after any valid plan of that cost.
  pub first_not_after : (k : ℕ) → cheapest I ≡ some k → (ρ : ℕ → ℕ) → valid I ρ ≡ true → plan_cost I ρ ≡ k → NotAfter I.r (first_plan I) ρ
  unfolding first_plan
  first_not_after k e ρ h c =
      let l = (first_at k e ρ h c).0 in
      let m = number_lt I.s I.r ρ (valid_range ρ h) in
      number_first I.s I.r (nth_plan I.s I.r (first_number I)) ρ (valid_range ρ h)
      (omega (arith, number_nth I.s I.r (first_number I) some_cabinet (omega arith)))

  -- So it is first,
  pub first_plan_first : (k : ℕ) → cheapest I ≡ some k → First I (first_plan I)
  first_plan_first k e =
      let v = first_valid k e in
      record {
        keeps = v.0;
        cheapest = λ ρ h. omega (arith, v.1, low k e ρ h);
        first = λ ρ h c. first_not_after k e ρ h (c ∙ v.1);
      }

  -- and no other plan is.
  pub first_only : (π : ℕ → ℕ) → First I π → (i : ℕ) → i < I.r → π i ≡ first_plan I i
  unfolding Le
  first_only π P = go (cheapest I) refl
    where
      go : (f : Cost) → cheapest I ≡ f → (i : ℕ) → i < I.r → π i ≡ first_plan I i
      go none e =
          absurd (subst (λ (f : Cost). Le f (some (plan_cost I π))) e
          (subst (Le (cheapest I)) ((worth_iff π (plan_cost I π)).1 (P.keeps, refl)) (cheapest_low I W π (valid_range π P.keeps))))
      go (some k) e = first_unique π (first_plan I) P (first_plan_first k e)

  -- ---- mappings

  -- Some mapping over the first plan is feasible, keeps the limits, and has the least cost.
  pub first_feasible : (k : ℕ) → cheapest I ≡ some k
      → (ρ : ℕ → List ℕ) × Feasible (road I) (first_plan I) ρ × Limits I (first_plan I) ρ × (cost (road I) (first_plan I) ρ ≡ k)
  first_feasible k e = (plan_iff_mapping I W (first_plan I) k).0 (first_valid k e)

  -- The first plan is not after that of any such mapping.
  pub first_mapping : (k : ℕ) → cheapest I ≡ some k → (π : ℕ → ℕ) (ρ : ℕ → List ℕ) → Feasible (road I) π ρ → Limits I π ρ → cost (road I) π ρ ≡ k
      → NotAfter I.r (first_plan I) π
  first_mapping k e π ρ F L c = let v = (plan_iff_mapping I W π k).1 (ρ, F, L, c) in first_not_after k e π v.0 v.1

  -- ---- the placing read back

  -- From a table of winners of the ordered net, the plan read back is first.
  pub seat_plan : (b : ℕ) → I.s ≤ b → (choice : ℕ → ℕ → ℕ) → Wins (ordered b (net I)) choice → (k : ℕ) → cheapest I ≡ some k
      → First I (seat (net I) choice 0 I.s (full I.r))
  seat_plan b hb choice wins k e =
      let row : row_at (net I) 0 I.s (full I.r) ≡ some k =
      cheapest_least I W _ (row_root (net I) W.parents (full I.r) some_cabinet (full_lt I.r)) ∙ e in
      let F : placings.First (net I) everywhere 0 (some k) (seat (net I) choice 0 I.s (full I.r)) = seat_first b (net I) some_cabinet hb W.parents choice wins k row in
      let p : InRange I (seat (net I) choice 0 I.s (full I.r)) = λ i j. (F.meets.sits i j (has_full I.r i j)).1 in
      let v = (worth_iff _ k).0 (sym (charges I W _ p) ∙ F.meets.cost) in
      record {
        keeps = v.0;
        cheapest = λ ρ m. omega (arith, v.1, low k e ρ m);
        first = λ ρ m c. F.first ρ (record {
          sits = λ i j h. (refl, valid_range ρ m i j);
          cost = charges I W ρ (valid_range ρ m) ∙ (worth_iff ρ k).1 (m, c ∙ v.1);
        });
      }

  -- So service by service it is the first plan.
  pub seat_first_plan : (b : ℕ) → I.s ≤ b → (k : ℕ) → cheapest I ≡ some k → (i : ℕ) → i < I.r
      → seat (net I) (choice_at (ordered b (net I))) 0 I.s (full I.r) i ≡ first_plan I i
  seat_first_plan b hb k e = first_only _ (seat_plan b hb (choice_at (ordered b (net I))) (choice_wins (ordered b (net I)) W.parents) k e)

  -- It is so from every table that agrees with that of the ordered net's own winners, but for the empty set.
  pub seat_first_table : (b : ℕ) → I.s ≤ b → (choice : ℕ → ℕ → ℕ)
      → ((c x : ℕ) → 0 < c → c < I.s → 0 < x → x < 2 ^ I.r → choice c x ≡ choice_at (ordered b (net I)) c x)
      → (k : ℕ) → cheapest I ≡ some k → (i : ℕ) → i < I.r → seat (net I) choice 0 I.s (full I.r) i ≡ first_plan I i
  seat_first_table b hb choice same k e i h =
      seat_ext (net I) W.parents choice (choice_at (ordered b (net I))) 0 i (λ d x z l q y m. same d x z l y m) 0 I.s (full I.r) (omega arith) (omega arith) (full_lt I.r)
      ∙ seat_first_plan b hb k e i h
