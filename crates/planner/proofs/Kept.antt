-- For records that pass the core's tests, what the core answers and keeps is what the instance that they tell of says:
-- the kept tables hold its entries, the answer is its cheapest cost with its count of splits, and the output is the first of its cheapest plans.
use Rattle.std.proofs.Common.{◌≡◌, ℕ, ◌*◌, ◌^◌, ◌<◌, ◌≤◌, Bool, true, false, ◌||◌, ltb, leb, List, ◌++◌, length, get_or, replicate, sym, refl, ap, ◌∙◌, subst, ap₂, append-nil, arith, drop_of_length-le, lt-ltb, eq-eqb, ne_eqb, le-leb, leb-false}
use mathlib.Core.Path.{fun_ext}
use lib.Bits.{bit_and}
use Rattle.finite.proofs.Tests.{all_in}
use Rattle.finite.specs.Below.{only}
use Rattle.finite.proofs.Sums.{sum_ext}
use Rattle.subsets.specs.Sets.{has}
use Rattle.subsets.specs.Inner.Masks.{full}
use Rattle.subsets.specs.Costs.{Cost, none, some}
use Rattle.subsets.specs.Inner.Encoded.{figure}
use Rattle.subsets.specs.Inner.Net.{Net}
use Rattle.subsets.specs.Inner.Rows.{row_at, choice_at}
use Rattle.subsets.specs.Inner.Keys.{ordered}
use Rattle.subsets.specs.Inner.Kept.{kept_choice}
use Rattle.subsets.specs.Inner.Back.{seat}
use Rattle.subsets.specs.Inner.Count as counts
use Rattle.subsets.proofs.Rows.{row_before}
use Rattle.subsets.proofs.Local.{kept_chosen}
use Rattle.sheet.specs.Limits.{max_services, max_cabinets, max_streams, max_amount}
use Rattle.sheet.specs.Instance.{Instance, WellFormed}
use Rattle.embedding.specs.Limits.{frames}
use Rattle.embedding.specs.Plan.{demand_of, cheapest}
use Rattle.embedding.specs.First.{first_plan, places}
use Rattle.embedding.proofs.First.{places_only, seat_first_table}
use Rattle.embedding.specs.Inner.Charge.{leaving, entering, cabinet_charge, link_charge, net}
use Rattle.embedding.specs.Splits.{weighed}
use Rattle.embedding.proofs.Reckoning.{demand_sum, charge_by_digits, charge_by_flows}
use Rattle.embedding.proofs.Theorems.{weighed_rows}
use Rattle.rows.specs.Cabinets as cabinets
use Rattle.rows.specs.Cabinets.{field, parent_of, own_of, link_of, falling}
use Rattle.rows.specs.Keys.{base}
use Rattle.solver.specs.Sound as sounds
use Rattle.solver.specs.Sound.{amounts, between, sound}
use Rattle.solver.specs.Sums as sums
use Rattle.solver.specs.Sums.{demand_in, sum_out, flow_out}
use Rattle.rows.specs.Charges.{own_cost, link_cost}
use Rattle.solver.specs.Tables as tables
use Rattle.solver.specs.Tables.{netted, decided, least, fitting, OutputOf, Keeps, Solves}
use Rattle.records.specs.Flows.{frames_in}
use Rattle.records.specs.declared.flows.Flow.{Flow}
use Rattle.records.specs.declared.Records.{Records}
use Rattle.solver.specs.declared.Kept.{Kept}
use Rattle.solver.specs.declared.Kept.TheVariants as kept
use Rattle.solver.proofs.Sounding.{Good, good, field_in}
use Rattle.planner.specs.Answers.{entries, solved}
use Rattle.planner.specs.Lent.{OutputAfter}
use Rattle.planner.specs.Kept.{kept_costs, kept_choices}
use Rattle.planner.specs.Inner.Tables.{cost_entry, choice_entry, Filled}
use Rattle.records.specs.Told.{told}
use Rattle.records.proofs.Bars.{set_barred, bars_there}
use Rattle.planner.specs.Inner.Decided.{planned_of}
use Rattle.planner.proofs.Solving.{root_cheapest}
use Rattle.planner.proofs.Listed.{listed}

-- ---- an instance's count

module _ (I : Instance) (W : WellFormed I) where
  weighed_net : counts.weighed (net I) ≡ weighed I
  unfolding counts.triples counts.pairs
  weighed_net = sym (weighed_rows I W (λ c a. row_at (net I) (I.parent c) c a) (λ c a z l h. row_before (net I) W.parents c a z l h))

-- ---- records that pass

module _ (k : Records) (passes : sound k ≡ true) where
  G : Good k
  G = good k passes

  -- They tell of a well-formed instance.
  pub told_well : WellFormed (told k)
  unfolding told
  told_well = record {
    services = G.services;
    some_cabinet = G.some_cabinet;
    cabinets = G.cabinets;
    streams = G.streams;
    demands = G.demands;
    parents = G.parents;
    capacities = G.capacities;
    prices = G.prices;
    up_capacities = G.up_capacities;
    up_prices = G.up_prices;
    down_capacities = G.down_capacities;
    down_prices = G.down_prices;
    loads = G.loads;
    from_service = λ j l. rw (field_in k.streams k.from j l) (G.ends j l).0;
    to_service = λ j l. rw (field_in k.streams k.to j l) (G.ends j l).1;
    ends_differ = λ j l e. (G.ends j l).2 (sym (field_in k.streams k.from j l) ∙ e ∙ field_in k.streams k.to j l);
    root_links = (
      field_in k.cabinets k.up_capacity 0 G.some_cabinet ∙ G.root.0,
      field_in k.cabinets k.up_price 0 G.some_cabinet ∙ G.root.1,
      field_in k.cabinets k.down_capacity 0 G.some_cabinet ∙ G.root.2,
      field_in k.cabinets k.down_price 0 G.some_cabinet ∙ G.root.3,
    );
    bars = bars_there k;
  }

  same_demand : (x : ℕ) → demand_in k.demand k.services x ≡ demand_of (told k) (has x)
  unfolding told sums.demand_in
  same_demand x = sum_ext k.services _ _ (λ i l. ap (only (has x i)) (sym (field_in k.services k.demand i l))) ∙ sym (demand_sum (told k) (has x))

  -- a sum over the streams that run out of a set, and into it, of the records and of the instance
  sums_out : (f g : ℕ → ℕ) → ((j : ℕ) → j < k.streams → f j ≡ g j) → (x : ℕ) → sum_out k.from k.to f k.streams x ≡ leaving (told k) g (has x)
  unfolding told sums.sum_out leaving
  sums_out f g e x = sum_ext k.streams _ _ (λ j l. rw (field_in k.streams k.from j l, field_in k.streams k.to j l, e j l) refl)

  sums_in : (f g : ℕ → ℕ) → ((j : ℕ) → j < k.streams → f j ≡ g j) → (x : ℕ) → sum_out k.to k.from f k.streams x ≡ entering (told k) g (has x)
  unfolding told sums.sum_out entering
  sums_in f g e x = sum_ext k.streams _ _ (λ j l. rw (field_in k.streams k.from j l, field_in k.streams k.to j l, e j l) refl)

  -- the demand and the frames of a stream
  same_load : (j : ℕ) → j < k.streams → get_or k.load j 0 ≡ (told k).load j
  unfolding told
  same_load j l = sym (field_in k.streams k.load j l)

  same_frames : (j : ℕ) → j < k.streams → frames_in (get_or k.load j 0) ≡ frames (told k) j
  unfolding frames
  same_frames j l = ap frames_in (same_load j l)

  same_out : (x : ℕ) → flow_out k.from k.to k.load k.streams x
      ≡ record { demand = leaving (told k) (told k).load (has x); frames = leaving (told k) (frames (told k)) (has x) }
  same_out x = ap₂ (λ (d f : ℕ). record { demand = d; frames = f }) (sums_out _ _ same_load x) (sums_out _ _ same_frames x)

  same_in : (x : ℕ) → flow_out k.to k.from k.load k.streams x
      ≡ record { demand = entering (told k) (told k).load (has x); frames = entering (told k) (frames (told k)) (has x) }
  same_in x = ap₂ (λ (d f : ℕ). record { demand = d; frames = f }) (sums_in _ _ same_load x) (sums_in _ _ same_frames x)

  same_node : (c x : ℕ) → (netted k).node c x ≡ cabinet_charge (told k) c x
  unfolding told cabinets.own_of
  same_node c x =
      ap (own_cost (own_of k c) (bit_and x (full k.services))) (same_demand x)
      ∙ sym (charge_by_digits (told k) c (field k.cabinets k.barred c) (λ i l. set_barred k i c l) x)

  same_link : (c x : ℕ) → (netted k).link c x ≡ link_charge (told k) c x
  unfolding told cabinets.link_of
  same_link c x = ap₂ (λ (a b : Flow). link_cost (link_of k c) a b) (same_out x) (same_in x) ∙ sym (charge_by_flows (told k) c x)

  -- Their net is the instance's.
  pub same_net : netted k ≡ net (told k)
  unfolding told
  same_net =
      ap₂ (λ (f g : ℕ → ℕ → Cost). record { r = k.services; s = k.cabinets; parent = parent_of k; node = f; link = g })
      (fun_ext (λ c. fun_ext (λ x. same_node c x))) (fun_ext (λ c. fun_ext (λ x. same_link c x)))

  same_cost : (p x : ℕ) → tables.cost_entry k p x ≡ cost_entry (told k) p x
  unfolding told tables.cost_entry cost_entry
  same_cost p x = ap (λ (N : Net). figure (row_at N p k.cabinets x)) same_net

  same_choice : (c x : ℕ) → tables.choice_entry k c x ≡ choice_entry (told k) c x
  unfolding tables.choice_entry choice_entry
  same_choice c x = ap (λ (N : Net). only (ltb 0 c) (kept_choice base N c x)) same_net

  same_count : counts.weighed (netted k) ≡ weighed (told k)
  same_count = ap counts.weighed same_net ∙ weighed_net (told k) told_well

  -- The kept tables are those of the instance.
  pub kept_tables : (t u : List ℕ) (n : ℕ) → tables.Filled k t u n → Filled (told k) t u n
  unfolding told
  kept_tables t u n F = record {
    costs = λ p x l h. F.costs p x l h ∙ same_cost p x;
    choices = λ c x l h. F.choices c x l h ∙ same_choice c x;
    count = F.count ∙ same_count;
  }

  same_least : least k ≡ cheapest (told k)
  unfolding told
  same_least = ap (λ (N : Net). row_at N 0 k.cabinets (full k.services)) same_net ∙ root_cheapest (told k) told_well

  answers : (f : Cost) (n : ℕ) → planned_of (decided f n) ≡ solved f n
  answers none n = refl
  answers (some c) n = refl

  -- The answer is the cheapest cost, or 12, with the count of splits.
  pub kept_answer : planned_of (decided (least k) (counts.weighed (netted k))) ≡ solved (cheapest (told k)) (weighed (told k))
  kept_answer = ap₂ (λ (f : Cost) (n : ℕ). planned_of (decided f n)) same_least same_count ∙ answers (cheapest (told k)) (weighed (told k))

  choice_there : (c x : ℕ) → 0 < c → 0 < x → tables.choice_entry k c x ≡ choice_at (ordered base (net (told k))) c x
  unfolding choice_entry only
  choice_there c x z y = same_choice c x ∙ rw (lt-ltb 0 c z) (kept_chosen base (net (told k)) c x y)

  -- The output is the first of the cheapest plans.
  pub kept_output : (c n : ℕ) (o o' : List ℕ) → length o' ≡ (told k).r → kept.Plan c n ≡ decided (least k) (counts.weighed (netted k)) → OutputOf k (kept.Plan c n) o o'
      → o' ≡ places (told k).r (first_plan (told k))
  unfolding told
  kept_output c n o o' long e H =
      places_only (told k).r (first_plan (told k)) o' long (λ i l.
      H i l ∙ ap (λ (N : Net). seat N (tables.choice_entry k) 0 k.cabinets (full k.services) i) same_net
      ∙ seat_first_table (told k) told_well base G.cabinets (tables.choice_entry k) (λ d x z m y h. choice_there d x z y) c (sym same_least ∙ cost_is (least k) refl) i l)
    where
      cost_is : (f : Cost) → least k ≡ f → least k ≡ some c
      cost_is none q = absurd (let z : kept.Plan c n ≡ kept.NoPlan (counts.weighed (netted k)) = e ∙ ap (λ (f : Cost). decided f (counts.weighed (netted k))) q in let y : ◌≡◌ {A = ℕ} 0 1 = cc in omega arith)
      cost_is (some m) q = q ∙ ap some (let z : kept.Plan c n ≡ kept.Plan m (counts.weighed (netted k)) = e ∙ ap (λ (f : Cost). decided f (counts.weighed (netted k))) q in let y : m ≡ c = cc in y)

-- ---- the tests are no more than what a well-formed instance has

amounts_in : (n : ℕ) (l : List ℕ) → ((i : ℕ) → field n l i ≤ max_amount) → amounts n l ≡ true
unfolding sounds.amounts
amounts_in n l h = all_in n _ (λ i m. le-leb (get_or l i 0) max_amount (omega (arith, h i, field_in n l i m)))

falling_in : (n : ℕ) (l : List ℕ) → ((c : ℕ) → 0 < c → field n l c < c) → falling n l ≡ true
unfolding cabinets.falling
falling_in n l h = all_in n _ (λ c m. go c m (leb c 0) refl)
  where
    go : (c : ℕ) → c < n → (t : Bool) → leb c 0 ≡ t → t || ltb (get_or l c 0) c ≡ true
    go c m true e = refl
    go c m false e = let z : 0 < c = leb-false c 0 e in lt-ltb (get_or l c 0) c (omega (arith, h c z, field_in n l c m))

between_in : (r from to : ℕ) → from < r → to < r → (from ≡ to → ⊥) → between r from to ≡ true
unfolding sounds.between
between_in r from to h l n = rw (lt-ltb from r h, lt-ltb to r l, ne_eqb from to n) refl

-- Records that tell of a well-formed instance pass.
pub told_sound : (k : Records) → WellFormed (told k) → sound k ≡ true
unfolding told sounds.sound sounds.fields_sound sounds.cabinets_sound sounds.rooted sounds.running
told_sound k W =
    rw (
      le-leb k.services max_services W.services,
      le-leb 1 k.cabinets W.some_cabinet,
      le-leb k.cabinets max_cabinets W.cabinets,
      le-leb k.streams max_streams W.streams,
      amounts_in k.services k.demand W.demands,
      falling_in k.cabinets k.parent W.parents,
      amounts_in k.cabinets k.capacity W.capacities,
      amounts_in k.cabinets k.price W.prices,
      amounts_in k.cabinets k.up_capacity W.up_capacities,
      amounts_in k.cabinets k.up_price W.up_prices,
      amounts_in k.cabinets k.down_capacity W.down_capacities,
      amounts_in k.cabinets k.down_price W.down_prices,
      amounts_in k.streams k.load W.loads,
      all_in k.streams (λ j. between k.services (get_or k.from j 0) (get_or k.to j 0)) (λ j l.
          between_in k.services (get_or k.from j 0) (get_or k.to j 0)
          (subst (λ (v : ℕ). v < k.services) (field_in k.streams k.from j l) (W.from_service j l))
          (subst (λ (v : ℕ). v < k.services) (field_in k.streams k.to j l) (W.to_service j l))
          (λ e. W.ends_differ j l (field_in k.streams k.from j l ∙ e ∙ sym (field_in k.streams k.to j l)))),
      eq-eqb (get_or k.up_capacity 0 0) 0 (sym (field_in k.cabinets k.up_capacity 0 W.some_cabinet) ∙ W.root_links.0),
      eq-eqb (get_or k.up_price 0 0) 0 (sym (field_in k.cabinets k.up_price 0 W.some_cabinet) ∙ W.root_links.1),
      eq-eqb (get_or k.down_capacity 0 0) 0 (sym (field_in k.cabinets k.down_capacity 0 W.some_cabinet) ∙ W.root_links.2),
      eq-eqb (get_or k.down_price 0 0) 0 (sym (field_in k.cabinets k.down_price 0 W.some_cabinet) ∙ W.root_links.3),
    ) refl

-- So they fit memory of the size that the instance needs.
pub fits_told : (k : Records) (o t u : ℕ) → WellFormed (told k) → o ≡ (told k).r → t ≡ entries (told k) → u ≡ entries (told k) → fitting k o t u ≡ true
unfolding told tables.fitting
fits_told k o t u W lo lt lu =
    rw (told_sound k W, eq-eqb o k.services lo, eq-eqb t (k.cabinets * 2 ^ k.services) lt, eq-eqb u (k.cabinets * 2 ^ k.services) lu) refl

-- ---- the calls

after_plan : (k : Records) (s : sound k ≡ true) (o o' : List ℕ) → length o ≡ (told k).r → length o' ≡ length o → (a : Kept)
    → a ≡ decided (least k) (counts.weighed (netted k)) → OutputOf k a o o' → OutputAfter (told k) (planned_of a) o o'
after_plan k s o o' lo same (kept.Plan c n) e H =
    kept_output k s c n o o' (same ∙ lo) e H
    ∙ sym (ap (λ (y : List ℕ). places (told k).r (first_plan (told k)) ++ y) (drop_of_length-le o {i = (told k).r} (omega arith)) ∙ append-nil (places (told k).r (first_plan (told k))))
after_plan k s o o' lo same (kept.NoPlan n) e H = H
after_plan k s o o' lo same kept.Unfit e H = H

-- A call on a well-formed instance's records, with memory of the size that it needs: what it answers and writes, and the tables that it leaves.
pub record Left-of (k : Records) (left_costs left_choices o o' t' u' : List ℕ) (a : Kept) : Type 0 where
  pub answer : planned_of a ≡ solved (cheapest (told k)) (weighed (told k))
  pub output : OutputAfter (told k) (planned_of a) o o'
  pub costs : t' ≡ left_costs
  pub choices : u' ≡ left_choices

module _ (k : Records) (o o' t t' u u' : List ℕ) (a : Kept) (W : WellFormed (told k)) (lo : length o ≡ (told k).r) (lt : length t ≡ entries (told k))
    (lu : length u ≡ entries (told k)) (same : length o' ≡ length o) where
  passed : sound k ≡ true
  passed = told_sound k W

  fit : fitting k (length o) (length t) (length u) ≡ true
  fit = fits_told k (length o) (length t) (length u) W lo lt lu

  -- A keeping call.
  pub keeps_instance : length t' ≡ length t → length u' ≡ length u → Keeps k o o' t t' u u' a → Left-of k (kept_costs (told k)) (kept_choices (told k)) o o' t' u' a
  unfolding kept_costs kept_choices
  keeps_instance st su K =
      let F = kept_tables k passed t' u' _ (K.tables fit) in record {
        answer = ap planned_of (K.answer fit) ∙ kept_answer k passed;
        output = after_plan k passed o o' lo same a (K.answer fit) (K.output fit);
        costs = listed (told k) (cost_entry (told k)) t' F.costs (st ∙ lt);
        choices = listed (told k) (choice_entry (told k)) u' F.choices (su ∙ lu);
      }

  -- A solving call.
  pub solves_instance : Solves k o o' t t' u u' a → Left-of k (replicate (entries (told k)) 0) (replicate (entries (told k)) 0) o o' t' u' a
  unfolding told
  solves_instance K = record {
    answer = ap planned_of (K.answer fit) ∙ kept_answer k passed;
    output = after_plan k passed o o' lo same a (K.answer fit) (K.output fit);
    costs = (K.tables fit).0;
    choices = (K.tables fit).1;
  }
