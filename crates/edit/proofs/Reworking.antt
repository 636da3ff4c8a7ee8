-- Both tables reworked: whatever they held, the rows off the path stay and only what the check accepts is handed out; and tables kept of an instance that
-- differs in one cabinet become those of the sheet.
use Rattle.std.specs.Prelude.{Ok, Err}
use Rattle.std.proofs.Common.{◌≡◌, ℕ, ◌^◌, ◌<◌, ◌≤◌, Bool, true, false, cond, eqb, ltb, List, ◌++◌, length, get_or, take, drop, sym, refl, ap, ◌∙◌, subst, inl, inr, append-nil, arith, length-append, drop_of_length-le, take_at, lt-ltb, eq-eqb, eqb-true}
use Rattle.finite.proofs.Booleans.{both}
use Rattle.subsets.specs.Tree.{under}
use Rattle.subsets.specs.Costs.{Cost, none, some}
use Rattle.subsets.specs.Inner.Masks.{full}
use Rattle.subsets.specs.Figures.{is_cost}
use Rattle.subsets.specs.Inner.Local.{Differ}
use Rattle.sheet.specs.Instance.{Instance, WellFormed}
use Rattle.sheet.specs.Refusals.{refusal}
use Rattle.sheet.proofs.Promises.{well_formed}
use Rattle.embedding.specs.Plan.{cheapest}
use Rattle.embedding.specs.Splits.{weighed}
use Rattle.embedding.specs.First.{first_plan, places}
use Rattle.embedding.specs.Inner.Charge.{net}
use Rattle.records.specs.Told.{told}
use Rattle.records.specs.declared.Records.{Records}
use Rattle.solver.specs.Sound.{sound}
use Rattle.solver.specs.Tables.{updatable, read_answer, counts_in, Holding, Updates}
use Rattle.solver.specs.declared.Kept as kept
use Rattle.solver.specs.declared.Kept.TheVariants as kepts
use Rattle.solver.proofs.Sounding.{good}
use Rattle.solver.proofs.Deciding.{updates_keeps}
use Rattle.checker.specs.Check.{Checked, checked}
use Rattle.planner.specs.Answers as answers
use Rattle.planner.specs.Answers.{Planned, plan_of, unplanned, entries, solved}
use Rattle.planner.specs.declared.Found.{Found}
use Rattle.planner.specs.declared.Unplanned.{Unplanned}
use Rattle.planner.specs.Lent.{OutputAfter}
use Rattle.planner.specs.Kept.{kept_costs, kept_choices, Kept}
use Rattle.planner.specs.Inner.Decided.{planned_of}
use Rattle.planner.specs.Inner.Tables.{entry, cost_entry, choice_entry}
use Rattle.planner.proofs.Listed.{entries_listed}
use Rattle.planner.proofs.Kept.{Left-of, told_sound, same_net, fits_told, keeps_instance}
use Rattle.edit.specs.Changed.{Changed}
use Rattle.edit.specs.Inner.Parts.{Loaded, Parted, handed, output_of, Comes, Reworks}
use Rattle.edit.proofs.Changing.{edit_differs}
use Rattle.edit.proofs.Accepting.{first_accepted}

-- a plan read into the front of a longer list
pub front_room : (n : ℕ) (plan list : List ℕ) → length plan ≡ n → n ≤ length (plan ++ drop n list)
front_room n plan list e = omega (arith, length-append plan (drop n list))

pub front_plan : (n : ℕ) (plan list : List ℕ) → length plan ≡ n → take n (plan ++ drop n list) ≡ plan
front_plan n plan list e = take_at plan (drop n list) n e

-- an answer that figures give is never that something does not fit
pub not_unfit : (f n : ℕ) → kepts.Unfit ≡ read_answer f n → ⊥
not_unfit f n e = go (is_cost f) e
  where
    go : (b : Bool) → kepts.Unfit ≡ cond b (kepts.Plan f n) (kepts.NoPlan n) → ⊥
    go true q = absurd (let z : ◌≡◌ {A = ℕ} 0 1 = cc in omega arith)
    go false q = absurd (let z : ◌≡◌ {A = ℕ} 0 1 = cc in omega arith)

-- a plan that is handed out was accepted at its cost
comes_handed : (bytes plan o o' : List ℕ) (k n : ℕ) → o' ≡ output_of (handed (checked bytes plan) k n) plan o → Comes bytes (handed (checked bytes plan) k n) o o'
comes_handed bytes plan o o' k n = go (checked bytes plan) refl
  where
    at : (m : ℕ) → checked bytes plan ≡ Ok m → (b : Bool) → eqb m k ≡ b → o' ≡ output_of (cond b (plan_of k n) (unplanned (refusal 23) 0)) plan o
        → Comes bytes (cond b (plan_of k n) (unplanned (refusal 23) 0)) o o'
    at m e true q w = ap (checked bytes) w ∙ e ∙ ap Ok (eqb-true m k q)
    at m e false q w = (inr (refl, refl), w)

    go : (r : Checked) → checked bytes plan ≡ r → o' ≡ output_of (handed r k n) plan o → Comes bytes (handed r k n) o o'
    go (Ok m) e w = at m e (eqb m k) refl w
    go (Err f) e w = (inr (refl, refl), w)

-- the cost of a plan that is the cheapest
cost_cheapest : (f : Cost) (m c n : ℕ) → plan_of c n ≡ solved f m → f ≡ some c
cost_cheapest none m c n e = absurd (let z : ◌≡◌ {A = ℕ} 0 1 = cc in omega arith)
cost_cheapest (some k) m c n e = ap some (sym (ap answers.cost e))

module _ (bytes : List ℕ) (k : Records) (L : Loaded bytes k) (e : ℕ) (o t u : List ℕ) (P : Parted (told k) e o t u)
    (plan plan' t' u' : List ℕ) (a : kept.Kept) (lp : length plan ≡ (told k).r) (lp' : length plan' ≡ length plan) (lt : length t' ≡ length t) (lu : length u' ≡ length u)
    (U : Updates k e plan plan' t t' u u' a) where
  W : WellFormed (told k)
  W = subst WellFormed (sym L.tells) (well_formed bytes L.sheet L.reads)

  sounds : sound k ≡ true
  sounds = told_sound k W

  -- there is such a cabinet, and everything fits
  up : updatable k e (length plan) (length t) (length u) ≡ true
  unfolding told
  up = both (ltb e k.cabinets) _ (lt-ltb e k.cabinets P.cabinet) (fits_told k (length plan) (length t) (length u) W lp P.costs P.choices)

  always_fits : a ≡ kepts.Unfit → ⊥
  always_fits q = not_unfit (get_or t' (full k.services) 0) (counts_in k u') (sym q ∙ U.answer up)

  -- the rows off the path stay
  off_costs : (c x : ℕ) → c < (told k).s → under (told k).parent c e ≡ false → x < 2 ^ (told k).r → entry (2 ^ (told k).r) t' c x ≡ entry (2 ^ (told k).r) t c x
  unfolding told
  off_costs c x l off h = U.costs up c x off h

  off_choices : (c x : ℕ) → c < (told k).s → (0 < c → under (told k).parent ((told k).parent c) e ≡ false) → x < 2 ^ (told k).r → entry (2 ^ (told k).r) u' c x ≡ entry (2 ^ (told k).r) u c x
  unfolding told
  off_choices c x l off h = U.choices up c x (λ z m. off z) h

  -- tables kept of an instance that differs in e alone
  module _ (J : Instance) (K : Kept J t u) (E : Changed e J (told k)) where
    holding : Holding (net J) t u
    unfolding kept_costs kept_choices cost_entry choice_entry
    holding = record { costs = entries_listed J (cost_entry J) t K.of_costs; choices = entries_listed J (choice_entry J) u K.of_choices }

    fresh : Left-of k (kept_costs (told k)) (kept_choices (told k)) plan plan' t' u' a
    fresh =
        keeps_instance k plan plan' t t' u u' a W lp P.costs P.choices lp' lt lu
        (updates_keeps k e plan plan' t t' u u' a (good k sounds) up U
        (U.tables up (net J) (subst (Differ e (net J)) (sym (same_net k sounds)) (edit_differs e J (told k) E)) holding))

    -- the plan read back is the first of the cheapest
    module _ (c n : ℕ) (is : a ≡ kepts.Plan c n) where
      answer_is : plan_of c n ≡ solved (cheapest (told k)) (weighed (told k))
      answer_is = subst (λ (b : kept.Kept). planned_of b ≡ solved (cheapest (told k)) (weighed (told k))) is fresh.answer

      first_read : plan' ≡ places (told k).r (first_plan (told k))
      first_read =
          subst (λ (b : kept.Kept). OutputAfter (told k) (planned_of b) plan plan') is fresh.output
          ∙ ap (λ (y : List ℕ). places (told k).r (first_plan (told k)) ++ y) (drop_of_length-le plan {i = (told k).r} (omega (arith, lp)))
          ∙ append-nil (places (told k).r (first_plan (told k)))

      accepted : checked bytes plan' ≡ Ok c
      accepted =
          first_accepted bytes L.sheet L.reads c
          (ap cheapest (sym L.tells) ∙ cost_cheapest (cheapest (told k)) (weighed (told k)) c n answer_is) plan'
          (first_read ∙ ap (λ (I : Instance). places I.r (first_plan I)) L.tells)

      handed_is : handed (checked bytes plan') c n ≡ plan_of c n
      handed_is = ap (λ (r : Checked). handed r c n) accepted ∙ ap (λ (b : Bool). cond b (plan_of c n) (unplanned (refusal 23) 0)) (eq-eqb c c refl)

      written : (b : Planned) (o' : List ℕ) → b ≡ plan_of c n → o' ≡ output_of b plan' o → OutputAfter (told k) b o o'
      written b o' q w =
          subst (λ (b : Planned). o' ≡ output_of b plan' o → OutputAfter (told k) b o o') (sym q)
          (λ w. w ∙ first_read ∙ sym (ap (λ (y : List ℕ). places (told k).r (first_plan (told k)) ++ y) (drop_of_length-le o {i = (told k).r} (omega (arith, P.places)))
          ∙ append-nil (places (told k).r (first_plan (told k))))) w

  -- With a plan: it is handed out where the check accepts it at its cost.
  reworked_plan : (c n : ℕ) → a ≡ kepts.Plan c n → (b : Planned) (o' : List ℕ) → b ≡ handed (checked bytes plan') c n → o' ≡ output_of b plan' o
      → Reworks bytes (told k) e o o' t t' u u' b
  reworked_plan c n is b o' q w = record {
    outcome = subst (λ (b : Planned). Comes bytes b o o') (sym q) (comes_handed bytes plan' o o' c n (w ∙ ap (λ (b : Planned). output_of b plan' o) q));
    costs = off_costs;
    choices = off_choices;
    in_rule = λ J K E.
        let h : b ≡ plan_of c n = q ∙ handed_is J K E c n is in
        (h ∙ answer_is J K E c n is, written J K E c n is b o' h w, (fresh J K E).costs, (fresh J K E).choices);
  }

  -- Without one.
  reworked_none : (n : ℕ) → a ≡ kepts.NoPlan n → Reworks bytes (told k) e o o t t' u u' (unplanned (refusal 12) n)
  reworked_none n is = record {
    outcome = (inl refl, refl);
    costs = off_costs;
    choices = off_choices;
    in_rule = λ J K E. (subst (λ (b : kept.Kept). planned_of b ≡ solved (cheapest (told k)) (weighed (told k))) is (fresh J K E).answer, refl, (fresh J K E).costs, (fresh J K E).choices);
  }

  -- As the core's answer is taken: what is found is handed out where the check accepts it, and a refusal is handed on.
  pub reworked_found : (p : Found) → planned_of a ≡ Ok p → (b : Planned) (o' : List ℕ) → b ≡ handed (checked bytes plan') p.cost p.count → o' ≡ output_of b plan' o
      → Reworks bytes (told k) e o o' t t' u u' b
  reworked_found p q b o' h w = go a refl q
    where
      go : (x : kept.Kept) → a ≡ x → planned_of x ≡ Ok p → Reworks bytes (told k) e o o' t t' u u' b
      go (kepts.Plan c n) is q =
          reworked_plan c n is b o'
          (h ∙ ap (λ (y : Found). handed (checked bytes plan') y.cost y.count) (let z : p ≡ record { cost = c; count = n } = cc in z)) w
      go (kepts.NoPlan n) is q = absurd (let z : ◌≡◌ {A = ℕ} 0 1 = cc in omega arith)
      go kepts.Unfit is q = absurd (let z : ◌≡◌ {A = ℕ} 0 1 = cc in omega arith)

  pub reworked_refused : (f : Unplanned) → planned_of a ≡ Err f → Reworks bytes (told k) e o o t t' u u' (Err f)
  reworked_refused f q = go a refl q
    where
      go : (x : kept.Kept) → a ≡ x → planned_of x ≡ Err f → Reworks bytes (told k) e o o t t' u u' (Err f)
      go (kepts.Plan c n) is q = absurd (let z : ◌≡◌ {A = ℕ} 0 1 = cc in omega arith)
      go (kepts.NoPlan n) is q = subst (λ (b : Planned). Reworks bytes (told k) e o o t t' u u' b) q (reworked_none n is)
      go kepts.Unfit is q = absurd (always_fits is)
