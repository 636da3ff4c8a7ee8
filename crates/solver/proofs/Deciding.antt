-- From filled tables to the answer: the root's figure decides, and the placing read back is that of the net's choices.
use Rattle.std.specs.Prelude.{◌≡◌, ℕ, ◌+◌, ◌-◌, ◌*◌, ◌^◌, ◌<◌, ◌≤◌, Bool, true, false, cond, ◌&&◌, eqb, ltb, List, length, get_or}
use native.Mathlib.Omega.{arith}
use mathlib.Core.Path.{refl, sym, ap, ◌∙◌}
use lib.Pow.{pow_pos}
use borrow.Author.Tests.{eqb-true, leb-true, leb-false}
use Rattle.finite.specs.Below.{only}
use Rattle.finite.proofs.Booleans.{clash, both_l, both_r}
use Rattle.finite.proofs.Sums.{sum_ext, only_ext}
use Rattle.subsets.specs.Inner.Masks.{full}
use Rattle.subsets.specs.Costs.{Cost, none, some}
use Rattle.subsets.specs.Inner.Encoded as encoded
use Rattle.subsets.specs.Figures.{limit, is_cost}
use Rattle.subsets.specs.Inner.Encoded.{figure}
use Rattle.subsets.specs.Inner.Back.{seat}
use Rattle.subsets.specs.Inner.Count as counts
use Rattle.subsets.specs.Inner.Count.{pairs, flagged, weighed}
use Rattle.subsets.specs.Inner.Kept as kept
use Rattle.subsets.proofs.Sets.{full_lt}
use Rattle.subsets.proofs.Bound.{row_bound}
use Rattle.subsets.proofs.Back.{seat_table}
use Rattle.rows.proofs.Parted.{row_within}
use Rattle.solver.specs.Sound.{sound}
use Rattle.rows.specs.Rebuilds.{entry}
use Rattle.solver.specs.Tables.{netted, cost_entry, choice_entry, Filled, entries, decided, read_answer, least, PlacedBy, OutputOf, Ready, Readable, counts_in, fitting, updatable, Keeps, Updates}
use Rattle.records.specs.declared.Records.{Records}
use Rattle.solver.specs.declared.Kept.{Kept}
use Rattle.solver.specs.declared.Kept.TheVariants.{Plan, NoPlan, Unfit}
use Rattle.solver.proofs.Sounding.{Good, good, few_services, falls, nodes, links, small}

-- sound records and memory of the size that they need
pub record Fit (k : Records) (output costs choices : ℕ) : Type 0 where
  pub is_sound : sound k ≡ true
  pub output_size : output ≡ k.services
  pub costs_size : costs ≡ entries k
  pub choices_size : choices ≡ entries k

pub fit : (k : Records) (o t u : ℕ) → fitting k o t u ≡ true → Fit k o t u
unfolding fitting
fit k o t u e =
    let a = both_r (sound k) _ e in
    let b = both_l (eqb o k.services && eqb t (entries k)) _ a in
    record {
      is_sound = both_l (sound k) _ e;
      output_size = eqb-true _ _ (both_l (eqb o k.services) _ b);
      costs_size = eqb-true _ _ (both_r (eqb o k.services) _ b);
      choices_size = eqb-true _ _ (both_r (eqb o k.services && eqb t (entries k)) _ a);
    }

-- where everything fits, what its parts ask for is met
pub fits_services : (k : Records) (o t u : ℕ) → fitting k o t u ≡ true → k.services ≤ 10
fits_services k o t u e = few_services k (fit k o t u e).is_sound

pub fits_sets : (k : Records) (o t u : ℕ) → fitting k o t u ≡ true → 0 < 2 ^ k.services
fits_sets k o t u e = pow_pos k.services

pub fits_root : (k : Records) (o t u : ℕ) → fitting k o t u ≡ true → 2 ^ k.services - 1 < t
fits_root k o t u e =
    let F = fit k o t u e in
    omega (arith, F.costs_size, row_within (2 ^ k.services) k.cabinets (good k F.is_sound).some_cabinet, pow_pos k.services)

pub fits_reading : (k : Records) (o u : List ℕ) (t : ℕ) → fitting k (length o) t (length u) ≡ true → Readable k o u
fits_reading k o u t e =
    let F = fit k _ _ _ e in
    record { is_sound = F.is_sound; places = F.output_size; choices = F.choices_size }

pub fits_filling : (k : Records) (o size : ℕ) (t u : List ℕ) → fitting k o (length t) (length u) ≡ true → size ≡ 2 ^ k.services → Ready k size t u
fits_filling k o size t u e s =
    let F = fit k _ _ _ e in
    record {
      is_sound = F.is_sound;
      row_size = s;
      costs = F.costs_size ∙ ap (λ (n : ℕ). k.cabinets * n) (sym s);
      choices = F.choices_size ∙ ap (λ (n : ℕ). k.cabinets * n) (sym s);
    }

-- anything but `Unfit` is answered only where everything fits
pub answered : {k : Records} {o o' t t' u u' : List ℕ} {a : Kept} → Keeps k o o' t t' u u' a → (a ≡ Unfit → ⊥) → fitting k (length o) (length t) (length u) ≡ true
answered {k} {o} {o'} {t} {t'} {u} {u'} {a} K n = go (fitting k (length o) (length t) (length u)) refl
  where
    go : (b : Bool) → fitting k (length o) (length t) (length u) ≡ b → fitting k (length o) (length t) (length u) ≡ true
    go true e = e
    go false e = absurd (n (K.left e).0)

module _ (k : Records) (G : Good k) where
  -- the least charge, where there is one, is a figure
  least_small : (c : ℕ) → least k ≡ some c → c ≤ limit
  least_small c e =
      omega (arith, small k G, row_bound (netted k) 200000000 (nodes k G) (links k G) (falls k G) 0 k.cabinets (full k.services) c G.some_cabinet (omega arith) (full_lt k.services) e)

  module _ (t u : List ℕ) (n : ℕ) (F : Filled k t u n) where
    -- the figure read at the end
    root_figure : get_or t (2 ^ k.services - 1) 0 ≡ figure (least k)
    unfolding cost_entry
    root_figure =
        ap (λ (i : ℕ). get_or t i 0) (let z : 2 ^ k.services - 1 ≡ 0 * 2 ^ k.services + full k.services = omega arith in z)
        ∙ F.costs 0 (full k.services) G.some_cabinet (full_lt k.services)

    -- is 'none' exactly where nothing can be placed
    pub no_plan : limit < get_or t (2 ^ k.services - 1) 0 → NoPlan n ≡ decided (least k) (weighed (netted k))
    unfolding encoded.figure
    no_plan h = go (least k) refl
      where
        go : (f : Cost) → least k ≡ f → NoPlan n ≡ decided f (weighed (netted k))
        go none e = ap NoPlan F.count
        go (some c) e = absurd (omega (arith, h, root_figure ∙ ap figure e, least_small c e))

    pub some_plan : get_or t (2 ^ k.services - 1) 0 ≤ limit → Plan (get_or t (2 ^ k.services - 1) 0) n ≡ decided (least k) (weighed (netted k))
    unfolding encoded.figure
    some_plan h = go (least k) refl
      where
        go : (f : Cost) → least k ≡ f → Plan (get_or t (2 ^ k.services - 1) 0) n ≡ decided f (weighed (netted k))
        go none e = absurd (omega (arith, h, root_figure ∙ ap figure e))
        go (some c) e = ap (λ (m : ℕ). Plan m n) (root_figure ∙ ap figure e) ∙ ap (Plan c) F.count

    -- the placing read back from the table is that of the choices
    pub same_places : (x i : ℕ) → x < 2 ^ k.services → seat (netted k) (entry (2 ^ k.services) u) 0 k.cabinets x i ≡ seat (netted k) (choice_entry k) 0 k.cabinets x i
    same_places x i h = seat_table (netted k) (entry (2 ^ k.services) u) (choice_entry k) (λ c y l z m. F.choices c y l m) 0 k.cabinets x i (omega arith) h

    -- the same tables, with the count by its name
    pub filled : Filled k t u (weighed (netted k))
    filled = record { costs = F.costs; choices = F.choices; count = refl }

    -- what the root's figure says, with the count, is decided
    pub decides : (a : Kept) → a ≡ read_answer (get_or t (full k.services) 0) n → a ≡ decided (least k) (weighed (netted k))
    decides a e = e ∙ go (is_cost (get_or t (full k.services) 0)) refl
      where
        go : (b : Bool) → is_cost (get_or t (full k.services) 0) ≡ b → cond b (Plan (get_or t (full k.services) 0) n) (NoPlan n) ≡ decided (least k) (weighed (netted k))
        go true q = some_plan (leb-true (get_or t (full k.services) 0) limit q)
        go false q = no_plan (leb-false (get_or t (full k.services) 0) limit q)

    -- and the placing that the choices name is the one read back
    pub placed : (a : Kept) (o o' : List ℕ) → PlacedBy k u a o o' → OutputOf k a o o'
    placed (Plan c m) o o' H = λ i l. H i l ∙ same_places (full k.services) i (full_lt k.services)
    placed (NoPlan m) o o' H = H
    placed Unfit o o' H = H

    -- the counts in the choice table sum to the count
    pub counts_filled : counts_in k u ≡ weighed (netted k)
    unfolding choice_entry kept.kept_choice counts.triples only
    counts_filled =
        sum_ext k.cabinets _ _ (λ c l. only_ext (ltb 0 c) _ _ (λ z.
        F.choices c 0 l (pow_pos k.services) ∙ ap (λ (b : Bool). only b (pairs k.services (flagged (netted k) c))) z))

-- An updating call whose tables are filled gives and leaves what a keeping call does.
pub updates_keeps : (k : Records) (e : ℕ) (o o' t t' u u' : List ℕ) (a : Kept) → Good k → updatable k e (length o) (length t) (length u) ≡ true → Updates k e o o' t t' u u' a
    → Filled k t' u' (weighed (netted k)) → Keeps k o o' t t' u u' a
updates_keeps k e o o' t t' u u' a G up U F = record {
  answer = λ f. decides k G t' u' (weighed (netted k)) F a (U.answer up ∙ ap (read_answer (get_or t' (full k.services) 0)) (counts_filled k G t' u' (weighed (netted k)) F));
  output = λ f. placed k G t' u' (weighed (netted k)) F a o o' (U.output up);
  tables = λ f. F;
  left = λ f. clash (sym (both_r (ltb e k.cabinets) _ up) ∙ f);
}

-- Filled tables that decide the answer are what a keeping call gives and leaves.
pub keeps : (k : Records) (o o' t t' u u' : List ℕ) (n : ℕ) (a : Kept) → fitting k (length o) (length t) (length u) ≡ true → Filled k t' u' n
    → a ≡ read_answer (get_or t' (full k.services) 0) n → PlacedBy k u' a o o' → Keeps k o o' t t' u u' a
keeps k o o' t t' u u' n a f F e H =
    let G = good k (fit k _ _ _ f).is_sound in
    record {
      answer = λ p. decides k G t' u' n F a e;
      output = λ p. placed k G t' u' n F a o o' H;
      tables = λ p. filled k G t' u' n F;
      left = λ p. clash (sym f ∙ p);
    }
