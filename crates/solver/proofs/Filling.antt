-- Where every row is what it is rebuilt from, every row is that of the records' net, and so are the choices and the count: from the last cabinet to the
-- first. The same where the rows off a path are the net's already, and those on it are what they are rebuilt from.
use Rattle.std.specs.Prelude.{◌≡◌, ℕ, zero, suc, ◌+◌, ◌*◌, ◌^◌, ◌<◌, ◌≤◌, Bool, true, false, ltb, ◌⊎◌, List, length}
use native.Mathlib.Omega.{arith}
use mathlib.Core.Logic.{⊎_elim, inl, inr}
use mathlib.Core.Path.{refl, sym, ap, ap₂, ◌∙◌, subst, fun_ext}
use borrow.Author.Tests.{le-leb, lt-ltb, ltb-true, ltb-false}
use Rattle.finite.specs.Below.{only}
use Rattle.finite.proofs.Booleans.{both}
use Rattle.finite.proofs.Sums.{sum_ext}
use Rattle.subsets.specs.Tree.{under}
use Rattle.subsets.specs.Inner.Encoded.{figure}
use Rattle.subsets.specs.Inner.Net.{Falls, Net}
use Rattle.subsets.specs.Inner.Rows.{child, choice_at}
use Rattle.subsets.specs.Inner.Count.{weighed}
use Rattle.subsets.specs.Inner.Kept.{kept_choice}
use Rattle.subsets.specs.Inner.Local.{Differ, Off}
use Rattle.subsets.specs.Inner.Keys.{ordered, key_parts}
use Rattle.subsets.specs.Inner.Rebuild.{Source}
use Rattle.subsets.proofs.Sets.{and_full}
use Rattle.subsets.proofs.Rows.{child_parent, child_of}
use Rattle.subsets.proofs.Count.{joins_weighed}
use Rattle.subsets.proofs.KeyRows.{key_alone, key_at_ext, key_bare, parts_ext}
use Rattle.subsets.proofs.Rebuild.{Sourced, rebuilt_holds, rebuilt_kept, rebuilt_counted}
use Rattle.subsets.proofs.Local.{row_all_local, kept_choice_local, kept_chosen}
use Rattle.rows.specs.Cabinets.{parent_of, own_of, link_of}
use Rattle.rows.specs.Charges.{all_sums, own_figure, link_figure}
use Rattle.rows.specs.Keys as keys
use Rattle.rows.specs.Keys.{base, low_digits, tree}
use Rattle.rows.specs.Rebuilds as rebuilds
use Rattle.rows.specs.Rebuilds.{entry, back_key, source, has_rows, fillable, Built, Fills}
use Rattle.rows.specs.Paths.{on_path, Climbs}
use Rattle.rows.proofs.Filling.{same_child}
use Rattle.rows.proofs.Paired.{key_is}
use Rattle.rows.proofs.Parted.{row_within}
use Rattle.solver.specs.Sound.{sound}
use Rattle.solver.specs.Sums.{SumsOf}
use Rattle.solver.specs.Tables.{netted, cost_entry, choice_entry, Filled, Ready, Holding}
use Rattle.records.specs.declared.flows.Flow.{Flow}
use Rattle.records.specs.declared.Records.{Records}
use Rattle.solver.proofs.Sounding.{Good, good, parents_fall, falls, nodes, links, small, sets_le}

-- the row of p, and the choices of its children, are those of the net
pub record Right (k : Records) (t u : List ℕ) (p : ℕ) : Type 0 where
  pub costs : (x : ℕ) → x < 2 ^ k.services → entry (2 ^ k.services) t p x ≡ cost_entry k p x
  pub choices : (c x : ℕ) → c < k.cabinets → child (netted k) p c ≡ true → x < 2 ^ k.services → entry (2 ^ k.services) u c x ≡ kept_choice base (netted k) c x

-- each row is what it is rebuilt from, or is the net's already
module _ (k : Records) (G : Good k) {sums : List ℕ} (M : SumsOf k (2 ^ k.services) sums) {t u : List ℕ}
    (rows : (p : ℕ) → p < k.cabinets → Built k (2 ^ k.services) p sums t u ⊎ Right k t u p) where
  -- what the row of p is rebuilt from
  abbrev from : ℕ → Source
  from p = source k (2 ^ k.services) p sums t u

  -- the keys read back under a cabinet whose choices are the net's are the net's
  back_is : (c x : ℕ) → ((d y : ℕ) → 0 < d → d < k.cabinets → c ≤ (netted k).parent d → y < 2 ^ k.services → entry (2 ^ k.services) u d y ≡ kept_choice base (netted k) d y)
      → x < 2 ^ k.services → back_key k (2 ^ k.services) u c x ≡ key_parts base low_digits (netted k) (choice_at (ordered base (netted k))) c k.cabinets x
  unfolding rebuilds.back_key
  back_is c x same h =
      key_bare base low_digits (tree k) (netted k) refl refl refl (entry (2 ^ k.services) u) c k.cabinets x
      ∙ parts_ext base low_digits (netted k) (entry (2 ^ k.services) u) (choice_at (ordered base (netted k))) c k.cabinets x c k.cabinets x
      (λ v. key_at_ext (netted k) v (falls k G) (entry (2 ^ k.services) u) (choice_at (ordered base (netted k))) c
      (λ d y z l q some m. same d y z l q m ∙ kept_chosen base (netted k) d y some) c k.cabinets x (omega arith) (omega arith) h)

  module _ (p : ℕ) (l : p < k.cabinets) (above : (d : ℕ) → p < d → d < k.cabinets → Right k t u d) where
    -- a child has a larger number
    later : (c : ℕ) → child (netted k) p c ≡ true → p < c
    later c e = let w = child_parent (netted k) p c e in omega (arith, falls k G c w.0, w.1)

    -- where all later rows are the net's, the row is rebuilt from the net's figures and keys
    sourced : Sourced base low_digits (netted k) p (from p)
    unfolding cost_entry keys.set_weight
    sourced = record {
      own = λ x h. ap₂ (own_figure (own_of k p)) (sym (and_full k.services x h)) (M.demand x h);
      children = λ c h. same_child k (2 ^ k.services) sums (falls k G) refl p t u c;
      rows = λ c h e x i. (above c (later c e) h).costs x i;
      links = λ c h e x i. ap₂ (λ (a b : Flow). link_figure (link_of k c) a b) (M.leaves x i) (M.enters x i);
      own_keys = λ x h. sym (key_is _ _ (key_alone (netted k) _ (choice_at (ordered base (netted k))) (falls k G) p x) (key_alone (netted k) _ (choice_at (ordered base (netted k))) (falls k G) p x));
      keys = λ c h e x i. back_is c x (λ d y z j q o.
          let up = falls k G d z in (above ((netted k).parent d) (omega (arith, later c e)) (omega arith)).choices d y j (child_of (netted k) d z) o) i;
    }

    -- so it is the net's
    right : Built k (2 ^ k.services) p sums t u → Right k t u p
    unfolding cost_entry
    right B = record {
      costs = λ x h. B.costs x h
          ∙ rebuilt_holds (netted k) (falls k G) 200000000 (nodes k G) (links k G) (small k G) base low_digits G.some_cabinet G.cabinets (omega arith) p _ sourced k.cabinets (omega arith) x h;
      choices = λ c x h e i. B.chosen c x h (same_child k (2 ^ k.services) sums (falls k G) refl p t u c ∙ e) i
          ∙ rebuilt_kept (netted k) (falls k G) 200000000 (nodes k G) (links k G) (small k G) base low_digits G.some_cabinet G.cabinets (omega arith) p _ sourced c x h e i;
    }

  all_from : (n p : ℕ) → p < k.cabinets → k.cabinets ≤ p + n → Right k t u p
  all_from zero p l h = absurd (omega arith)
  all_from (suc n) p l h = ⊎_elim (λ B. right p l (λ d i j. all_from n d j (omega arith)) B) (λ R. R) (rows p l)

  -- every row is the net's
  all_right : (p : ℕ) → p < k.cabinets → Right k t u p
  all_right p l = all_from k.cabinets p l (omega arith)

  -- the entries of the choice table
  chosen_is : (c x : ℕ) → 0 < c → kept_choice base (netted k) c x ≡ choice_entry k c x
  unfolding choice_entry only
  chosen_is c x z = sym (rw (lt-ltb 0 c z))

  root_is : (x : ℕ) → 0 ≡ choice_entry k 0 x
  unfolding choice_entry only
  root_is x = refl

  choices_are : ((x : ℕ) → x < 2 ^ k.services → entry (2 ^ k.services) u 0 x ≡ 0) → (c x : ℕ) → c < k.cabinets → x < 2 ^ k.services → entry (2 ^ k.services) u c x ≡ choice_entry k c x
  choices_are root c x l h = go (ltb 0 c) refl
    where
      go : (b : Bool) → ltb 0 c ≡ b → entry (2 ^ k.services) u c x ≡ choice_entry k c x
      go true e =
          let z = ltb-true 0 c e in
          let up = falls k G c z in
          (all_right ((netted k).parent c) (omega arith)).choices c x l (child_of (netted k) c z) h ∙ chosen_is c x z
      go false e =
          let z : c ≡ 0 = omega (arith, ltb-false 0 c e) in
          subst (λ (c : ℕ). entry (2 ^ k.services) u c x ≡ choice_entry k c x) (sym z) (root x h ∙ root_is x)

  -- Both tables hold the net's entries.
  pub held : ((x : ℕ) → x < 2 ^ k.services → entry (2 ^ k.services) u 0 x ≡ 0) → Filled k t u (weighed (netted k))
  held root = record { costs = λ p x l h. (all_right p l).costs x h; choices = λ c x l h. choices_are root c x l h; count = refl }

-- Tables all of whose rows are built are filled, and the count is that of the splits weighed.
pub filled : (k : Records) (G : Good k) {sums : List ℕ} → SumsOf k (2 ^ k.services) sums → {t t₁ u u₁ : List ℕ} {m : ℕ} → Fills k (2 ^ k.services) sums t t₁ u u₁ m
    → ((x : ℕ) → x < 2 ^ k.services → entry (2 ^ k.services) u 0 x ≡ 0) → Filled k t₁ u₁ m
filled k G {sums} M {t} {t₁} {u} {u₁} F root = record {
  costs = H.costs;
  choices = H.choices;
  count = F.count
      ∙ sum_ext k.cabinets _ _ (λ p l.
      rebuilt_counted (netted k) (falls k G) 200000000 (nodes k G) (links k G) (small k G) base low_digits G.some_cabinet G.cabinets (omega arith) p _ (sourced k G M built p l (λ d i j. all_right k G M built d j)) k.cabinets (omega arith))
      ∙ joins_weighed (netted k) (falls k G);
}
  where
    built : (p : ℕ) → p < k.cabinets → Built k (2 ^ k.services) p sums t₁ u₁ ⊎ Right k t₁ u₁ p
    built p l = inl (F.rows p l)

    H : Filled k t₁ u₁ (weighed (netted k))
    H = held k G M built (λ x h. F.root x h ∙ root x h)

-- ---- one cabinet changed

-- Tables of a net that differs in e alone, with the rows from e up to the root built, are those of the records' net.
module _ (k : Records) (G : Good k) {sums : List ℕ} (M : SumsOf k (2 ^ k.services) sums) (e : ℕ) {t t₁ u u₁ : List ℕ} (C : Climbs k (2 ^ k.services) e sums t t₁ u u₁)
    (N : Net) (D : Differ e N (netted k)) (H : Holding N t u) where
  falls_before : Falls N.parent
  falls_before c z = omega (arith, D.parents c, falls k G c z)

  off_before : (d : ℕ) → on_path k e d ≡ false → Off N e d
  off_before d off = ap (λ (up : ℕ → ℕ). under up d e) (fun_ext D.parents) ∙ off

  same_row : (p x : ℕ) → p < k.cabinets → on_path k e p ≡ false → x < 2 ^ k.services → entry (2 ^ k.services) t₁ p x ≡ cost_entry k p x
  unfolding cost_entry
  same_row p x l off h =
      C.costs p x off h ∙ ap (λ (r : ℕ). entry (2 ^ r) t p x) (sym D.services)
      ∙ H.costs p x (omega (arith, D.nodes)) (subst (λ (r : ℕ). x < 2 ^ r) (sym D.services) h)
      ∙ ap figure (row_all_local N (netted k) e falls_before D p x (off_before p off))

  same_choice : (c x : ℕ) → c < k.cabinets → 0 < c → on_path k e (parent_of k c) ≡ false → x < 2 ^ k.services → entry (2 ^ k.services) u₁ c x ≡ kept_choice base (netted k) c x
  unfolding only
  same_choice c x l z off h =
      C.choices c x (λ y m. off) h ∙ ap (λ (r : ℕ). entry (2 ^ r) u c x) (sym D.services)
      ∙ H.choices c x (omega (arith, D.nodes)) (subst (λ (r : ℕ). x < 2 ^ r) (sym D.services) h)
      ∙ ap (λ (b : Bool). only b (kept_choice base N c x)) (lt-ltb 0 c z)
      ∙ kept_choice_local base N (netted k) e falls_before D c x z (ap (λ (v : ℕ). under N.parent v e) (D.parents c) ∙ off_before (parent_of k c) off)

  same_root : (x : ℕ) → x < 2 ^ k.services → entry (2 ^ k.services) u₁ 0 x ≡ 0
  unfolding only
  same_root x h =
      C.choices 0 x (λ z m. absurd (omega arith)) h ∙ ap (λ (r : ℕ). entry (2 ^ r) u 0 x) (sym D.services)
      ∙ H.choices 0 x (omega (arith, D.nodes, G.some_cabinet)) (subst (λ (r : ℕ). x < 2 ^ r) (sym D.services) h)

  either_row : (p : ℕ) → p < k.cabinets → Built k (2 ^ k.services) p sums t₁ u₁ ⊎ Right k t₁ u₁ p
  either_row p l = go (on_path k e p) refl
    where
      go : (b : Bool) → on_path k e p ≡ b → Built k (2 ^ k.services) p sums t₁ u₁ ⊎ Right k t₁ u₁ p
      go true on = inl (C.rows p l on)
      go false off = inr (record {
        costs = λ x h. same_row p x l off h;
        choices = λ c x i is h. let w = child_parent (netted k) p c is in same_choice c x i w.0 (ap (on_path k e) w.1 ∙ off) h;
      })

  pub updated : Filled k t₁ u₁ (weighed (netted k))
  updated = held k G M either_row same_root

-- the tests at the head of the filling pass
pub all_tests : (k : Records) → sound k ≡ true → Good k → (sums t u : ℕ) → sums ≡ all_sums → t ≡ k.cabinets * 2 ^ k.services → u ≡ k.cabinets * 2 ^ k.services → fillable k sums t u ≡ true
unfolding has_rows
all_tests k e G sums t u s costs choices =
    both (has_rows k.services k.cabinets sums t u) _
    (rw (le-leb _ _ G.services, le-leb _ _ G.cabinets, le-leb all_sums sums (omega arith), le-leb (k.cabinets * 2 ^ k.services) t (omega arith)) (le-leb (k.cabinets * 2 ^ k.services) u (omega arith)))
    (parents_fall k e)

-- the root's row lies within a choice table
pub first_row : {k : Records} {size : ℕ} {t u : List ℕ} → Ready k size t u → size ≤ length u
first_row {k} {size} P = omega (arith, row_within size k.cabinets (good k P.is_sound).some_cabinet, P.choices)

-- what the sums of all sets ask for
pub ready_services : {k : Records} {size : ℕ} {t u : List ℕ} → Ready k size t u → (size ≤ 1024) × (k.services ≤ 10) × (k.streams ≤ 100)
ready_services {k} {size} P =
    let G = good k P.is_sound in
    (omega (arith, P.row_size, sets_le k G), G.services, G.streams)
