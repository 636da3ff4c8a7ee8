-- One cabinet changed: off the path from it to the root both tables have the same for both instances.
use Rattle.std.proofs.Common.{◌≡◌, ℕ, ◌<◌, false, ltb, List, sym, ap, ◌∙◌, subst, ltb-true}
use mathlib.Core.Path.{fun_ext}
use Rattle.finite.proofs.Sums.{only_ext}
use Rattle.subsets.specs.Tree.{under}
use Rattle.subsets.specs.Inner.Encoded.{figure}
use Rattle.subsets.specs.Inner.Net.{Falls}
use Rattle.subsets.specs.Inner.Local.{Differ, Off}
use Rattle.subsets.proofs.Local.{row_all_local, kept_choice_local}
use Rattle.rows.specs.Keys.{base}
use Rattle.sheet.specs.Instance.{Instance, instance}
use Rattle.sheet.proofs.Promises.{joints_by_capacity}
use Rattle.sheet.proofs.Same.{same_joint}
use Rattle.embedding.specs.Limits as limits
use Rattle.embedding.specs.Plan as plans
use Rattle.embedding.specs.Inner.Charge as charges
use Rattle.embedding.specs.Inner.Charge.{cabinet_charge, link_charge, net}
use Rattle.planner.specs.Inner.Tables.{cost_entry, choice_entry}
use Rattle.edit.specs.Changed.{Beside, Changed}

-- two sheets whose capacities are the same but at e have the same joints but at e
pub joints_beside : (bytes others : List ℕ) (e : ℕ) → (instance bytes).s ≡ (instance others).s
    → Beside e (instance bytes).capacity (instance others).capacity → Beside e (instance bytes).joint (instance others).joint
joints_beside bytes others e s same c n =
    same_joint (instance bytes) (instance others) (joints_by_capacity bytes) (joints_by_capacity others) s c (λ l. same c n)

-- ---- the charges of every other cabinet are the same

module _ (e : ℕ) (I J : Instance) (E : Changed e I J) where
  -- fields that are the same of every record
  demands : I.demand ≡ J.demand
  demands = fun_ext E.demand

  bars : I.barred ≡ J.barred
  bars = fun_ext (λ i. fun_ext (λ c. E.barred i c))

  froms : I.from ≡ J.from
  froms = fun_ext E.from

  tos : I.to ≡ J.to
  tos = fun_ext E.to

  loads : I.load ≡ J.load
  loads = fun_ext E.load

  pub same_parents : I.parent ≡ J.parent
  same_parents = fun_ext E.parent

  -- what is charged depends on them and on the cabinet's own record
  node_same : (c x : ℕ) → (c ≡ e → ⊥) → cabinet_charge I c x ≡ cabinet_charge J c x
  unfolding charges.cabinet_charge plans.admits plans.fits plans.demand_of plans.powered plans.unbarred plans.fee
  node_same c x n = rw (E.services, demands, E.capacity c n, E.price c n, E.joint c n, bars)

  link_same : (c x : ℕ) → (c ≡ e → ⊥) → link_charge I c x ≡ link_charge J c x
  unfolding charges.link_charge charges.leaving charges.entering plans.link_fits plans.toll limits.weight limits.frames
  link_same c x n = rw (E.streams, froms, tos, loads, E.up_capacity c n, E.down_capacity c n, E.up_price c n, E.down_price c n)

  -- The nets differ at that cabinet alone.
  pub edit_differs : Differ e (net I) (net J)
  edit_differs = record { services = E.services; nodes = E.cabinets; parents = E.parent; node = node_same; link = link_same }

  -- ---- so are the entries off the path

  module _ (falls : Falls J.parent) where
    -- both have the same tree
    falls_before : Falls I.parent
    falls_before = subst Falls (sym same_parents) falls

    off_before : (c : ℕ) → under J.parent c e ≡ false → Off (net I) e c
    off_before c o = ap (λ (p : ℕ → ℕ). under p c e) same_parents ∙ o

    -- the costs of the cabinets off the path
    pub cost_same : (c x : ℕ) → under J.parent c e ≡ false → cost_entry I c x ≡ cost_entry J c x
    unfolding cost_entry
    cost_same c x o = ap figure (row_all_local (net I) (net J) e falls_before edit_differs c x (off_before c o))

    -- the choices of the root, and of the cabinets whose parents are off the path
    pub choice_same : (c x : ℕ) → (0 < c → under J.parent (J.parent c) e ≡ false) → choice_entry I c x ≡ choice_entry J c x
    unfolding choice_entry
    choice_same c x o =
        only_ext (ltb 0 c) _ _ (λ q.
        kept_choice_local base (net I) (net J) e falls_before edit_differs c x (ltb-true 0 c q)
        (off_before (I.parent c) (ap (λ (p : ℕ). under J.parent p e) (E.parent c) ∙ o (ltb-true 0 c q))))
