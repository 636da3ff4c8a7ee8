-- `with_stream` meets its contract: the stream is read, and joins the flow that it takes the link in.
use Prim.Native.Nat.{ℕ, ◌+◌, ◌<◌}
use native.Mathlib.Omega.{arith}
use mathlib.Core.Path.{◌≡◌, sym, ap₂, ◌∙◌, subst}
use mathlib.Core.Bool.{Bool}
use mathlib.Core.List.{List}
use Rattle.records.specs.declared.flows.Flow.{Flow}
use Rattle.embedding.specs.Plan.{place}
use Rattle.checker.specs.Inner.Flows.{Small, crosses, joined}
use Rattle.checker.proofs.Told.{from_at, to_at, load_at}
use Rattle.checker.proofs.Flows.{joined_small}
use Rattle.checker.proofs.streams.Flows.with_stream.Goals as goal

-- a flow after one stream more, whose demand d the code reads, as well as its ends a and b
read : (marks : List Bool) (π : ℕ → ℕ) (f : Flow) {g : Flow} {t : Bool} {a b d A B D : ℕ} → g ≡ joined f t d → t ≡ crosses marks (π a) (π b)
    → a ≡ A → b ≡ B → d ≡ D → g ≡ joined f (crosses marks (π A) (π B)) D
read marks π f p q r s u = p ∙ ap₂ (λ (t : Bool) (d : ℕ). joined f t d) (q ∙ ap₂ (λ (a b : ℕ). crosses marks (π a) (π b)) r s) u

pub returns-clause-flows : goal.returns-clause-flows
returns-clause-flows c =
    let a = c.args in
    let k = a.records.now in
    let from_is = c.from-from.ensures ∙ c.field.ensures ∙ from_at k a.j in
    let to_is = c.from-to.ensures ∙ c.field-2.ensures ∙ to_at k a.j in
    let demand_is = c.field-demand.ensures ∙ load_at k a.j in
    let m = a.marks.now in
    let π = place a.plan.now in
    ap₂ (λ (u d : Flow). record { up = u; down = d })
    (read m π a.self.up c.join.ensures c.leaves.ensures from_is to_is demand_is)
    (read m π a.self.down c.join-2.ensures c.leaves-2.ensures to_is from_is demand_is)

pub returns-clause-few : goal.returns-clause-few
returns-clause-few c =
    let a = c.args in
    let d = c.field-demand.result in
    let small : d < 65536 = omega (arith, c.field-demand.type_inv) in (
      subst (Small (a.j + 1)) (sym c.join.ensures) (joined_small a.j a.self.up c.leaves.result d small c.requires.0.0),
      subst (Small (a.j + 1)) (sym c.join-2.ensures) (joined_small a.j a.self.down c.leaves-2.result d small c.requires.0.1),
    )
