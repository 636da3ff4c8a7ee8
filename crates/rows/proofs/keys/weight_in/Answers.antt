-- `weight_in` meets its contract.
use native.Mathlib.Omega.{arith}
use mathlib.Core.Path.{◌≡◌, sym, ap, ◌∙◌}
use Rattle.rows.proofs.Weighing.{weight_below, weigh_start, weigh_in, weigh_out, weigh_le, weigh_end}
use Rattle.rows.proofs.keys.weight_in.Goals as goal
use Rattle.rows.proofs.keys.weight_in.Goals.{then-member, else-member}

pub loop-i-init : goal.loop-i-init
loop-i-init c = weigh_start c.args.r c.args.x

pub plus-sum-requires : goal.plus-sum-requires
plus-sum-requires c = rw (c.loop-i.invariant, c.weight_of.ensures) (weigh_le c.args.r c.args.x c.loop-i.i c.requires (omega arith))

pub loop-i-preserved : goal.loop-i-preserved
loop-i-preserved c = elim c.if-member.branch [
  | then-member w ↦ w.sum-is ∙ w.plus-sum.ensures
      ∙ weigh_in c.args.r c.args.x c.loop-i.i (sym c.member.ensures ∙ w.if-member.true) _ _ c.loop-i.invariant w.weight_of.ensures
  | else-member w ↦ w.sum-is ∙ c.loop-i.invariant ∙ weigh_out c.args.r c.args.x c.loop-i.i (sym c.member.ensures ∙ w.if-member.false)
]

pub returns : goal.returns
returns c =
    c.loop-i.invariant ∙ ap (weight_below c.args.r c.args.x) (let e : c.loop-i.i ≡ c.args.r = omega arith in e) ∙ weigh_end c.args.r c.args.x
