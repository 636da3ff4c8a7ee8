-- The planner's answer for the core's.
use Rattle.sheet.specs.Refusals.{refusal}
use Rattle.sheet.specs.declared.Refusal.{Refusal}
use Rattle.solver.specs.declared.Kept.{Kept}
use Rattle.solver.specs.declared.Kept.TheVariants as kept
use Rattle.planner.specs.Answers.{Planned, plan_of, unplanned}
use Rattle.planner.specs.declared.Unplanned.{Unplanned}

-- a refusal before any split was weighed
abbrev pub uncounted : Refusal → Unplanned
uncounted f = record { refusal = f; count = 0 }

-- a plan, or 12 where there is none; the core finds no sheet's records unfit, and what stands for that is never given
abbrev pub planned_of : Kept → Planned
planned_of (kept.Plan c n) = plan_of c n
planned_of (kept.NoPlan n) = unplanned (refusal 12) n
planned_of kept.Unfit = unplanned (refusal 11) 0
