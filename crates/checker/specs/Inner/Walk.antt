-- What the walk over the links answers for a plan that passes all tests before that of the links.
use Rattle.std.specs.Prelude.{ℕ, cond, Ok, Err}
use Rattle.sheet.specs.Refusals.{refusal}
use Rattle.sheet.specs.Instance.{Instance}
use Rattle.embedding.specs.Plan.{links_keep, plan_cost}
use Rattle.checker.specs.Check.{Checked}

-- the plan's cost, or refusal 16 where a link is overfull
unfoldable pub walked : Instance → (ℕ → ℕ) → Checked
walked I π = cond (links_keep I π) (Ok (plan_cost I π)) (Err (refusal 16))
