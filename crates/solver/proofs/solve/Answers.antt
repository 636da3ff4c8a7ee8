-- `solve` meets its contract: where there is an answer both tables are cleared.
use Rattle.std.specs.Prelude.{ℕ, replicate}
use mathlib.Core.Path.{sym, ap, ◌∙◌}
use Rattle.finite.proofs.Booleans.{clash}
use Rattle.solver.proofs.Deciding.{fit, answered}
use Rattle.solver.proofs.solve.Goals as goal
use Rattle.solver.proofs.solve.Goals.{in-Unfit, in_default}

pub returns-then-not-matches : goal.returns-then-not-matches
returns-then-not-matches c =
    let K = c.keep-answer.ensures in
    let p = answered K (elim c.match-matches.branch [ in-Unfit w ↦ λ e. clash (sym w.matches-is ∙ c.if-not-matches.true) | in_default w ↦ w.in_default.not-Unfit ]) in
    let T = fit _ _ _ _ p in
    record {
      answer = K.answer;
      output = K.output;
      tables = λ e. (
        c.fill.ensures.after (λ y q. q) ∙ ap (λ (n : ℕ). replicate n 0) (c.keep-answer.auto.costs ∙ T.costs_size),
        c.fill-then-not-matches.ensures.after (λ y q. q) ∙ ap (λ (n : ℕ). replicate n 0) (c.keep-answer.auto.choices ∙ T.choices_size),
      );
      left = λ e. clash (sym p ∙ e);
    }
