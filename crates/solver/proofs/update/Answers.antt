-- `update` meets its contract: the rows on the path are built again, and the tables decide.
use Rattle.std.specs.Prelude.{ℕ, ◌-◌, ◌*◌, ◌^◌, ltb, get_or}
use native.Mathlib.Omega.{arith}
use mathlib.Core.Path.{sym, ap, ◌∙◌, subst}
use lib.Pow.{pow_pos}
use borrow.Author.Tests.{lt-ltb}
use Rattle.finite.specs.Below.{only, sum_below}
use Rattle.finite.proofs.Booleans.{clash, both}
use Rattle.rows.specs.Rebuilds.{entry}
use Rattle.solver.specs.Sums.{SumsOf}
use Rattle.solver.specs.Tables.{read_answer}
use Rattle.solver.proofs.Sounding.{good}
use Rattle.solver.proofs.Filling.{all_tests, updated}
use Rattle.solver.proofs.Deciding.{fit}
use Rattle.solver.proofs.update.Goals as goal

pub count_joins-count-requires : goal.count_joins-count-requires
count_joins-count-requires c =
    let F = fit _ _ _ _ (sym c.fits.ensures ∙ c.if-not-fits.false) in
    let G = good _ F.is_sound in
    let e = c.sets_of-size.ensures.power (omega (arith, G.services)) in
    (omega (arith, e, pow_pos c.args.records.now.services), G.some_cabinet, G.cabinets, omega (arith, c.rebuild_path.auto.choices, F.choices_size, ap (λ (n : ℕ). c.args.records.now.cabinets * n) e))

pub returns : goal.returns
returns c =
    let k = c.args.records.now in
    let z = sym c.fits.ensures ∙ c.if-not-fits.false in
    let F = fit _ _ _ _ z in
    let G = good k F.is_sound in
    let within = lt-ltb c.args.e k.cabinets c.if-records-e.false in
    let size = c.sets_of-size.ensures.power (omega (arith, G.services)) in
    let summed = subst (λ (n : ℕ). SumsOf k n c.sum_sets.new.of) size c.sum_sets.ensures in
    let C = c.rebuild_path.ensures.done (both (ltb c.args.e k.cabinets) _ within (all_tests k F.is_sound G _ _ _ summed.size F.costs_size F.choices_size)) in
    let n = c.count_joins-count.ensures ∙ ap (λ (z : ℕ). sum_below k.cabinets (λ d. only (ltb 0 d) (entry z c.rebuild_path.new.choices d 0))) size in
    record {
      answer = λ p. c.decide.ensures.answer ∙ ap (read_answer (get_or c.rebuild_path.new.costs (2 ^ k.services - 1) 0)) n;
      output = λ p. c.decide.ensures.output;
      costs = λ p. C.costs;
      choices = λ p. C.choices;
      tables = λ p N E H. updated k G summed c.args.e C N E H;
      left = λ p. clash (sym (both (ltb c.args.e k.cabinets) _ within z) ∙ p);
    }
