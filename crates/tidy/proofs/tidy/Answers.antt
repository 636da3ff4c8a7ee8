-- `tidy` meets its contract: the reader's refusal is handed on, and an accepted sheet is copied.
use Prim.Native.Nat.{ℕ}
use mathlib.Core.Path.{◌≡◌, refl, sym, ap, ◌∙◌, subst}
use mathlib.Core.List.{List}
use lib.ListN.{length}
use Rattle.std.proofs.Common.{rules}
use Rattle.std.specs.Prelude.{Err}
use Rattle.sheet.specs.Reading.{Reading}
use Rattle.sheet.specs.Instance.{Instance, WellFormed, instance}
use Rattle.records.proofs.Taken.{refused, accepts, same, well}
use Rattle.tidy.specs.Copy.{copy_length, tidied}
use Rattle.tidy.specs.Answers.{Written, written, answered, tidy_answer, output_after}
use Rattle.tidy.specs.Inner.Limited.{Limited}
use Rattle.tidy.proofs.tidy.Goals as goal

-- the counts of a well-formed instance
limited : (I : Instance) → WellFormed I → Limited I.r I.s I.q
limited I W = record { services = W.services; cabinets = W.cabinets; streams = W.streams }

pub returns-in_err-loaded-clause-answer : goal.returns-in_err-loaded-clause-answer
unfolding tidy_answer answered
returns-in_err-loaded-clause-answer c =
    let a = c.args in
    let e : c.from_residual.result ≡ Err c.in_err-loaded.field-0.0 = search rules in
    e ∙ sym (ap (λ (o : Reading). answered o (instance a.sheet.now) (length a.output.now)) (refused _ c.load.ensures.answer _ c.in_err-loaded.was))

pub returns-in_err-loaded-clause-output : goal.returns-in_err-loaded-clause-output
unfolding output_after
returns-in_err-loaded-clause-output c =
    let a = c.args in
    let e : c.from_residual.result ≡ Err c.in_err-loaded.field-0.0 = search rules in
    sym (ap (λ (o : Written). output_after (tidied (instance a.sheet.now)) o a.output.now) e)

pub copy-requires : goal.copy-requires
copy-requires c = limited _ (well _ c.load.ensures.answer c.in_ok-loaded.was c.load.ensures.records)

pub returns-clause-answer : goal.returns-clause-answer
unfolding tidy_answer answered
returns-clause-answer c =
    let a = c.args in
    c.copy.ensures.answer
    ∙ ap (λ (J : Instance). written (copy_length J) (length a.output.now)) (same _ c.load.ensures.answer c.in_ok-loaded.was c.load.ensures.records)
    ∙ sym (ap (λ (o : Reading). answered o (instance a.sheet.now) (length a.output.now)) (accepts _ c.load.ensures.answer c.in_ok-loaded.was))

pub returns-clause-output : goal.returns-clause-output
returns-clause-output c =
    c.copy.ensures.output ∙ ap (λ (J : Instance). output_after (tidied J) c.copy.result c.args.output.now) (same _ c.load.ensures.answer c.in_ok-loaded.was c.load.ensures.records)
