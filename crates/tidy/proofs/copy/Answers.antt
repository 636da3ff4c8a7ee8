-- `copy` meets its contract: 21 where the output is too short, else the copy stands at its front.
use Prim.Native.Nat.{ℕ, ◌≤◌}
use native.Mathlib.Omega.{arith}
use mathlib.Core.Path.{refl, sym, ap, ◌∙◌}
use mathlib.Core.List.{◌++◌}
use lib.ListN.{length, drop}
use Rattle.std.specs.Prelude.{Ok}
use Rattle.records.specs.Told.{told}
use Rattle.tidy.specs.Copy.{copy_length, tidied}
use Rattle.tidy.specs.Answers.{output_after}
use Rattle.tidy.proofs.Whole.{counted_length, at_front, too_short, long_enough}
use Rattle.tidy.proofs.copy.Goals as goal

pub returns-then-output-end : goal.returns-then-output-end
unfolding output_after
returns-then-output-end c =
    let a = c.args in
    let e = c.length-end.ensures.value ∙ counted_length _ _ _ _ _ c.of-layout.ensures in
    record { answer = too_short (copy_length (told a.records.now)) (length a.output.now) (omega (arith, e)); output = refl }

pub write-requires : goal.write-requires
write-requires c =
    let e = c.length-end.ensures.value ∙ counted_length _ _ _ _ _ c.of-layout.ensures in
    record { counted = c.of-layout.ensures; room = omega (arith, e) }

pub returns : goal.returns
unfolding output_after
returns c =
    let a = c.args in
    let I = told a.records.now in
    let e = c.length-end.ensures.value ∙ counted_length _ _ _ _ _ c.of-layout.ensures in
    let room : copy_length I ≤ length a.output.now = omega (arith, e) in record {
      answer = ap Ok e ∙ long_enough (copy_length I) (length a.output.now) room;
      output = c.write.ensures ∙ at_front I a.output.now room ∙ ap (λ (m : ℕ). tidied I ++ drop m a.output.now) (sym e);
    }
