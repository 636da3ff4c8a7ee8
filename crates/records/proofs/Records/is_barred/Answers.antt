-- `is_barred` meets its contract: the members of a cabinet's set are the services barred from it.
use Prim.Native.Nat.{◌<◌}
use native.Mathlib.Omega.{arith}
use mathlib.Core.Path.{◌∙◌}
use borrow.Author.Tests.{le-ltb}
use Rattle.records.specs.Told.{told}
use Rattle.records.proofs.Bars.{set_barred}
use Rattle.records.proofs.Records.is_barred.Goals as goal

pub returns-then-self-i : goal.returns-then-self-i
unfolding told
returns-then-self-i c = rw (le-ltb _ _ c.if-self-i.true)

pub returns : goal.returns
returns c =
    let a = c.args in
    let there : a.i < a.self.now.services = omega (arith, c.if-self-i.false) in
    c.is_in_set.ensures ∙ set_barred a.self.now a.i a.c there
