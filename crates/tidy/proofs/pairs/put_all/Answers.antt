-- `put_all` meets its contract. The invariants: the pairs passed stand there, and the next place is behind them.
use Prim.Native.Nat.{ℕ, ◌+◌, ◌*◌, ◌≤◌}
use native.Mathlib.Omega.{arith}
use mathlib.Core.Path.{◌≡◌, sym, ap, ◌∙◌, subst}
use lib.ListN.{length}
use Rattle.records.specs.Told.{told}
use Rattle.records.proofs.Bars.{set_barred}
use Rattle.tidy.specs.Words.{concat_below}
use Rattle.tidy.specs.Copy.{service_pairs, pair_words, service_count}
use Rattle.tidy.specs.Inner.Put.{put}
use Rattle.tidy.proofs.Putting.{Within, within_start, within_taken, within_passed, through_start, service_room, pair_fits, through_next}
use Rattle.tidy.proofs.pairs.put_all.Goals as goal
use Rattle.tidy.proofs.pairs.put_all.Goals.{then-is_in_set, else-is_in_set}

pub loop-i-init : goal.loop-i-init
loop-i-init c = through_start _ _ _

pub loop-c-init : goal.loop-c-init
loop-c-init c = within_start _ _ _ _

pub overflow_cast-i : goal.overflow_cast-i
unfolding told
overflow_cast-i c = omega arith

pub overflow_cast-c : goal.overflow_cast-c
unfolding told
overflow_cast-c c = omega arith

pub put_words-requires : goal.put_words-requires
unfolding told
put_words-requires c =
    let k = c.args.records.now in
    let t = sym (c.is_in_set.ensures ∙ set_barred k c.loop-i.i c.loop-c.c c.loop-i-test.true) ∙ c.if-is_in_set.true in
    omega (arith, pair_fits (told k) _ _ _ _ _ c.loop-i.invariant c.requires.2 c.loop-i-test.true _ _ _ c.loop-c.invariant c.loop-c-test.true t)

pub overflow_add-next : goal.overflow_add-next
unfolding told
overflow_add-next c =
    let k = c.args.records.now in
    let t = sym (c.is_in_set.ensures ∙ set_barred k c.loop-i.i c.loop-c.c c.loop-i-test.true) ∙ c.if-is_in_set.true in
    omega (arith, pair_fits (told k) _ _ _ _ _ c.loop-i.invariant c.requires.2 c.loop-i-test.true _ _ _ c.loop-c.invariant c.loop-c-test.true t)

pub loop-c-preserved : goal.loop-c-preserved
unfolding told
loop-c-preserved c =
    let k = c.args.records.now in
    let room = service_room (told k) _ _ _ _ _ c.loop-i.invariant c.requires.2 c.loop-i-test.true in
    let here : c.loop-i.next + 4 * service_count (told k) c.loop-i.i ≤ length c.loop-i.out = omega (arith, room) in
    let b = sym (c.is_in_set.ensures ∙ set_barred k c.loop-i.i c.loop-c.c c.loop-i-test.true) in
    elim c.if-is_in_set.branch [
      | then-is_in_set w ↦ within_taken (told k) _ _ _ _ _ _ c.loop-c.invariant c.loop-c-test.true here _ _ (b ∙ w.if-is_in_set.true) w.next-is (w.out-is ∙ w.put_words.ensures)
      | else-is_in_set w ↦ within_passed (told k) _ _ _ _ _ _ c.loop-c.invariant c.loop-c-test.true here _ _ (b ∙ w.if-is_in_set.false) w.next-is w.out-is
    ]

pub loop-i-preserved : goal.loop-i-preserved
unfolding told
loop-i-preserved c =
    let I = told c.args.records.now in
    let e : c.loop-c.c ≡ I.s = omega arith in
    through_next I _ _ _ _ _ c.loop-i.invariant c.requires.2 c.loop-i-test.true _ _
    (subst (λ (n : ℕ). Within I c.loop-i.out c.loop-i.next c.loop-i.i n c.loop-c.next c.loop-c.out) e c.loop-c.invariant)

pub returns : goal.returns
unfolding told pair_words
returns c =
    let I = told c.args.records.now in
    let e : c.loop-i.i ≡ I.r = omega arith in
    c.loop-i.invariant.bytes_put ∙ ap (λ (n : ℕ). put c.args.out.now c.args.at (concat_below n (service_pairs I))) e
