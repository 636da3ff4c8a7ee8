-- `put_record` meets its contract. The invariant: the fields of the columns passed stand there.
use Rattle.std.proofs.Common.{◌+◌, ◌*◌, [], ◌∷◌, sym, ◌∙◌, arith}
use Rattle.tidy.specs.Inner.Put.{put}
use Rattle.tidy.specs.Inner.Columns.{row}
use Rattle.tidy.proofs.Put.{put_none}
use Rattle.tidy.proofs.Columns.{field_next}
use Rattle.tidy.proofs.words.put_record.Goals as goal

pub loop-k-init : goal.loop-k-init
unfolding row
loop-k-init c = sym (put_none c.args.out.now c.args.at)

pub loop-k-preserved : goal.loop-k-preserved
loop-k-preserved c =
    let a = c.args in
    let l = c.loop-k in
    let w = c.field.ensures in
    let o = l.invariant in
    c.put_words.ensures
    ∙ (λ t. put (o t) (a.at + 2 * l.k) (w t ∷ []))
    ∙ field_next a.out.now a.at a.count a.columns.now a.i l.k _ (omega arith) c.requires
