-- `put_records` meets its contract. The invariant: the records passed stand one behind the other.
use Rattle.std.proofs.Common.{ℕ, ◌+◌, ◌*◌, List, ap, ◌∙◌, arith, length}
use Rattle.tidy.specs.Inner.Put.{put}
use Rattle.tidy.specs.Inner.Columns.{row}
use Rattle.tidy.proofs.Put.{record_start}
use Rattle.tidy.proofs.Columns.{row_next}
use Rattle.tidy.proofs.words.put_records.Goals as goal

pub loop-i-init : goal.loop-i-init
loop-i-init c = record_start _ _ _

pub loop-i-preserved : goal.loop-i-preserved
loop-i-preserved c =
    let a = c.args in
    let l = c.loop-i in
    c.put_record.ensures
    ∙ ap (λ (o : List ℕ). put o (a.at + 2 * (length a.columns.now * l.i)) (row a.count a.columns.now l.i)) l.invariant
    ∙ row_next a.out.now a.at a.count a.columns.now l.i (omega arith) c.requires
