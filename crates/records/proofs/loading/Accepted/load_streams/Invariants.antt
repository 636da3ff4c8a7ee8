-- `load_streams` meets its contract.
use Rattle.sheet.specs.Instance.{instance}
use Rattle.records.specs.Inner.Loading.{Loading}
use Rattle.records.proofs.loading.Accepted.load_streams.Given as goal

abbrev pub invariant-loop-j : goal.invariant-loop-j
invariant-loop-j l = Loading (instance l.self.bytes.now) (instance l.self.bytes.now).r (instance l.self.bytes.now).s l.j l.records
