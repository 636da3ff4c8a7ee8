-- `load_services` meets its contract.
use Rattle.sheet.specs.Instance.{instance}
use Rattle.records.specs.Inner.Loading.{Loading}
use Rattle.records.proofs.loading.Accepted.load_services.Given as goal

abbrev pub invariant-loop-i : goal.invariant-loop-i
invariant-loop-i l = Loading (instance l.self.bytes.now) l.i 0 0 l.records
