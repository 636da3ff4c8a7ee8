-- `load_cabinets` meets its contract.
use Rattle.sheet.specs.Instance.{instance}
use Rattle.records.specs.Inner.Loading.{Loading}
use Rattle.records.proofs.loading.Accepted.load_cabinets.Given as goal

abbrev pub invariant-loop-c : goal.invariant-loop-c
invariant-loop-c l = Loading (instance l.self.bytes.now) (instance l.self.bytes.now).r l.c 0 l.records
