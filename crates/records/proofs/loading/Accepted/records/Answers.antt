-- `records` meets its contract: nothing, then the services, the cabinets, the streams, what is barred and the joints are loaded.
use native.Mathlib.Omega.{arith}
use mathlib.Core.Path.{◌∙◌}
use Rattle.sheet.specs.Instance.{instance}
use Rattle.sheet.proofs.Promises.{counts, well_formed}
use Rattle.records.proofs.Columns.{none_loaded, with_barred, loaded}
use Rattle.records.proofs.Bars.{all_barred}
use Rattle.records.proofs.Joints.{all_jointed}
use Rattle.records.proofs.loading.Accepted.records.Goals as goal

pub load_services-requires-clause-loaded : goal.load_services-requires-clause-loaded
load_services-requires-clause-loaded c =
    let a = c.args.self.now in
    let n = counts a.bytes.now a.sheet a.accepted in
    rw c.blank_records-records.ensures
    (none_loaded (instance a.bytes.now) _ _ _ (c.services.ensures ∙ n.0) (c.cabinets.ensures ∙ n.1) (c.streams.ensures ∙ n.2))

pub load_services-requires-clause-limit : goal.load_services-requires-clause-limit
load_services-requires-clause-limit c =
    let a = c.args.self.now in
    omega (arith, (counts a.bytes.now a.sheet a.accepted).0, (well_formed a.bytes.now a.sheet a.accepted).services)

pub load_cabinets-requires-clause-limit : goal.load_cabinets-requires-clause-limit
load_cabinets-requires-clause-limit c =
    let a = c.args.self.now in
    omega (arith, (counts a.bytes.now a.sheet a.accepted).1, (well_formed a.bytes.now a.sheet a.accepted).cabinets)

pub load_streams-requires-clause-limit : goal.load_streams-requires-clause-limit
load_streams-requires-clause-limit c =
    let a = c.args.self.now in
    omega (arith, (counts a.bytes.now a.sheet a.accepted).2, (well_formed a.bytes.now a.sheet a.accepted).streams)

pub returns : goal.returns
returns c =
    let a = c.args.self.now in
    let L = with_barred c.load_streams.ensures c.barred_sets-records.result c.joints-records.result in
    loaded a.bytes.now _ L
    (all_barred a.bytes.now a.sheet a.accepted _ L.services L.cabinets c.barred_sets-records.ensures)
    (all_jointed a.bytes.now a.sheet a.accepted _ _ _ L c.joints-records.ensures)
