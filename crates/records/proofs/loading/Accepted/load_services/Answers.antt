-- `load_services` meets its contract: an accepted sheet gives every service that it has, and its fields fit 16 bits.
use Prim.Native.Nat.{◌<◌}
use native.Mathlib.Omega.{arith}
use mathlib.Core.Path.{◌≡◌, ap, subst, ◌∙◌}
use Rattle.std.proofs.Common.{rules}
use Rattle.sheet.specs.declared.Service.{Service}
use Rattle.sheet.specs.Instance.{instance}
use Rattle.sheet.proofs.Promises.{counts, well_formed, service_given}
use Rattle.records.specs.Inner.Loading.{Loading}
use Rattle.records.proofs.Columns.{column_next}
use Rattle.records.proofs.Given.{service_there, service_read}
use Rattle.records.proofs.loading.Accepted.load_services.Goals as goal

pub unwrap-service-requires : goal.unwrap-service-requires
unwrap-service-requires c =
    let b = c.args.self.now.bytes.now in
    let s = c.args.self.now.sheet in
    let a = c.args.self.now.accepted in
    let i = c.loop-i.i in
    let there = service_there b s a _ i c.services-i-end.ensures c.loop-i-test.true in
    let given = c.service.ensures ∙ service_given b s a i there in
    search rules

pub overflow_cast-records : goal.overflow_cast-records
overflow_cast-records c =
    let b = c.args.self.now.bytes.now in
    let s = c.args.self.now.sheet in
    let a = c.args.self.now.accepted in
    let i = c.loop-i.i in
    let k = service_read b s a _ i c.services-i-end.ensures c.loop-i-test.true _ _ c.service.ensures c.unwrap-service.ensures in
    let W = well_formed b s a in
    omega (arith, ap (λ (x : Service). x.demand) k, W.demands i)

pub loop-i-preserved : goal.loop-i-preserved
loop-i-preserved c =
    let b = c.args.self.now.bytes.now in
    let s = c.args.self.now.sheet in
    let a = c.args.self.now.accepted in
    let i = c.loop-i.i in
    let k = service_read b s a _ i c.services-i-end.ensures c.loop-i-test.true _ _ c.service.ensures c.unwrap-service.ensures in
    let l : i < 10 = omega (arith, c.requires.limit, c.loop-i-test.true, c.services-i-end.ensures) in
    let L = c.loop-i.invariant in
    record {
      services = L.services;
      cabinets = L.cabinets;
      streams = L.streams;
      demand = column_next 10 (instance b).demand _ _ _ l (ap (λ (x : Service). x.demand) k) L.demand;
      parent = L.parent;
      capacity = L.capacity;
      price = L.price;
      up_capacity = L.up_capacity;
      up_price = L.up_price;
      down_capacity = L.down_capacity;
      down_price = L.down_price;
      from = L.from;
      to = L.to;
      load = L.load;
    }

pub returns : goal.returns
returns c =
    let b = c.args.self.now.bytes.now in
    let n = counts b c.args.self.now.sheet c.args.self.now.accepted in
    let e : c.loop-i.i ≡ (instance b).r = omega (arith, c.loop-i-test.false, c.loop-i.auto.i-end, c.services-i-end.ensures, n.0) in
    subst (λ n. Loading (instance b) n 0 0 c.loop-i.records) e c.loop-i.invariant
