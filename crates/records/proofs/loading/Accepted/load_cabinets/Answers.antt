-- `load_cabinets` meets its contract: an accepted sheet gives every cabinet that it has, and its fields fit 16 bits.
use Prim.Native.Nat.{◌<◌}
use native.Mathlib.Omega.{arith}
use mathlib.Core.Path.{◌≡◌, ap, subst, ◌∙◌}
use Rattle.std.proofs.Common.{rules}
use Rattle.sheet.specs.declared.Cabinet.{Cabinet}
use Rattle.sheet.specs.Instance.{instance}
use Rattle.sheet.proofs.Promises.{counts, well_formed, cabinet_given}
use Rattle.records.specs.Inner.Loading.{Loading}
use Rattle.records.proofs.Columns.{column_next}
use Rattle.records.proofs.Given.{cabinet_there, cabinet_read, parent_fits}
use Rattle.records.proofs.loading.Accepted.load_cabinets.Goals as goal

pub unwrap-k-requires : goal.unwrap-k-requires
unwrap-k-requires c =
    let b = c.args.self.now.bytes.now in
    let s = c.args.self.now.sheet in
    let a = c.args.self.now.accepted in
    let i = c.loop-c.c in
    let there = cabinet_there b s a _ i c.cabinets-c-end.ensures c.loop-c-test.true in
    let given = c.cabinet.ensures ∙ cabinet_given b s a i there in
    search rules

pub overflow_cast-records : goal.overflow_cast-records
overflow_cast-records c =
    let b = c.args.self.now.bytes.now in
    let s = c.args.self.now.sheet in
    let a = c.args.self.now.accepted in
    let i = c.loop-c.c in
    let k = cabinet_read b s a _ i c.cabinets-c-end.ensures c.loop-c-test.true _ _ c.cabinet.ensures c.unwrap-k.ensures in
    omega (arith, ap (λ (x : Cabinet). x.parent) k, parent_fits b s a _ i c.cabinets-c-end.ensures c.loop-c-test.true)

pub overflow_cast-records-in-loop-c : goal.overflow_cast-records-in-loop-c
overflow_cast-records-in-loop-c c =
    let b = c.args.self.now.bytes.now in
    let s = c.args.self.now.sheet in
    let a = c.args.self.now.accepted in
    let i = c.loop-c.c in
    let k = cabinet_read b s a _ i c.cabinets-c-end.ensures c.loop-c-test.true _ _ c.cabinet.ensures c.unwrap-k.ensures in
    let W = well_formed b s a in
    omega (arith, ap (λ (x : Cabinet). x.capacity) k, W.capacities i)

pub overflow_cast-records-in-loop-c-2 : goal.overflow_cast-records-in-loop-c-2
overflow_cast-records-in-loop-c-2 c =
    let b = c.args.self.now.bytes.now in
    let s = c.args.self.now.sheet in
    let a = c.args.self.now.accepted in
    let i = c.loop-c.c in
    let k = cabinet_read b s a _ i c.cabinets-c-end.ensures c.loop-c-test.true _ _ c.cabinet.ensures c.unwrap-k.ensures in
    let W = well_formed b s a in
    omega (arith, ap (λ (x : Cabinet). x.price) k, W.prices i)

pub overflow_cast-records-in-loop-c-3 : goal.overflow_cast-records-in-loop-c-3
overflow_cast-records-in-loop-c-3 c =
    let b = c.args.self.now.bytes.now in
    let s = c.args.self.now.sheet in
    let a = c.args.self.now.accepted in
    let i = c.loop-c.c in
    let k = cabinet_read b s a _ i c.cabinets-c-end.ensures c.loop-c-test.true _ _ c.cabinet.ensures c.unwrap-k.ensures in
    let W = well_formed b s a in
    omega (arith, ap (λ (x : Cabinet). x.up_capacity) k, W.up_capacities i)

pub overflow_cast-records-in-loop-c-4 : goal.overflow_cast-records-in-loop-c-4
overflow_cast-records-in-loop-c-4 c =
    let b = c.args.self.now.bytes.now in
    let s = c.args.self.now.sheet in
    let a = c.args.self.now.accepted in
    let i = c.loop-c.c in
    let k = cabinet_read b s a _ i c.cabinets-c-end.ensures c.loop-c-test.true _ _ c.cabinet.ensures c.unwrap-k.ensures in
    let W = well_formed b s a in
    omega (arith, ap (λ (x : Cabinet). x.up_price) k, W.up_prices i)

pub overflow_cast-records-in-loop-c-5 : goal.overflow_cast-records-in-loop-c-5
overflow_cast-records-in-loop-c-5 c =
    let b = c.args.self.now.bytes.now in
    let s = c.args.self.now.sheet in
    let a = c.args.self.now.accepted in
    let i = c.loop-c.c in
    let k = cabinet_read b s a _ i c.cabinets-c-end.ensures c.loop-c-test.true _ _ c.cabinet.ensures c.unwrap-k.ensures in
    let W = well_formed b s a in
    omega (arith, ap (λ (x : Cabinet). x.down_capacity) k, W.down_capacities i)

pub overflow_cast-records-in-loop-c-6 : goal.overflow_cast-records-in-loop-c-6
overflow_cast-records-in-loop-c-6 c =
    let b = c.args.self.now.bytes.now in
    let s = c.args.self.now.sheet in
    let a = c.args.self.now.accepted in
    let i = c.loop-c.c in
    let k = cabinet_read b s a _ i c.cabinets-c-end.ensures c.loop-c-test.true _ _ c.cabinet.ensures c.unwrap-k.ensures in
    let W = well_formed b s a in
    omega (arith, ap (λ (x : Cabinet). x.down_price) k, W.down_prices i)

pub loop-c-preserved : goal.loop-c-preserved
loop-c-preserved c =
    let b = c.args.self.now.bytes.now in
    let s = c.args.self.now.sheet in
    let a = c.args.self.now.accepted in
    let i = c.loop-c.c in
    let k = cabinet_read b s a _ i c.cabinets-c-end.ensures c.loop-c-test.true _ _ c.cabinet.ensures c.unwrap-k.ensures in
    let l : i < 200 = omega (arith, c.requires.limit, c.loop-c-test.true, c.cabinets-c-end.ensures) in
    let L = c.loop-c.invariant in
    record {
      services = L.services;
      cabinets = L.cabinets;
      streams = L.streams;
      demand = L.demand;
      parent = column_next 200 (instance b).parent _ _ _ l (ap (λ (x : Cabinet). x.parent) k) L.parent;
      capacity = column_next 200 (instance b).capacity _ _ _ l (ap (λ (x : Cabinet). x.capacity) k) L.capacity;
      price = column_next 200 (instance b).price _ _ _ l (ap (λ (x : Cabinet). x.price) k) L.price;
      up_capacity = column_next 200 (instance b).up_capacity _ _ _ l (ap (λ (x : Cabinet). x.up_capacity) k) L.up_capacity;
      up_price = column_next 200 (instance b).up_price _ _ _ l (ap (λ (x : Cabinet). x.up_price) k) L.up_price;
      down_capacity = column_next 200 (instance b).down_capacity _ _ _ l (ap (λ (x : Cabinet). x.down_capacity) k) L.down_capacity;
      down_price = column_next 200 (instance b).down_price _ _ _ l (ap (λ (x : Cabinet). x.down_price) k) L.down_price;
      from = L.from;
      to = L.to;
      load = L.load;
    }

pub returns : goal.returns
returns c =
    let b = c.args.self.now.bytes.now in
    let n = counts b c.args.self.now.sheet c.args.self.now.accepted in
    let e : c.loop-c.c ≡ (instance b).s = omega (arith, c.loop-c-test.false, c.loop-c.auto.c-end, c.cabinets-c-end.ensures, n.1) in
    subst (λ n. Loading (instance b) (instance b).r n 0 c.loop-c.records) e c.loop-c.invariant
