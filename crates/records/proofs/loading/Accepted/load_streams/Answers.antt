-- `load_streams` meets its contract: an accepted sheet gives every stream that it has, and its fields fit 16 bits.
use Prim.Native.Nat.{◌<◌}
use native.Mathlib.Omega.{arith}
use mathlib.Core.Path.{◌≡◌, ap, subst, ◌∙◌}
use Rattle.std.proofs.Common.{rules}
use Rattle.sheet.specs.declared.Stream.{Stream}
use Rattle.sheet.specs.Instance.{instance}
use Rattle.sheet.proofs.Promises.{counts, well_formed, stream_given}
use Rattle.records.specs.Inner.Loading.{Loading}
use Rattle.records.proofs.Columns.{column_next}
use Rattle.records.proofs.Given.{stream_there, stream_read}
use Rattle.records.proofs.loading.Accepted.load_streams.Goals as goal

pub unwrap-stream-requires : goal.unwrap-stream-requires
unwrap-stream-requires c =
    let b = c.args.self.now.bytes.now in
    let s = c.args.self.now.sheet in
    let a = c.args.self.now.accepted in
    let i = c.loop-j.j in
    let there = stream_there b s a _ i c.streams-j-end.ensures c.loop-j-test.true in
    let given = c.stream.ensures ∙ stream_given b s a i there in
    search rules

pub overflow_cast-records : goal.overflow_cast-records
overflow_cast-records c =
    let b = c.args.self.now.bytes.now in
    let s = c.args.self.now.sheet in
    let a = c.args.self.now.accepted in
    let i = c.loop-j.j in
    let there = stream_there b s a _ i c.streams-j-end.ensures c.loop-j-test.true in
    let k = stream_read b s a _ i c.streams-j-end.ensures c.loop-j-test.true _ _ c.stream.ensures c.unwrap-stream.ensures in
    let W = well_formed b s a in
    omega (arith, ap (λ (x : Stream). x.from) k, W.from_service i there, W.services)

pub overflow_cast-records-in-loop-j : goal.overflow_cast-records-in-loop-j
overflow_cast-records-in-loop-j c =
    let b = c.args.self.now.bytes.now in
    let s = c.args.self.now.sheet in
    let a = c.args.self.now.accepted in
    let i = c.loop-j.j in
    let there = stream_there b s a _ i c.streams-j-end.ensures c.loop-j-test.true in
    let k = stream_read b s a _ i c.streams-j-end.ensures c.loop-j-test.true _ _ c.stream.ensures c.unwrap-stream.ensures in
    let W = well_formed b s a in
    omega (arith, ap (λ (x : Stream). x.to) k, W.to_service i there, W.services)

pub overflow_cast-records-in-loop-j-2 : goal.overflow_cast-records-in-loop-j-2
overflow_cast-records-in-loop-j-2 c =
    let b = c.args.self.now.bytes.now in
    let s = c.args.self.now.sheet in
    let a = c.args.self.now.accepted in
    let i = c.loop-j.j in
    let k = stream_read b s a _ i c.streams-j-end.ensures c.loop-j-test.true _ _ c.stream.ensures c.unwrap-stream.ensures in
    let W = well_formed b s a in
    omega (arith, ap (λ (x : Stream). x.demand) k, W.loads i)

pub loop-j-preserved : goal.loop-j-preserved
loop-j-preserved c =
    let b = c.args.self.now.bytes.now in
    let s = c.args.self.now.sheet in
    let a = c.args.self.now.accepted in
    let i = c.loop-j.j in
    let k = stream_read b s a _ i c.streams-j-end.ensures c.loop-j-test.true _ _ c.stream.ensures c.unwrap-stream.ensures in
    let l : i < 100 = omega (arith, c.requires.limit, c.loop-j-test.true, c.streams-j-end.ensures) in
    let L = c.loop-j.invariant in
    record {
      services = L.services;
      cabinets = L.cabinets;
      streams = L.streams;
      demand = L.demand;
      parent = L.parent;
      capacity = L.capacity;
      price = L.price;
      up_capacity = L.up_capacity;
      up_price = L.up_price;
      down_capacity = L.down_capacity;
      down_price = L.down_price;
      from = column_next 100 (instance b).from _ _ _ l (ap (λ (x : Stream). x.from) k) L.from;
      to = column_next 100 (instance b).to _ _ _ l (ap (λ (x : Stream). x.to) k) L.to;
      load = column_next 100 (instance b).load _ _ _ l (ap (λ (x : Stream). x.demand) k) L.load;
    }

pub returns : goal.returns
returns c =
    let b = c.args.self.now.bytes.now in
    let n = counts b c.args.self.now.sheet c.args.self.now.accepted in
    let e : c.loop-j.j ≡ (instance b).q = omega (arith, c.loop-j-test.false, c.loop-j.auto.j-end, c.streams-j-end.ensures, n.2) in
    subst (λ n. Loading (instance b) (instance b).r (instance b).s n c.loop-j.records) e c.loop-j.invariant
