use Rattle.std.proofs.Common.{arith, ℕ, ◌<◌, ◌^◌, subst, List, get_or, length}
use Rattle.graph_model.specs.Named.{latencies_of}
use Rattle.topology.specs.Reaches.{IsPulled}
use Rattle.topology.proofs.ReachFacts.{AreReached, reached_more, all_reached}
use Rattle.topology.proofs.reaches.reaches.Goals as goal

pub loop-k-preserved : goal.loop-k-preserved
loop-k-preserved c =
    let g = c.args.graph.now in
    let v : ℕ = get_or c.args.order.now c.loop-k.k 0 in
    let fits : (i : ℕ) → get_or (latencies_of g) i 0 < 2 ^ 32 = λ i. subst (λ (xs : List ℕ). get_or xs i 0 < 2 ^ 32) c.requires.latencies (c.type_inv.latencies i).fits in
    let pulled : IsPulled c.args.links.now (latencies_of g) c.loop-k.at.items v c.pull.result = rw (c.requires.latencies, c.deref.ensures.value) at c.pull.ensures in
    reached_more g c.requires.named c.args.links.now c.requires.links c.args.order.now c.requires.order fits c.loop-k.k c.pull.result c.loop-k.at.items c.loop-k-test.true c.loop-k.invariant pulled

pub returns : goal.returns
returns c =
    let g = c.args.graph.now in
    let fits : (i : ℕ) → get_or (latencies_of g) i 0 < 2 ^ 32 = λ i. subst (λ (xs : List ℕ). get_or xs i 0 < 2 ^ 32) c.requires.latencies (c.type_inv.latencies i).fits in
    let inv = c.loop-k.invariant in
    let all : AreReached g c.args.order.now (length c.args.order.now) c.loop-k.at.items =
    record { count = inv.count; done = λ j lt. inv.done j (let past = c.loop-k-test.false in omega arith); small = inv.small } in
    all_reached g c.requires.named c.args.links.now c.requires.links c.args.order.now c.requires.order fits c.loop-k.at.items all
