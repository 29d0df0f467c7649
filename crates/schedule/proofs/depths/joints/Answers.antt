use Rattle.std.proofs.Common.{◌<◌, length, ap, arith}
use Rattle.graph_model.specs.declared.graph.Graph.{Graph}
use Rattle.schedule.proofs.DepthFacts.{joints_more}
use Rattle.schedule.proofs.depths.joints.Goals as goal

pub loop-connection-preserved : goal.loop-connection-preserved
loop-connection-preserved c =
    let g = c.args.graph.now in
    let same = ap (λ (h : Graph). length h.connections) c.graph.ensures.same in
    let lt : c.loop-connection.connection < length c.args.graph.now.connections = omega (arith, c.len-connection-end.ensures, c.loop-connection-test.true) in
    joints_more g g.connections c.loop-connection.connection c.loop-connection.joints.items c.push.new.self.items
    (record { group = c.ends-source.result.destination; item = c.ends-source.result.source }) lt c.ends-source.ensures.destination_within c.ends-source.ensures.source_within
    c.ends-source.ensures.source c.ends-source.ensures.destination c.in_ok-push.ensures.items c.loop-connection.invariant
