use Rattle.std.proofs.Common.{◌≡◌, ◌∙◌, ◌<◌, List, ap, sym, subst, length, get_or}
use Rattle.std.specs.List.{Contains}
use Rattle.graph_model.specs.Graphs.{latency_at}
use Rattle.graph_model.specs.declared.graph.Connection.{Connection}
use Rattle.graph_model.specs.declared.graph.Graph.{Graph}
use Rattle.graph_model.proofs.RankLaws.{nodes_exist}
use Rattle.topology.proofs.LinkFacts.{any_connection}
use Rattle.alignment.proofs.LinkFacts.{found_there, found_as, idle_step, live_step, source_there, name_at}
use Rattle.alignment.proofs.links.links.Goals as goal

pub loop-index-preserved-in_default : goal.loop-index-preserved-in_default
loop-index-preserved-in_default c =
    let g = c.args.graph.now in
    let same : c.as_slice-connections.result.now ≡ g.connections = c.as_slice-connections.ensures ∙ ap (λ (h : Graph). h.connections) c.graph.ensures.same in
    idle_step g c.args.points.now c.graph.ensures.sound c.requires c.loop-index.links.items c.loop-index.index any_connection
    (subst (λ (cs : List Connection). c.loop-index.index < length cs) same c.loop-index-test.true)
    (subst (λ (cs : List Connection). Contains c.args.points.now (get_or cs c.loop-index.index any_connection).dst.0 → ⊥) same c.in_default.ensures) c.loop-index.invariant

pub unwrap-tail-requires : goal.unwrap-tail-requires
unwrap-tail-requires c =
    let g = c.args.graph.now in
    let same : c.as_slice-connections.result.now ≡ g.connections = c.as_slice-connections.ensures ∙ ap (λ (h : Graph). h.connections) c.graph.ensures.same in
    let lt = subst (λ (cs : List Connection). c.loop-index.index < length cs) same c.loop-index-test.true in
    let there = subst (λ (cs : List Connection). Contains c.args.points.now (get_or cs c.loop-index.index any_connection).dst.0) same
    (name_at c.args.points.now c.in-Some.head _ c.in-Some.ensures.0 c.in-Some.ensures.1) in
    found_there _ _ c.point_of-in-loop-index.result c.point_of-in-loop-index.ensures
    (subst (λ (cs : List Connection). Contains c.args.points.now (get_or cs c.loop-index.index any_connection).src.0) (sym same)
    (source_there g c.args.points.now c.graph.ensures.sound c.requires c.loop-index.index any_connection lt there))

pub latency_of-requires : goal.latency_of-requires
latency_of-requires c =
    let g = c.args.graph.now in
    let same : c.as_slice-connections.result.now ≡ g.connections = c.as_slice-connections.ensures ∙ ap (λ (h : Graph). h.connections) c.graph.ensures.same in
    let lt = subst (λ (cs : List Connection). c.loop-index.index < length cs) same c.loop-index-test.true in
    let node = (nodes_exist g c.graph.ensures.sound.shaped c.loop-index.index any_connection lt).0 in
    rw (c.graph-in-loop-index.ensures.same, same) node

pub loop-index-preserved : goal.loop-index-preserved
loop-index-preserved c =
    let g = c.args.graph.now in
    let same : c.as_slice-connections.result.now ≡ g.connections = c.as_slice-connections.ensures ∙ ap (λ (h : Graph). h.connections) c.graph.ensures.same in
    let lt = subst (λ (cs : List Connection). c.loop-index.index < length cs) same c.loop-index-test.true in
    let tail = found_as _ _ c.point_of-in-loop-index.result c.unwrap-tail.result c.point_of-in-loop-index.ensures c.unwrap-tail.ensures in
    let at = λ (cs : List Connection). get_or cs c.loop-index.index any_connection in
    live_step g c.args.points.now c.graph.ensures.sound c.requires c.loop-index.links.items c.push.new.self.items c.loop-index.index any_connection c.unwrap-tail.result c.in-Some.head c.latency_of.result lt
    c.in-Some.ensures.0 (c.in-Some.ensures.1 ∙ ap (λ cs. (at cs).dst.0) same) tail.0 (tail.1 ∙ ap (λ cs. (at cs).src.0) same)
    (c.latency_of.ensures ∙ (λ i. latency_at (c.graph-in-loop-index.ensures.same i) (at (same i)).src.0)) c.in_ok-push.ensures.items c.loop-index.invariant
