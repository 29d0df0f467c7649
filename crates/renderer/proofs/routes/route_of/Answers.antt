use Rattle.std.proofs.Common.{◌≡◌, ◌+◌, ◌≤◌, get_or, sym, ◌∙◌, ap, arith, Some, ◌==◌}
use Rattle.std.specs.Prelude.{is_some}
use Rattle.std.specs.List.{position}
use Rattle.graph_model.specs.declared.graph.Graph.{Graph}
use Rattle.graph_model.specs.declared.graph.Node.{Node}
use Rattle.renderer.proofs.RouteFacts.{kept, source_found, destination_found, not_early, route_is}
use Rattle.renderer.proofs.routes.route_of.Goals as goal

pub unwrap-src-requires : goal.unwrap-src-requires
unwrap-src-requires c =
    ap is_some c.index_of.ensures ∙ ap (λ (g : Graph). is_some (position (λ n. n.uid.0 == c.args.connection.now.src.0) g.nodes)) c.graph-graph.ensures.same
    ∙ source_found c.args.checked.now c.graph-graph.ensures.sound c.args.connection.now (kept c.args.checked.now c.args.connection.now c.requires.live).0

pub unwrap-dst-requires : goal.unwrap-dst-requires
unwrap-dst-requires c =
    ap is_some c.index_of-2.ensures ∙ ap (λ (g : Graph). is_some (position (λ n. n.uid.0 == c.args.connection.now.dst.0) g.nodes)) c.graph-graph.ensures.same
    ∙ destination_found c.args.checked.now c.graph-graph.ensures.sound c.args.connection.now (kept c.args.checked.now c.args.connection.now c.requires.live).0

pub overflow_add-early : goal.overflow_add-early
overflow_add-early c =
    let same = c.graph-graph.ensures.same in
    let source : Node = c.index-as_slice-src.result in
    let src_is : position (λ n. n.uid.0 == c.args.connection.now.src.0) c.args.checked.now.nodes ≡ Some c.unwrap-src.result =
    ap (λ (g : Graph). position (λ n. n.uid.0 == c.args.connection.now.src.0) g.nodes) (sym same) ∙ sym c.index_of.ensures ∙ c.unwrap-src.ensures in
    let dst_is : position (λ n. n.uid.0 == c.args.connection.now.dst.0) c.args.checked.now.nodes ≡ Some c.unwrap-dst.result =
    ap (λ (g : Graph). position (λ n. n.uid.0 == c.args.connection.now.dst.0) g.nodes) (sym same) ∙ sym c.index_of-2.ensures ∙ c.unwrap-dst.ensures in
    let le : get_or c.args.positions.now c.unwrap-src.result 0 + c.latency.result ≤ get_or c.args.positions.now c.unwrap-dst.result 0 =
    not_early c.args.checked.now c.graph-graph.ensures.sound c.args.connection.now c.unwrap-src.result c.unwrap-dst.result src_is dst_is
    c.args.positions.now c.index-as_slice-src.result c.latency.result
    (c.index-as_slice-src.is ∙ ap (λ ns. get_or ns c.unwrap-src.result source) (c.as_slice.ensures ∙ ap (λ (h : Graph). h.nodes) same))
    c.latency.ensures c.requires.live c.requires.alignment in
    omega arith

pub overflow_sub-result : goal.overflow_sub-result
overflow_sub-result c =
    let same = c.graph-graph.ensures.same in
    let source : Node = c.index-as_slice-src.result in
    let src_is : position (λ n. n.uid.0 == c.args.connection.now.src.0) c.args.checked.now.nodes ≡ Some c.unwrap-src.result =
    ap (λ (g : Graph). position (λ n. n.uid.0 == c.args.connection.now.src.0) g.nodes) (sym same) ∙ sym c.index_of.ensures ∙ c.unwrap-src.ensures in
    let dst_is : position (λ n. n.uid.0 == c.args.connection.now.dst.0) c.args.checked.now.nodes ≡ Some c.unwrap-dst.result =
    ap (λ (g : Graph). position (λ n. n.uid.0 == c.args.connection.now.dst.0) g.nodes) (sym same) ∙ sym c.index_of-2.ensures ∙ c.unwrap-dst.ensures in
    not_early c.args.checked.now c.graph-graph.ensures.sound c.args.connection.now c.unwrap-src.result c.unwrap-dst.result src_is dst_is
    c.args.positions.now c.index-as_slice-src.result c.latency.result
    (c.index-as_slice-src.is ∙ ap (λ ns. get_or ns c.unwrap-src.result source) (c.as_slice.ensures ∙ ap (λ (h : Graph). h.nodes) same))
    c.latency.ensures c.requires.live c.requires.alignment

pub returns : goal.returns
returns c =
    let same = c.graph-graph.ensures.same in
    let source : Node = c.index-as_slice-src.result in
    let destination : Node = c.index-as_slice-dst.result in
    let src_is : position (λ n. n.uid.0 == c.args.connection.now.src.0) c.args.checked.now.nodes ≡ Some c.unwrap-src.result =
    ap (λ (g : Graph). position (λ n. n.uid.0 == c.args.connection.now.src.0) g.nodes) (sym same) ∙ sym c.index_of.ensures ∙ c.unwrap-src.ensures in
    let dst_is : position (λ n. n.uid.0 == c.args.connection.now.dst.0) c.args.checked.now.nodes ≡ Some c.unwrap-dst.result =
    ap (λ (g : Graph). position (λ n. n.uid.0 == c.args.connection.now.dst.0) g.nodes) (sym same) ∙ sym c.index_of-2.ensures ∙ c.unwrap-dst.ensures in
    route_is c.args.checked.now c.graph-graph.ensures.sound c.args.connection.now c.unwrap-src.result c.unwrap-dst.result src_is dst_is
    c.args.positions.now c.index-as_slice-src.result c.latency.result
    (c.index-as_slice-src.is ∙ ap (λ ns. get_or ns c.unwrap-src.result source) (c.as_slice.ensures ∙ ap (λ (h : Graph). h.nodes) same))
    c.latency.ensures
    c.index-as_slice-dst.result c.outs.result c.ins.result
    (c.index-as_slice-dst.is ∙ ap (λ ns. get_or ns c.unwrap-dst.result destination) (c.as_slice-2.ensures ∙ ap (λ (h : Graph). h.nodes) same))
    c.outs.ensures c.ins.ensures
