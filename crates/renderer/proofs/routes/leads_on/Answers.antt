use Rattle.std.proofs.Common.{◌≡◌, sym, ◌∙◌, ap, Some, ◌==◌}
use Rattle.std.specs.Prelude.{is_some}
use Rattle.std.specs.List.{position}
use Rattle.graph_model.specs.Paths.{is_live}
use Rattle.graph_model.specs.declared.graph.Graph.{Graph}
use Rattle.graph_model.proofs.NameFacts.{any_node}
use Rattle.graph_model.proofs.NodeFacts.{place_is}
use Rattle.renderer.proofs.RouteFacts.{destination_found}
use Rattle.renderer.proofs.routes.leads_on.Goals as goal

pub unwrap-dst-requires : goal.unwrap-dst-requires
unwrap-dst-requires c =
    ap is_some c.index_of.ensures ∙ ap (λ (g : Graph). is_some (position (λ n. n.uid.0 == c.args.connection.now.dst.0) g.nodes)) c.graph.ensures.same
    ∙ destination_found c.args.checked.now c.graph.ensures.sound c.args.connection.now c.requires

pub returns : goal.returns
returns c =
    let dst_is : position (λ n. n.uid.0 == c.args.connection.now.dst.0) c.args.checked.now.nodes ≡ Some c.unwrap-dst.result =
    ap (λ (g : Graph). position (λ n. n.uid.0 == c.args.connection.now.dst.0) g.nodes) (sym c.graph.ensures.same) ∙ sym c.index_of.ensures ∙ c.unwrap-dst.ensures in
    c.is_live.ensures ∙ ap (is_live c.args.checked.now) (place_is c.args.checked.now c.graph.ensures.sound c.args.connection.now.dst.0 c.unwrap-dst.result any_node dst_is).1
