-- The latency and the live connections of a graph, by the indexes of nodes.
use Rattle.std.proofs.Common.{◌≡◌, ℕ, List, map, get_or, refl, ◌∙◌, ap, Some}
use Rattle.std.specs.List.{position}
use Rattle.std.proofs.lemmas.List.Quantifiers.{position-Some}
use Rattle.graph_model.specs.Graphs.{is_output}
use Rattle.graph_model.specs.Paths.{reach, latency_of_graph}
use Rattle.graph_model.specs.Sound.{IsShaped}
use Rattle.graph_model.specs.declared.graph.Node.{Node}
use Rattle.graph_model.specs.declared.graph.Graph.{Graph}
use Rattle.graph_model.proofs.NameFacts.{any_node}
use Rattle.topology.proofs.OutputFacts.{output_named}
use Rattle.connections.proofs.NodeFacts.{kept_at}

pub latency_at_output : (g : Graph) (at : List ℕ) (i : ℕ) → IsShaped g → at ≡ map (λ (n : Node). reach g n.uid.0) g.nodes → position (λ (n : Node). is_output n.kind) g.nodes ≡ Some i
    → get_or at i 0 ≡ latency_of_graph g
latency_at_output g at i shaped is found =
    let p = position-Some (λ (n : Node). is_output n.kind) g.nodes i any_node found in
    kept_at reach g g at i 0 refl p.0 is ∙ ap (reach g) (output_named g shaped.ends.1 i found)
