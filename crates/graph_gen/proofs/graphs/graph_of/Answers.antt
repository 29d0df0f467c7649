-- The graph, node by node.
use Rattle.std.proofs.Common.{◌≡◌, ◌+◌, ◌-◌, ap, arith, sym, subst, ◌∙◌}
use Rattle.graph_model.specs.Sound.{IsSound}
use Rattle.graph_gen.proofs.SoundnessLaws.{generated_is_sound}
use Rattle.graph_gen.specs.Generated.{generated, with_endings}
use Rattle.graph_gen.proofs.StepFacts.{one_more_node, more_connections, all_nodes, all_connections, whole_graph}
use Rattle.graph_gen.proofs.graphs.graph_of.Goals as goal

pub loop-uid-preserved : goal.loop-uid-preserved
loop-uid-preserved c = record {
  nodes =
      one_more_node c.loop-uid.draws.state c.loop-uid.uid (c.args.nodes + 1 - c.loop-uid.uid) (c.args.nodes + 1 - (c.loop-uid.uid + 1)) _ _ _ _ _ _
      c.in_ok-kind.ensures.kind c.in_ok-kind.ensures.state c.in_ok-connect.ensures.state (omega arith) c.in_ok-push-3.ensures.ok c.loop-uid.invariant.nodes;
  connections =
      more_connections c.loop-uid.draws.state c.loop-uid.uid (c.args.nodes + 1 - c.loop-uid.uid) (c.args.nodes + 1 - (c.loop-uid.uid + 1)) _ _ _ _ _ _
      c.in_ok-kind.ensures.kind c.in_ok-kind.ensures.state c.in_ok-connect.ensures.state (omega arith) c.in_ok-connect.ensures.connections c.loop-uid.invariant.connections;
}

pub returns-clause-graph : goal.returns-clause-graph
returns-clause-graph c =
    let none : c.args.nodes + 1 - c.loop-uid.uid ≡ 0 = omega arith in
    whole_graph (record { nodes = c.loop-uid.graph.nodes; connections = c.connect_ends.new.connections }) (generated c.args.seed c.args.nodes)
    (all_nodes _ _ _ _ _ none c.loop-uid.invariant.nodes)
    (c.in_ok-connect_ends.ensures ∙ ap (λ cs. with_endings cs c.args.nodes) (all_connections _ _ _ _ _ none c.loop-uid.invariant.connections))

pub returns-clause-sound : goal.returns-clause-sound
returns-clause-sound c =
    let most = c.requires.nodes in
    subst IsSound (sym (returns-clause-graph c)) (generated_is_sound c.args.seed c.args.nodes most.0 most.1)
