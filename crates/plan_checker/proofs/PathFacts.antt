-- The latency of a path.
use Rattle.std.proofs.Common.{◌≤◌, List, arith}
use Rattle.graph_model.specs.Graphs.{output_name}
use Rattle.graph_model.specs.Paths.{depth}
use Rattle.graph_model.specs.Sound.{IsSound}
use Rattle.graph_model.specs.declared.graph.Graph.{Graph}
use Rattle.graph_model.specs.declared.graph.Uid.{Uid}
use Rattle.graph_model.proofs.NodeFacts.{output_is_node}
use Rattle.graph_model.proofs.RankLaws.{sound_is_ranked}
use Rattle.graph_model.proofs.ReachLaws.{reach_is_longest}
use Rattle.connections.proofs.LatencyFacts.{few_frames_late}
use Rattle.plan_model.specs.Rules.{IsPathOut, path_latency}
use Rattle.plan_model.proofs.CertifiedLaws.{path_sum}

-- no path into the output node is longer than the graph's latency, which is small
pub path_is_short : (g : Graph) (path : List Uid) → IsSound g → IsPathOut g path → path_latency g path ≤ 67108864
path_is_short g path sound (us, way, same) =
    let sum = path_sum g path (output_name g) us same in
    let most = (reach_is_longest g (depth g) (sound_is_ranked g sound) (output_name g) (output_is_node g sound)).most us way in
    let few = few_frames_late g sound in
    omega arith
