-- The live nodes of a sound graph: the output node, and both ends of each live connection.
use Rattle.std.proofs.Common.{◌≡◌, ℕ, true, length}
use Rattle.graph_model.specs.Graphs.{output_name}
use Rattle.graph_model.specs.Paths.{IsLive, is_live, depth}
use Rattle.graph_model.specs.Sound.{IsSound}
use Rattle.graph_model.specs.Laws.{OutputIsLive, EndsAreLive}
use Rattle.graph_model.proofs.NodeFacts.{output_is_node}
use Rattle.graph_model.proofs.PathLaws.{leads_output, live_by_paths, live_by_test, live_source}
use Rattle.graph_model.proofs.RankLaws.{sound_is_ranked}
use Rattle.graph_model.proofs.ReachLaws.{filter_from}
use Rattle.graph_model.specs.declared.graph.Graph.{Graph}

-- a node is live where the test finds it so, and the test finds each live node
pub live_by : (g : Graph) → IsSound g → (v : ℕ) → is_live g v ≡ true → IsLive g v
live_by g sound v is = live_by_paths g (depth g) (sound_is_ranked g sound) (output_is_node g sound) v is

pub live_test : (g : Graph) → IsSound g → (v : ℕ) → IsLive g v → is_live g v ≡ true
live_test g sound v live = live_by_test g (depth g) (sound_is_ranked g sound) v live

pub output_is_live : (g : Graph) → IsSound g → is_live g (output_name g) ≡ true
output_is_live g sound = leads_output g (depth g) (sound_is_ranked g sound) (length g.nodes)

pub output_live : OutputIsLive
output_live g sound = live_by g sound (output_name g) (output_is_live g sound)

pub ends_live : EndsAreLive
ends_live g sound c has =
    let kept = filter_from (λ d. is_live g d.dst.0) g.connections c has in
    (live_by g sound c.src.0 (live_source g (depth g) (sound_is_ranked g sound) c kept.0 kept.1), live_by g sound c.dst.0 kept.1)
