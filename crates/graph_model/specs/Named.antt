-- The nodes of a graph by index, and graphs whose connections can be followed.
use Rattle.std.specs.Prelude.{◌≡◌, ◌≢◌, ℕ, List, map, count_by, AllPairs, slice_index}
use Rattle.std.specs.List.{All}
use Rattle.graph_model.specs.Graphs.{IsNode, is_output}
use Rattle.graph_model.specs.Kinds.{latency_of}
use Rattle.graph_model.specs.Sound.{Fits}
use Rattle.graph_model.specs.declared.graph.Graph.{Graph}

-- it fits, its names differ, and the nodes of each connection exist
pub record IsNamed (g : Graph) : Type 0 where
  pub fits : Fits g
  pub uids_differ : AllPairs (λ m n. m.uid ≢ n.uid) g.nodes
  pub nodes_exist : All (λ c. IsNode g c.src.0 × IsNode g c.dst.0) g.connections

abbrev pub HasOneOutput : Graph → Type 0
HasOneOutput g = count_by (λ n. is_output n.kind) g.nodes ≡ 1

-- the names of the nodes, by index
abbrev pub uids_of : Graph → List ℕ
uids_of g = map (λ n. n.uid.0) g.nodes

abbrev pub uid_at : Graph → ℕ → ℕ
uid_at g k = slice_index (uids_of g) k

-- their latencies, by index
abbrev pub latencies_of : Graph → List ℕ
latencies_of g = map (λ n. latency_of n.kind) g.nodes
