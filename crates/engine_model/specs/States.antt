-- What the nodes keep at a time.
use Rattle.std.specs.Prelude.{ℕ, [], map, if◌then◌else◌, Option, Some, None}
use Rattle.graph_model.specs.Histories.{Frame, channel, before}
use Rattle.graph_model.specs.Graphs.{node_named, is_input, connections_into}
use Rattle.graph_model.specs.Streams.{in_at, out_at}
use Rattle.graph_model.specs.declared.graph.Node.{Node}
use Rattle.graph_model.specs.declared.graph.Graph.{Graph}
use Rattle.engine_model.specs.Machines.{Kept}

-- the frame that comes into a node at time t: into the input node that of the stream x that comes into the graph
abbrev pub came_at : Graph → (ℕ → ℕ) → (ℕ → Frame) → Option Node → ℕ → ℕ → Frame
came_at g p x None v t = []
came_at g p x (Some n) v t = if is_input n.kind then x t else in_at g p x v t

-- what a node keeps when t frames of x have come in
abbrev pub kept_at : Graph → (ℕ → ℕ) → (ℕ → Frame) → ℕ → ℕ → Kept
kept_at g p x t v = record {
  came = before (came_at g p x (node_named g v) v) t;
  passed = map (λ c. channel c.src_channel (before (out_at g p x c.src.0) t)) (connections_into g v);
}
