-- Graphs that many tests use.
use Rattle.std.specs.Prelude.{ℕ, [], ◌∷◌, pos}
use Rattle.graph_model.specs.declared.kind.Kind.{Kind}
use Rattle.graph_model.specs.declared.kind.Kind.TheVariants.{Input, Output, Gain, Insert}
use Rattle.graph_model.specs.declared.graph.Node.{Node}
use Rattle.graph_model.specs.declared.graph.Connection.{Connection}
use Rattle.graph_model.specs.declared.graph.Graph.{Graph}

abbrev pub node : ℕ → Kind → Node
node v kind = record { uid = record { 0 = v }; kind = kind }

-- from channel c of u to channel d of v
abbrev pub joined : ℕ → ℕ → ℕ → ℕ → Connection
joined u c v d = record { src = record { 0 = u }; src_channel = c; dst = record { 0 = v }; dst_channel = d }

-- an insert of 5 into one channel of the output, beside a gain of one into three
abbrev pub fan_out : Graph
fan_out = record {
  nodes = node 1 (Input 1) ∷ node 2 (Output 3) ∷ node 3 (Insert 1 5) ∷ node 4 (Gain 1 (pos 65536)) ∷ [];
  connections = joined 1 0 3 0 ∷ joined 3 0 2 0 ∷ joined 1 0 4 0 ∷ joined 4 0 2 0 ∷ joined 4 0 2 1 ∷ joined 4 0 2 2 ∷ [];
}
