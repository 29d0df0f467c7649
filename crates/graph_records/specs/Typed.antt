-- The numbers of a graph lie in their types.
use Rattle.std.specs.Prelude.{◌≤◌, ℕ, ℤ, pos, negsuc}
use Rattle.std.specs.List.{All}
use Rattle.graph_model.specs.declared.graph.Connection.{Connection}
use Rattle.graph_model.specs.declared.graph.Graph.{Graph}
use Rattle.graph_model.specs.declared.graph.Node.{Node}
use Rattle.graph_model.specs.declared.kind.Kind.{Kind}
use Rattle.graph_model.specs.declared.kind.Kind.TheVariants.{Input, Output, Gain, Mixer, Fir, Biquad, Limiter, Delay, Insert}

abbrev pub IsU32 : ℕ → Type 0
IsU32 n = n ≤ 4294967295

abbrev pub IsU64 : ℕ → Type 0
IsU64 n = n ≤ 18446744073709551615

abbrev pub IsI32 : ℤ → Type 0
IsI32 (pos n) = n ≤ 2147483647
IsI32 (negsuc n) = n ≤ 2147483647

abbrev pub IsTypedKind : Kind → Type 0
IsTypedKind (Input channels) = IsU32 channels
IsTypedKind (Output channels) = IsU32 channels
IsTypedKind (Gain channels gain) = IsU32 channels × IsI32 gain
IsTypedKind (Mixer ins outs gains) = IsU32 ins × IsU32 outs × All IsI32 gains
IsTypedKind (Fir channels taps shift latency) = IsU32 channels × All IsI32 taps × IsU32 shift × IsU32 latency
IsTypedKind (Biquad channels b0 b1 b2 a1 a2 shift bits) =
    IsU32 channels × IsI32 b0 × IsI32 b1 × IsI32 b2 × IsI32 a1 × IsI32 a2 × IsU32 shift × IsU32 bits
IsTypedKind (Limiter channels threshold lookahead) = IsU32 channels × IsU64 threshold × IsU32 lookahead
IsTypedKind (Delay channels samples) = IsU32 channels × IsU32 samples
IsTypedKind (Insert channels samples) = IsU32 channels × IsU32 samples

abbrev pub IsTypedNode : Node → Type 0
IsTypedNode n = IsU32 n.uid.0 × IsTypedKind n.kind

abbrev pub IsTypedConnection : Connection → Type 0
IsTypedConnection c = IsU32 c.src.0 × IsU32 c.src_channel × IsU32 c.dst.0 × IsU32 c.dst_channel

-- as every graph that code holds
pub record IsTyped (g : Graph) : Type 0 where
  pub nodes : All IsTypedNode g.nodes
  pub connections : All IsTypedConnection g.connections
