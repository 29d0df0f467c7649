-- The text that is written for a graph: an object with `FILTERGRAPH` alone, in which each record has the members of
-- its row.
use Rattle.std.specs.Prelude.{ℕ, ℤ, List, [], ◌∷◌, codes, map}
use Rattle.serde_json.specs.Data.{Data, Members, array, no_members, number, object, string, unsigned, member as with_member}
use Rattle.serde_json.specs.Find.{of_integer}
use Rattle.serde_json.specs.View.{items_of}
use Rattle.serde_json.specs.Written.{compact_text}
use Rattle.graph_model.specs.Members.{name_of}
use Rattle.graph_model.specs.declared.graph.Connection.{Connection}
use Rattle.graph_model.specs.declared.graph.Graph.{Graph}
use Rattle.graph_model.specs.declared.graph.Node.{Node}
use Rattle.graph_model.specs.declared.kind.Kind.{Kind}
use Rattle.graph_model.specs.declared.kind.Kind.TheVariants.{Input, Output, Gain, Mixer, Fir, Biquad, Limiter, Delay, Insert}
use Rattle.graph_model.specs.declared.member.Member.{Member}
use Rattle.graph_model.specs.declared.member.Member.TheVariants as member

-- an object of these members, whose names stand in the order of their bytes
abbrev pub members_of : List (Member × Data) → Members
members_of [] = no_members
members_of (m ∷ ms) = with_member (name_of m.0) m.1 (members_of ms)

abbrev pub record_data : List (Member × Data) → Data
record_data ms = object (members_of ms)

abbrev pub unsigned_data : ℕ → Data
unsigned_data n = number (unsigned n)

abbrev pub signed_data : ℤ → Data
signed_data z = number (of_integer z)

abbrev pub list_data : List Data → Data
list_data ds = array (items_of ds)

-- the record of a node, by its kind
abbrev pub kind_data : ℕ → Kind → Data
kind_data uid (Input channels) = record_data ((member.Channels, unsigned_data channels) ∷ (member.Kind, string (codes "input"))
    ∷ (member.Uid, unsigned_data uid) ∷ [])
kind_data uid (Output channels) = record_data ((member.Channels, unsigned_data channels) ∷ (member.Kind, string (codes "output"))
    ∷ (member.Uid, unsigned_data uid) ∷ [])
kind_data uid (Gain channels gain) = record_data ((member.Channels, unsigned_data channels) ∷ (member.Gain, signed_data gain)
    ∷ (member.Kind, string (codes "gain")) ∷ (member.Uid, unsigned_data uid) ∷ [])
kind_data uid (Mixer ins outs gains) = record_data ((member.Gains, list_data (map signed_data gains)) ∷ (member.Ins, unsigned_data ins)
    ∷ (member.Kind, string (codes "mixer")) ∷ (member.Outs, unsigned_data outs) ∷ (member.Uid, unsigned_data uid) ∷ [])
kind_data uid (Fir channels taps shift latency) =
    record_data ((member.Channels, unsigned_data channels) ∷ (member.Kind, string (codes "fir"))
    ∷ (member.Latency, unsigned_data latency) ∷ (member.Shift, unsigned_data shift) ∷ (member.Taps, list_data (map signed_data taps))
    ∷ (member.Uid, unsigned_data uid) ∷ [])
kind_data uid (Biquad channels b0 b1 b2 a1 a2 shift bits) = record_data ((member.A1, signed_data a1) ∷ (member.A2, signed_data a2)
    ∷ (member.B0, signed_data b0) ∷ (member.B1, signed_data b1) ∷ (member.B2, signed_data b2) ∷ (member.Bits, unsigned_data bits)
    ∷ (member.Channels, unsigned_data channels) ∷ (member.Kind, string (codes "biquad")) ∷ (member.Shift, unsigned_data shift)
    ∷ (member.Uid, unsigned_data uid) ∷ [])
kind_data uid (Limiter channels threshold lookahead) =
    record_data ((member.Channels, unsigned_data channels) ∷ (member.Kind, string (codes "limiter"))
    ∷ (member.Lookahead, unsigned_data lookahead) ∷ (member.Threshold, unsigned_data threshold) ∷ (member.Uid, unsigned_data uid) ∷ [])
kind_data uid (Delay channels samples) = record_data ((member.Channels, unsigned_data channels) ∷ (member.Kind, string (codes "delay"))
    ∷ (member.Samples, unsigned_data samples) ∷ (member.Uid, unsigned_data uid) ∷ [])
kind_data uid (Insert channels samples) = record_data ((member.Channels, unsigned_data channels) ∷ (member.Kind, string (codes "insert"))
    ∷ (member.Samples, unsigned_data samples) ∷ (member.Uid, unsigned_data uid) ∷ [])

abbrev pub node_data : Node → Data
node_data n = kind_data n.uid.0 n.kind

abbrev pub connection_data : Connection → Data
connection_data c = record_data ((member.DstChannel, unsigned_data c.dst_channel) ∷ (member.DstFilter, unsigned_data c.dst.0)
    ∷ (member.SrcChannel, unsigned_data c.src_channel) ∷ (member.SrcFilter, unsigned_data c.src.0) ∷ [])

abbrev pub data_of : Graph → Data
data_of g = record_data ((
  member.Graph,
  record_data ((member.Connection, list_data (map connection_data g.connections))
      ∷ (member.Filter, list_data (map node_data g.nodes)) ∷ []),
) ∷ [])

-- serde_json's text without spaces
unfoldable pub text_of : Graph → List ℕ
text_of g = compact_text (data_of g)
