-- The graph of a seed. Node 1 is an input and node 2 an output, of two channels each; every other node has one channel,
-- a kind that is drawn, and one source that is drawn among the channels of the nodes before it, a gain up to two.
use Rattle.std.specs.Prelude.{ℕ, zero, suc, ◌+◌, ◌-◌, ◌%◌, ◌==◌, nat_lt, not, List, [], ◌∷◌, ◌++◌, map, get_or, pos, if◌then◌else◌}
use Rattle.std.specs.List.{filter, list_any, range_with_len}
use Rattle.graph_model.specs.declared.kind.Kind.{Kind}
use Rattle.graph_model.specs.declared.kind.Kind.TheVariants.{Input, Output, Gain, Fir, Biquad, Limiter, Delay, Insert}
use Rattle.graph_model.specs.declared.graph.Node.{Node}
use Rattle.graph_model.specs.declared.graph.Connection.{Connection}
use Rattle.graph_model.specs.declared.graph.Graph.{Graph}
use Rattle.graph_gen.specs.Draws.{next, stepped, drawn}

-- the six kinds in the order of the draw that picks one, their parameters drawn from state s
abbrev pub kinds_drawn : ℕ → List Kind
kinds_drawn s =
    Gain 1 (pos (drawn s 32769))
    ∷ Insert 1 (drawn s 64)
    ∷ Fir 1 (pos 1 ∷ pos 2 ∷ pos 1 ∷ []) 2 1
    ∷ Limiter 1 (1048576 + drawn s 16777216) (1 + drawn (next s) 8)
    ∷ Biquad 1 (pos 4096) (pos 8192) (pos 4096) (pos 0) (pos 2048) 14 32
    ∷ Delay 1 (1 + drawn s 100)
    ∷ []

-- a kind: which one is drawn, and then its parameters
abbrev pub kind_drawn : ℕ → Kind
kind_drawn s = get_or (kinds_drawn (next s)) (drawn s 6) (Delay 1 1)

-- how many parameters of a kind are drawn
abbrev pub parameters : Kind → ℕ
parameters (Gain channels gain) = 1
parameters (Insert channels samples) = 1
parameters (Limiter channels threshold lookahead) = 2
parameters (Delay channels samples) = 1
parameters kind = 0

-- how many sources
abbrev pub sources : Kind → ℕ
sources (Gain channels gain) = 2
sources kind = 1

-- the state when the kind of a node has been drawn from state s, and when its sources have been drawn too
abbrev pub past_kind : ℕ → ℕ
past_kind s = stepped (parameters (kind_drawn s)) (next s)

abbrev pub past_node : ℕ → ℕ
past_node s = stepped (sources (kind_drawn s)) (past_kind s)

abbrev pub node_of : ℕ → Kind → Node
node_of i kind = record { uid = record { 0 = i }; kind = kind }

abbrev pub node_drawn : ℕ → ℕ → Node
node_drawn s i = node_of i (kind_drawn s)

-- a connection from the source of number n to node i: sources 0 and 1 are the channels of node 1, and source n is that
-- of node n + 1
abbrev pub connection_from : ℕ → ℕ → Connection
connection_from n i = record {
  src = record { 0 = (if nat_lt n 2 then 1 else n + 1) };
  src_channel = (if n == 1 then 1 else 0);
  dst = record { 0 = i };
  dst_channel = 0;
}

-- the connections into node i, from its sources a and, for a gain, b where it is another one
abbrev pub connections_from : Kind → ℕ → ℕ → ℕ → List Connection
connections_from (Gain channels gain) i a b = if b == a then connection_from a i ∷ [] else connection_from a i ∷ connection_from b i ∷ []
connections_from kind i a b = connection_from a i ∷ []

-- the same, the sources drawn from state s
abbrev pub connections_of : Kind → ℕ → ℕ → List Connection
connections_of kind i s = connections_from kind i (drawn s (i - 1)) (drawn (next s) (i - 1))

-- so many nodes from node i on, and the connections into them
unfoldable pub nodes_drawn : ℕ → ℕ → ℕ → List Node
nodes_drawn s i zero = []
nodes_drawn s i (suc n) = node_drawn s i ∷ nodes_drawn (past_node s) (i + 1) n

unfoldable pub connections_drawn : ℕ → ℕ → ℕ → List Connection
connections_drawn s i zero = []
connections_drawn s i (suc n) = connections_of (kind_drawn s) i (past_kind s) ++ connections_drawn (past_node s) (i + 1) n

-- the nodes from 3 on that no connection leaves, of as many nodes
abbrev pub unread : List Connection → ℕ → List ℕ
unread cs nodes = filter (λ i. not (list_any (λ c. c.src.0 == i) cs)) (range_with_len 3 (nodes - 2))

-- the last connections lead from them to the output node, by turns to its two channels
abbrev pub ending : ℕ → Connection
ending i = record { src = record { 0 = i }; src_channel = 0; dst = record { 0 = 2 }; dst_channel = i % 2 }

abbrev pub with_endings : List Connection → ℕ → List Connection
with_endings cs nodes = cs ++ map ending (unread cs nodes)

abbrev pub generated : ℕ → ℕ → Graph
generated seed nodes = record {
  nodes = node_of 1 (Input 2) ∷ node_of 2 (Output 2) ∷ nodes_drawn seed 3 (nodes - 2);
  connections = with_endings (connections_drawn seed 3 (nodes - 2)) nodes;
}
