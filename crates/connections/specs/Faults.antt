-- The refusals of a graph. Its checks have an order, and the first that fails decides, with the values that it keeps.
use Rattle.std.specs.Prelude.{◌≡◌, ◌≢◌, ℕ, ◌*◌, ◌^◌, ◌<◌, ◌≤◌, ◌⊎◌, List, [], length, map, take, find, slice_get, sum_by, count_by, AllPairs, Some, None, is_some}
use Rattle.std.specs.List.{All}
use Rattle.graph_model.specs.Kinds.{cells_of}
use Rattle.graph_model.specs.Graphs.{IsNode, ins_at, outs_at, is_input, is_output}
use Rattle.graph_model.specs.Members.{bad_member}
use Rattle.graph_model.specs.Checks.{IsConnection, AreConnections, IsClosedWalk}
use Rattle.graph_model.specs.Paths.{live_connections, latency_of_graph}
use Rattle.graph_model.specs.Sound.{IsShaped}
use Rattle.graph_model.specs.declared.member.Member.{Member}
use Rattle.graph_model.specs.declared.refused.Refused.{Refused}
use Rattle.graph_model.specs.declared.refused.Refused.TheVariants.{Fault, Memory}
use Rattle.graph_model.specs.declared.graph.Uid.{Uid}
use Rattle.graph_model.specs.declared.graph.Side.{Side}
use Rattle.graph_model.specs.declared.graph.Side.TheVariants.{Source, Destination, In, Out}
use Rattle.graph_model.specs.declared.graph.Node.{Node}
use Rattle.graph_model.specs.declared.graph.Connection.{Connection}
use Rattle.graph_model.specs.declared.graph.Graph.{Graph}
use Rattle.headroom.specs.Loud.{IsTooLoud}
use Rattle.connections.specs.declared.fault.GraphFault.{GraphFault}
use Rattle.connections.specs.declared.fault.GraphFault.TheVariants.{UidTwice, KindField, Ends, NoSuchNode, SelfConnection, ChannelRange, Twice, Cycle, DelayBound, StateBound, Headroom}

-- ---- the checks of the nodes
abbrev pub UidsDiffer : List Node → Type 0
UidsDiffer ns = AllPairs (λ m n. m.uid ≢ n.uid) ns

abbrev pub AreInRange : List Node → Type 0
AreInRange ns = All (λ n. bad_member n ≡ None) ns

-- so many are input nodes, and so many output nodes
abbrev pub HasEnds : Graph → ℕ → ℕ → Type 0
HasEnds g inputs outputs = (count_by (λ n. is_input n.kind) g.nodes ≡ inputs) × (count_by (λ n. is_output n.kind) g.nodes ≡ outputs)

-- all three hold
pub record HasGoodNodes (g : Graph) : Type 0 where
  pub uids_differ : UidsDiffer g.nodes
  pub in_range : AreInRange g.nodes
  pub ends : HasEnds g 1 1

abbrev pub HasUidAt : Graph → ℕ → Uid → Type 0
HasUidAt g k uid = slice_get (map (λ n. n.uid) g.nodes) k ≡ Some uid

-- the uid of node `second` stands at `first` already, and the uids before `second` differ
abbrev pub IsUidTwice : Graph → Uid → ℕ → ℕ → Type 0
IsUidTwice g uid first second = (first < second) × HasUidAt g first uid × HasUidAt g second uid × UidsDiffer (take second g.nodes)

-- the first node with a member out of range, and its first such member
abbrev pub IsOutOfRange : Graph → Uid → Member → Type 0
IsOutOfRange g uid field = (n : Node) × (find (λ m. is_some (bad_member m)) g.nodes ≡ Some n) × (n.uid ≡ uid) × (bad_member n ≡ Some field)

-- ---- the checks of the connections, one connection after the other
-- the nodes are good, the connections before `at` pass their checks, and the one at `at` fails in this way
abbrev pub IsFirstBad : Graph → ℕ → (Connection → Type 0) → Type 0
IsFirstBad g at Fails = HasGoodNodes g × AreConnections g at × ((c : Connection) × (slice_get g.connections at ≡ Some c) × Fails c)

-- its source, or else its destination, is no node
abbrev pub LacksNode : Graph → Uid → Connection → Type 0
LacksNode g uid c = ((c.src ≡ uid) × ¬ (IsNode g c.src.0)) ⊎ ((c.dst ≡ uid) × IsNode g c.src.0 × ¬ (IsNode g c.dst.0))

abbrev pub HasItsNodes : Graph → Connection → Type 0
HasItsNodes g c = IsNode g c.src.0 × IsNode g c.dst.0

abbrev pub JoinsItself : Graph → Connection → Type 0
JoinsItself g c = HasItsNodes g c × (c.src ≡ c.dst)

-- its source's channel, or else its destination's, is not below the number of them
abbrev pub IsPastChannels : Graph → Side → ℕ → ℕ → Connection → Type 0
IsPastChannels g Source channel count c = (c.src_channel ≡ channel) × (outs_at g c.src.0 ≡ count) × (count ≤ channel)
IsPastChannels g Destination channel count c =
    (c.src_channel < outs_at g c.src.0) × (c.dst_channel ≡ channel) × (ins_at g c.dst.0 ≡ count) × (count ≤ channel)
IsPastChannels g In channel count c = ⊥
IsPastChannels g Out channel count c = ⊥

abbrev pub IsOffChannel : Graph → Side → ℕ → ℕ → Connection → Type 0
IsOffChannel g side channel count c = HasItsNodes g c × (c.src ≢ c.dst) × IsPastChannels g side channel count c

-- it is good by itself, and stands at `earlier` already
abbrev pub StandsAlready : Graph → ℕ → ℕ → Connection → Type 0
StandsAlready g at earlier c = IsConnection g [] c × (earlier < at) × (slice_get g.connections earlier ≡ Some c)

-- ---- the limits
abbrev pub HasFewDelays : Graph → Type 0
HasFewDelays g = length (live_connections g) * latency_of_graph g ≤ 2 ^ 26

abbrev pub HasFewCells : Graph → Type 0
HasFewCells g = sum_by (λ n. cells_of n.kind) g.nodes ≤ 2 ^ 25

-- the latency and the number of live connections, whose product passes its limit
abbrev pub HasLongDelays : Graph → ℕ → ℕ → Type 0
HasLongDelays g latency connections =
    (latency_of_graph g ≡ latency) × (length (live_connections g) ≡ connections) × (2 ^ 26 < connections * latency)

abbrev pub HasManyCells : Graph → ℕ → Type 0
HasManyCells g cells = (sum_by (λ n. cells_of n.kind) g.nodes ≡ cells) × (2 ^ 25 < cells)

-- ---- the first check that fails: those before it hold
abbrev pub IsFirstFault : Graph → GraphFault → Type 0
IsFirstFault g (UidTwice uid first second) = IsUidTwice g uid first second
IsFirstFault g (KindField uid field) = UidsDiffer g.nodes × IsOutOfRange g uid field
IsFirstFault g (Ends inputs outputs) = UidsDiffer g.nodes × AreInRange g.nodes × HasEnds g inputs outputs × ¬ (HasEnds g 1 1)
IsFirstFault g (NoSuchNode at uid) = IsFirstBad g at (LacksNode g uid)
IsFirstFault g (SelfConnection at) = IsFirstBad g at (JoinsItself g)
IsFirstFault g (ChannelRange at side channel count) = IsFirstBad g at (IsOffChannel g side channel count)
IsFirstFault g (Twice at earlier) = IsFirstBad g at (StandsAlready g at earlier)
IsFirstFault g (Cycle walk) = HasGoodNodes g × AreConnections g (length g.connections) × IsClosedWalk g walk
IsFirstFault g (DelayBound latency connections) = IsShaped g × HasLongDelays g latency connections
IsFirstFault g (StateBound cells) = IsShaped g × HasFewDelays g × HasManyCells g cells
IsFirstFault g (Headroom uid side channel bound) =
    IsShaped g × HasFewDelays g × HasFewCells g × IsTooLoud g (record { uid = uid; side = side; channel = channel; bound = bound })

-- what a call answers that has no answer for the graph
abbrev pub IsRefusal : Graph → Refused GraphFault → Type 0
IsRefusal g (Fault fault) = IsFirstFault g fault
IsRefusal g Memory = Unit {0}
