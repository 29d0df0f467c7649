-- The streams of a graph at positions, by the time since the first frame and without an end: what comes into a node and
-- what goes out of it at each time, as functions that solve the graph's equations at each time.
use Rattle.std.specs.Prelude.{◌≡◌, ℕ, suc, ◌-◌, ℤ, pos, get_or, map, nat_lt, if◌then◌else◌, Some, true, false}
use Rattle.std.specs.List.{range_with_len}
use Rattle.graph_model.specs.Histories.{Frame, before, newest}
use Rattle.graph_model.specs.Kinds.{rule_of}
use Rattle.graph_model.specs.Graphs.{IsRanked, IsNode, node_named, ins_at, is_input, connections_to}
use Rattle.graph_model.specs.Answers.{delay, sum_of, incoming, outgoing}
use Rattle.graph_model.specs.declared.graph.Node.{Node}
use Rattle.graph_model.specs.declared.graph.Connection.{Connection}
use Rattle.graph_model.specs.declared.graph.Graph.{Graph}

-- one channel of a stream
abbrev pub on : (ℕ → Frame) → ℕ → ℕ → ℤ
on f c t = get_or (f t) c (pos 0)

-- d later, and 0 before
abbrev pub later : ℕ → (ℕ → ℤ) → ℕ → ℤ
later d f t = if nat_lt t d then pos 0 else f (t - d)

-- what comes into v and what goes out of it at time t, where x comes into the graph
abbrev pub in_at : Graph → (ℕ → ℕ) → (ℕ → Frame) → ℕ → ℕ → Frame
in_at g p x v t = newest (incoming g p (before x (suc t)) v)

abbrev pub out_at : Graph → (ℕ → ℕ) → (ℕ → Frame) → ℕ → ℕ → Frame
out_at g p x v t = newest (outgoing g p (before x (suc t)) v)

-- what a connection gives
abbrev pub tap : Graph → (ℕ → ℕ) → (ℕ → ℕ → Frame) → Connection → ℕ → ℤ
tap g p outs c t = later (delay g p c) (on (outs c.src.0) c.src_channel) t

-- the equations at each time, where x comes into the graph
pub record AreStreams (g : Graph) (p : ℕ → ℕ) (x : ℕ → Frame) (ins outs : ℕ → ℕ → Frame) : Type 0 where
  pub sums : (v t : ℕ) → ins v t ≡ map (λ d. sum_of (λ c. tap g p outs c t) (connections_to g v d)) (range_with_len 0 (ins_at g v))
  pub entry : (v t : ℕ) (n : Node) → node_named g v ≡ Some n → is_input n.kind ≡ true → outs v t ≡ x t
  pub gives : (v t : ℕ) (n : Node) → node_named g v ≡ Some n → is_input n.kind ≡ false → outs v t ≡ rule_of n.kind (before (ins v) (suc t))

-- the histories of a graph are such streams, frame by frame
abbrev pub HistoriesAreStreams : Type 0
HistoriesAreStreams = (g : Graph) (p rank : ℕ → ℕ) (x : ℕ → Frame) → IsRanked rank g → AreStreams g p x (in_at g p x) (out_at g p x)

-- and the histories after n frames are the first n frames of the streams
abbrev pub IncomingIsBefore : Type 0
IncomingIsBefore = (g : Graph) (p : ℕ → ℕ) (x : ℕ → Frame) (v n : ℕ) → incoming g p (before x n) v ≡ before (in_at g p x v) n

abbrev pub OutgoingIsBefore : Type 0
OutgoingIsBefore =
    (g : Graph) (p rank : ℕ → ℕ) (x : ℕ → Frame) (v n : ℕ) → IsRanked rank g → IsNode g v
    → outgoing g p (before x n) v ≡ before (out_at g p x v) n
