-- Frame events: one frame of one node over the shared pool of buffers. They are a machine for the law over orders.
use Rattle.std.specs.Prelude.{ℕ, ◌==◌, ℤ, pos, List, [], ◌∷◌, map, if◌then◌else◌, Option, Some, None}
use Rattle.std.specs.List.{range_with_len, filter, zip}
use Rattle.graph_model.specs.Histories.{Frame, History, ago, newest, window}
use Rattle.graph_model.specs.Kinds.{rule_of}
use Rattle.graph_model.specs.Graphs.{node_named, ins_at, is_input, connections_into}
use Rattle.graph_model.specs.Answers.{delay, sum_of}
use Rattle.graph_model.specs.declared.graph.Node.{Node}
use Rattle.graph_model.specs.declared.graph.Connection.{Connection}
use Rattle.graph_model.specs.declared.graph.Graph.{Graph}
use Rattle.plan_model.specs.Homes.{buffer_of}
use Rattle.plan_model.specs.declared.buffers.Home.{Home}
use Rattle.orders.specs.Orders as core

-- what came into a node, and what went into the line of each connection into it, each with the newest first
pub record Kept : Type 0 where
  pub came : History
  pub passed : List (List ℤ)

-- ---- lines, by their delays
-- what went into the lines when a sample more has gone into each
abbrev pub passed_then : List ℤ → List (List ℤ) → List (List ℤ)
passed_then xs passed = map (λ x. x.0 ∷ x.1) (zip xs passed)

-- what each line gives
abbrev pub taps : List ℕ → List (List ℤ) → List ℤ
taps delays passed = map (λ x. ago x.1 x.0) (zip delays passed)

-- the samples that each line holds
abbrev pub windows_on : List ℕ → List (List ℤ) → List (List ℤ)
windows_on delays passed = map (λ x. window x.0 x.1) (zip delays passed)

-- the sum of the samples that come on channel d, where these are the channels on which they come
abbrev pub sum_on : ℕ → List ℕ → List ℤ → ℤ
sum_on d channels samples = sum_of (λ x. if x.0 == d then x.1 else pos 0) (zip channels samples)

-- the frame of the sums on each channel
abbrev pub summed : ℕ → List ℕ → List ℕ → List (List ℤ) → Frame
summed ins channels delays passed = map (λ d. sum_on d channels (taps delays passed)) (range_with_len 0 ins)

-- ---- a node
-- the input channels and the delays of the connections into a node
abbrev pub channels_into : Graph → ℕ → List ℕ
channels_into g v = map (λ c. c.dst_channel) (connections_into g v)

abbrev pub delays_into : Graph → (ℕ → ℕ) → ℕ → List ℕ
delays_into g p v = map (λ c. delay g p c) (connections_into g v)

-- the frame that event k of a node takes: of the input node frame k of the block
abbrev pub taken : Graph → (ℕ → ℕ) → (ℕ → Frame) → ℕ → ℕ → Option Node → List (List ℤ) → Frame
taken g p block v k None passed = []
taken g p block v k (Some n) passed =
    if is_input n.kind then block k else summed (ins_at g v) (channels_into g v) (delays_into g p v) passed

abbrev pub takes_in : Graph → (ℕ → ℕ) → (ℕ → Frame) → ℕ → ℕ → Kept → List (List ℤ) → Kept
takes_in g p block v k s passed = record { came = taken g p block v k (node_named g v) passed ∷ s.came; passed = passed }

-- the frame that goes out of a node then
abbrev pub made : Option Node → History → Frame
made None h = []
made (Some n) h = if is_input n.kind then newest h else rule_of n.kind h

-- ---- its buffers
abbrev pub buffer_or_zero : Option ℕ → ℕ
buffer_or_zero None = 0
buffer_or_zero (Some b) = b

-- the buffer that a connection reads; each live one has one
abbrev pub buffer_for : List Home → Connection → ℕ
buffer_for homes c = buffer_or_zero (buffer_of homes c.src.0 c.src_channel)

-- the buffers that a node reads, one for each connection into it
abbrev pub sources : Graph → List Home → ℕ → List ℕ
sources g homes v = map (λ c. buffer_for homes c) (connections_into g v)

-- the homes of a node's own values
abbrev pub homes_at : List Home → ℕ → List core.Home
homes_at homes v = map (λ h. record { channel = h.channel; buffer = h.buffer }) (filter (λ h. h.uid.0 == v) homes)

-- ---- the machine of a graph at positions, with the buffers of its values and a block of input frames
abbrev pub machine : Graph → (ℕ → ℕ) → List Home → (ℕ → Frame) → core.Core Kept
machine g p homes block = record {
  reads = λ v k pool. core.samples_of (sources g homes v) k pool;
  homes = λ v. homes_at homes v;
  step = λ v k s xs. takes_in g p block v k s (passed_then xs s.passed);
  gives = λ v s. made (node_named g v) s.came;
}
