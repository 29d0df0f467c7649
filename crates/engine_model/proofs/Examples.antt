-- The definitions at small numbers, by computation.
use Rattle.std.proofs.Common.{◌≡◌, ℕ, zero, suc, List, [], ◌∷◌, map, pos, refl}
use Rattle.std.specs.List.{range_with_len}
use Rattle.graph_model.specs.Histories.{Frame, History, window}
use Rattle.graph_model.specs.Answers.{delay, out_within}
use Rattle.graph_model.specs.Paths.{reach_within}
use Rattle.graph_model.specs.Graphs.{connections_into}
use Rattle.graph_model.specs.declared.kind.Kind.{Kind}
use Rattle.graph_model.specs.declared.kind.Kind.TheVariants.{Input, Output, Gain, Mixer, Insert}
use Rattle.graph_model.specs.declared.graph.Node.{Node}
use Rattle.graph_model.specs.declared.graph.Connection.{Connection}
use Rattle.graph_model.specs.declared.graph.Graph.{Graph}
use Rattle.plan_model.specs.declared.buffers.Home.{Home}
use Rattle.orders.specs.Orders as core
use Rattle.graph_model.specs.Streams.{in_at}
use Rattle.engine_model.specs.Engines.{came_in, gone_into}
use Rattle.engine_model.specs.Machines.{Kept, machine}

abbrev node : ℕ → Kind → Node
node v kind = record { uid = record { 0 = v }; kind = kind }

abbrev joined : ℕ → ℕ → Connection
joined u v = record { src = record { 0 = u }; src_channel = 0; dst = record { 0 = v }; dst_channel = 0 }

-- an insert of 1 beside a straight connection, whose line holds 1
unfoldable graph : Graph
graph = record {
  nodes = node 1 (Input 1) ∷ node 2 (Output 1) ∷ node 3 (Insert 1 1) ∷ [];
  connections = joined 1 3 ∷ joined 3 2 ∷ joined 1 2 ∷ [];
}

unfoldable at : ℕ → ℕ
at (suc (suc zero)) = 1
at v = 0

-- 10, 20, 30 and so on
unfoldable comes : ℕ → Frame
comes zero = pos 10 ∷ []
comes (suc zero) = pos 20 ∷ []
comes (suc (suc t)) = pos 30 ∷ []

by_time : map (λ t. in_at graph at comes 2 t) (range_with_len 0 3) ≡ (pos 0 ∷ []) ∷ (pos 20 ∷ []) ∷ (pos 40 ∷ []) ∷ []
unfolding graph at comes out_within
by_time = refl

abbrev home : ℕ → ℕ → Home
home v b = record { uid = record { 0 = v }; channel = 0; buffer = b }

unfoldable apart_homes : List Home
apart_homes = home 1 0 ∷ home 3 1 ∷ []

unfoldable empty : core.State Kept
empty = record { kept = λ v. record { came = []; passed = map (λ c. []) (connections_into graph v) }; pool = λ b k. pos 0 }

-- three frames of a block by frame events, one node a wave
by_events : (core.after (machine graph at apart_homes comes) ((1 ∷ 1 ∷ 1 ∷ []) ∷ (3 ∷ 3 ∷ 3 ∷ []) ∷ (2 ∷ 2 ∷ 2 ∷ []) ∷ []) empty).kept 2
    ≡ record { came = (pos 40 ∷ []) ∷ (pos 20 ∷ []) ∷ (pos 0 ∷ []) ∷ []; passed = (pos 20 ∷ pos 10 ∷ pos 0 ∷ []) ∷ (pos 30 ∷ pos 20 ∷ pos 10 ∷ []) ∷ [] }
unfolding graph at comes empty apart_homes
by_events = refl

-- what the output node stands for when 10 and 20 have come in: the insert has given 0 and 10, and the line of the
-- straight connection still holds 20
unfoldable heard : History
heard = (pos 20 ∷ []) ∷ (pos 10 ∷ []) ∷ []

came_to_the_output : came_in graph at heard 2 ≡ (pos 20 ∷ []) ∷ (pos 0 ∷ []) ∷ []
unfolding graph at heard out_within reach_within
came_to_the_output = refl

lines_to_the_output : map (λ c. window (delay graph at c) (gone_into graph at heard c)) (connections_into graph 2) ≡ [] ∷ (pos 20 ∷ []) ∷ []
unfolding graph at heard out_within reach_within
lines_to_the_output = refl

-- where it stands one later all of it comes one later, and both lines hold one sample more
unfoldable later_at : ℕ → ℕ
later_at (suc (suc zero)) = 2
later_at v = 0

came_later : came_in graph later_at heard 2 ≡ (pos 0 ∷ []) ∷ (pos 0 ∷ []) ∷ []
unfolding graph later_at heard out_within reach_within
came_later = refl

lines_later : map (λ c. window (delay graph later_at c) (gone_into graph later_at heard c)) (connections_into graph 2) ≡ (pos 10 ∷ []) ∷ (pos 20 ∷ pos 10 ∷ []) ∷ []
unfolding graph later_at heard out_within reach_within
lines_later = refl

-- a gain in place, in the buffer of the input: it writes over what it read, sample by sample
unfoldable row : Graph
row = record {
  nodes = node 1 (Input 1) ∷ node 2 (Output 1) ∷ node 3 (Gain 1 (pos 131072)) ∷ [];
  connections = joined 1 3 ∷ joined 3 2 ∷ [];
}

unfoldable one_buffer : List Home
one_buffer = home 1 0 ∷ home 3 0 ∷ []

unfoldable still : core.State Kept
still = record { kept = λ v. record { came = []; passed = map (λ c. []) (connections_into row v) }; pool = λ b k. pos 0 }

in_place : (core.after (machine row (λ v. 0) one_buffer comes) ((1 ∷ 1 ∷ []) ∷ (3 ∷ 3 ∷ []) ∷ (2 ∷ 2 ∷ []) ∷ []) still).kept 2
    ≡ record { came = (pos 40 ∷ []) ∷ (pos 20 ∷ []) ∷ []; passed = (pos 40 ∷ pos 20 ∷ []) ∷ [] }
unfolding row comes still one_buffer
in_place = refl

-- where input and gain stand in one wave the order shows: such homes are no assignment
one_order : (core.after (machine row (λ v. 0) one_buffer comes) ((1 ∷ 3 ∷ 1 ∷ 3 ∷ []) ∷ (2 ∷ 2 ∷ []) ∷ []) still).kept 2
    ≡ record { came = (pos 40 ∷ []) ∷ (pos 20 ∷ []) ∷ []; passed = (pos 40 ∷ pos 20 ∷ []) ∷ [] }
unfolding row comes still one_buffer
one_order = refl

another_order : (core.after (machine row (λ v. 0) one_buffer comes) ((3 ∷ 3 ∷ 1 ∷ 1 ∷ []) ∷ (2 ∷ 2 ∷ []) ∷ []) still).kept 2
    ≡ record { came = (pos 20 ∷ []) ∷ (pos 10 ∷ []) ∷ []; passed = (pos 20 ∷ pos 10 ∷ []) ∷ [] }
unfolding row comes still one_buffer
another_order = refl

-- a mixer that swaps its two channels, in the two buffers of the input: an event reads all before it writes
abbrev joined_on : ℕ → ℕ → ℕ → Connection
joined_on u v d = record { src = record { 0 = u }; src_channel = d; dst = record { 0 = v }; dst_channel = d }

unfoldable swap : Graph
swap = record {
  nodes = node 1 (Input 2) ∷ node 2 (Output 2) ∷ node 3 (Mixer 2 2 (pos 0 ∷ pos 65536 ∷ pos 65536 ∷ pos 0 ∷ [])) ∷ [];
  connections = joined_on 1 3 0 ∷ joined_on 1 3 1 ∷ joined_on 3 2 0 ∷ joined_on 3 2 1 ∷ [];
}

abbrev home_of : ℕ → ℕ → Home
home_of v d = record { uid = record { 0 = v }; channel = d; buffer = d }

unfoldable two_buffers : List Home
two_buffers = home_of 1 0 ∷ home_of 1 1 ∷ home_of 3 0 ∷ home_of 3 1 ∷ []

unfoldable quiet : core.State Kept
quiet = record { kept = λ v. record { came = []; passed = map (λ c. []) (connections_into swap v) }; pool = λ b k. pos 0 }

swapped : ((core.after (machine swap (λ v. 0) two_buffers (λ t. pos 1 ∷ pos 2 ∷ [])) ((1 ∷ []) ∷ (3 ∷ []) ∷ (2 ∷ []) ∷ []) quiet).kept 2).came ≡ (pos 2 ∷ pos 1 ∷ []) ∷ []
unfolding swap two_buffers quiet
swapped = refl
