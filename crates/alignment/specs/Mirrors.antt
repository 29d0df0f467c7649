-- The values by the numbers of their nodes and mirrors, and the arcs that are made of them; the mirrors are numbered
-- after the nodes.
use Rattle.std.specs.Prelude.{ℕ, ◌+◌, ℤ, pos, neg_ℤ, List, length, get_or}
use Rattle.graph_model.specs.Graphs.{latency_at}
use Rattle.graph_model.specs.declared.graph.Graph.{Graph}
use Rattle.min_cost_flow.specs.declared.network.Arc.{Arc}
use Rattle.plan_model.specs.Lives.{Port}
use Rattle.plan_model.specs.declared.shared.LineOf.{LineOf}
use Rattle.alignment.specs.Networks.{number_in}
use Rattle.alignment.specs.Places.{delay_of}
use Rattle.alignment.specs.Values.{port, place_of_value, read_of}
use Rattle.alignment.specs.declared.links.Link.{Link}
use Rattle.alignment.specs.declared.values.Value.{Value}

-- the number of the mirror of a value
abbrev pub mirror_number : Graph → List ℕ → Port → ℕ
mirror_number g points x = length points + place_of_value g x

-- from the node of a value to its mirror
abbrev pub mirror_link : Graph → List ℕ → Port → Link
mirror_link g points x = record {
  index = place_of_value g x;
  tail = number_in points x.uid.0;
  head = mirror_number g points x;
  latency = latency_at g x.uid.0;
}

-- from the destination of a live connection to the mirror of the value that it reads
abbrev pub arc_to_mirror : Graph → List ℕ → Link → Arc
arc_to_mirror g points l = record { tail = l.head; head = mirror_number g points (port (read_of g l)); least = pos 0 }

-- from a mirror to the root
abbrev pub arc_from_mirror : ℕ → ℕ → Arc
arc_from_mirror latency point = record { tail = point; head = 0; least = neg_ℤ (pos latency) }

-- the line of the value of a link
abbrev pub line_of_link : List Value → List ℤ → Link → LineOf
line_of_link values potentials l =
    let x = get_or values l.index (record { uid = 0; channel = 0 }) in
    record { uid = record { 0 = x.uid }; channel = x.channel; delay = delay_of potentials l }
