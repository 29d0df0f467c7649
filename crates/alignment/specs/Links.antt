-- The live connections of a graph by the numbers of their points, and the arcs that are made of them.
use Rattle.std.specs.Prelude.{ℕ, suc, ◌==◌, ℤ, pos, neg_ℤ, ◌-ℤ◌, List, [], ◌∷◌, ◌++◌, count_by, if◌then◌else◌}
use Rattle.graph_model.specs.Graphs.{latency_at, input_name, output_name}
use Rattle.graph_model.specs.Paths.{is_live, latency_of_graph}
use Rattle.graph_model.specs.declared.graph.Connection.{Connection}
use Rattle.graph_model.specs.declared.graph.Graph.{Graph}
use Rattle.min_cost_flow.specs.declared.network.Arc.{Arc}
use Rattle.alignment.specs.Networks.{number_in}
use Rattle.alignment.specs.declared.links.Link.{Link}

-- connection k
abbrev pub link_of : Graph → List ℕ → ℕ → Connection → Link
link_of g points k c = record {
  index = k;
  tail = number_in points c.src.0;
  head = number_in points c.dst.0;
  latency = latency_at g c.src.0;
}

-- the live connections from index k on; and all of them
abbrev pub links_from : Graph → List ℕ → ℕ → List Connection → List Link
links_from g points k [] = []
links_from g points k (c ∷ cs) =
    if is_live g c.dst.0 then link_of g points k c ∷ links_from g points (suc k) cs else links_from g points (suc k) cs

abbrev pub links_of : Graph → List ℕ → List Link
links_of g points = links_from g points 0 g.connections

-- the links into a point minus those out of it
abbrev pub need_at : List Link → ℕ → ℤ
need_at links point = pos (count_by (λ l. l.head == point) links) -ℤ pos (count_by (λ l. l.tail == point) links)

-- the arc along a link, that from the root to a point, and those to the root
abbrev pub arc_along : Link → Arc
arc_along l = record { tail = l.tail; head = l.head; least = pos l.latency }

abbrev pub arc_from_root : ℕ → Arc
arc_from_root point = record { tail = 0; head = point; least = pos 0 }

abbrev pub arcs_to_root : Graph → List ℕ → List Arc
arcs_to_root g points =
    (if is_live g (input_name g) then record { tail = number_in points (input_name g); head = 0; least = pos 0 } ∷ [] else [])
    ++ record { tail = number_in points (output_name g); head = 0; least = neg_ℤ (pos (latency_of_graph g)) } ∷ []
