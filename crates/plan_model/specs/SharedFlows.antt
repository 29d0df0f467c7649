-- The network of shared lines. Beside the root and the live nodes, each value has a point, its mirror, which stands no
-- earlier than any node that reads the value: so what lies between the end of its node and its mirror is at least its
-- line.
use Rattle.std.specs.Prelude.{◌≡◌, ℕ, ◌<◌, ◌==◌, ◌&&◌, ◌⊎◌, ℤ, pos, ◌-ℤ◌, neg_ℤ, Bool, true, false, List, [], ◌∷◌, ◌++◌, map, count_by, if◌then◌else◌, Option, Some, None}
use Rattle.std.specs.List.{Contains}
use Rattle.graph_model.specs.Graphs.{latency_at, input_name, output_name}
use Rattle.graph_model.specs.Paths.{IsLive, is_live, live_nodes, live_connections, greatest}
use Rattle.graph_model.specs.declared.graph.Connection.{Connection}
use Rattle.graph_model.specs.declared.graph.Graph.{Graph}
use Rattle.plan_model.specs.Networks.{Difference, Terms, arc_from_to, units_into, units_from, OnArcs, bound}
use Rattle.plan_model.specs.Pairs.{ComesBefore}
use Rattle.plan_model.specs.Lives.{Port, source, reads_of, values}
use Rattle.plan_model.specs.Duality.{rooted}
use Rattle.plan_model.specs.declared.shared.Point.{Point}
use Rattle.plan_model.specs.declared.shared.PointUnits.{PointUnits}

-- the point of a node, or with 0 the root; the mirror of a value
abbrev pub at_node : ℕ → Point
at_node v = record { uid = v; channel = None }

abbrev pub mirror : Port → Point
mirror x = record { uid = x.uid.0; channel = Some x.channel }

abbrev pub same_channel : Option ℕ → Option ℕ → Bool
same_channel None None = true
same_channel None (Some d) = false
same_channel (Some c) None = false
same_channel (Some c) (Some d) = c == d

abbrev pub same_point : Point → Point → Bool
same_point x y = same_channel x.channel y.channel && (x.uid == y.uid)

-- the words of this network: a link for each value, from its node to its mirror
abbrev pub shared_terms : Graph → Terms Point PointUnits Port
shared_terms g = record {
  same = same_point;
  tail = λ e. e.tail;
  head = λ e. e.head;
  units = λ e. e.units;
  source = λ x. at_node x.uid.0;
  target = mirror;
  latency = λ x. latency_at g x.uid.0;
}

-- one arc along each pair of nodes that a live connection joins
abbrev pub along_nodes : Graph → Connection → Difference Point
along_nodes g c = record { tail = at_node c.src.0; head = at_node c.dst.0; least = pos (latency_at g c.src.0) }

-- one from each node that reads a value to the mirror of that
abbrev pub to_mirror : Connection → Difference Point
to_mirror c = record { tail = at_node c.dst.0; head = mirror (source c); least = pos 0 }

-- one from the root to each live node
abbrev pub root_to : ℕ → Difference Point
root_to v = record { tail = at_node 0; head = at_node v; least = pos 0 }

-- one from a live input node to the root, and one from the output node
abbrev pub ends_to_root : Graph → ℕ → List (Difference Point)
ends_to_root g latency =
    (if is_live g (input_name g) then record { tail = at_node (input_name g); head = at_node 0; least = pos 0 } ∷ [] else [])
    ++ record { tail = at_node (output_name g); head = at_node 0; least = neg_ℤ (pos latency) } ∷ []

-- one from each mirror to the root: no node stands after the output node
abbrev pub mirror_to_root : ℕ → Port → Difference Point
mirror_to_root latency x = record { tail = mirror x; head = at_node 0; least = neg_ℤ (pos latency) }

abbrev pub shared_network : Graph → ℕ → List (Difference Point)
shared_network g latency =
    map (along_nodes g) (live_connections g)
    ++ (map to_mirror (live_connections g)
    ++ (map root_to (live_nodes g)
    ++ (ends_to_root g latency
    ++ map (mirror_to_root latency) (values g))))

abbrev pub shared_arc : Graph → ℕ → Point → Point → Option (Difference Point)
shared_arc g latency t h = arc_from_to (shared_terms g) (shared_network g latency) t h

-- a point: the root, a live node, or the mirror of a value
abbrev pub IsPointOf : Graph → ℕ → Option ℕ → Type 0
IsPointOf g v None = (v ≡ 0) ⊎ IsLive g v
IsPointOf g v (Some c) = Contains (values g) (record { uid = record { 0 = v }; channel = c })

abbrev pub IsSharedPoint : Graph → Point → Type 0
IsSharedPoint g x = IsPointOf g x.uid x.channel

-- the need of a mirror is 1, that of a live node minus the number of its values; no node has the name 0, so that of the
-- root is 0
abbrev pub need_by : Graph → ℕ → Option ℕ → ℤ
need_by g v None = neg_ℤ (pos (count_by (λ x. x.uid.0 == v) (values g)))
need_by g v (Some c) = pos 1

abbrev pub IsSharedBalanced : Graph → List PointUnits → Point → Type 0
IsSharedBalanced g flow x = pos (units_into (shared_terms g) flow x) -ℤ pos (units_from (shared_terms g) flow x) ≡ need_by g x.uid x.channel

pub record IsSharedFlow (g : Graph) (latency : ℕ) (flow : List PointUnits) : Type 0 where
  pub arcs : OnArcs (shared_terms g) (shared_network g latency) flow
  pub needs : (x : Point) → IsSharedPoint g x → IsSharedBalanced g flow x

-- the sum of units times least differences, minus the latencies of the nodes of the values
abbrev pub shared_bound : Graph → ℕ → List PointUnits → ℤ
shared_bound g latency flow = bound (shared_terms g) (shared_network g latency) (values g) flow

-- where a point stands: a mirror with the last node that reads the value
abbrev pub last_read : Graph → (ℕ → ℕ) → ℕ → ℕ → ℕ
last_read g p v channel = greatest (map (λ c. p c.dst.0) (reads_of g (record { 0 = v }) channel))

abbrev pub stands_at : Graph → (ℕ → ℕ) → ℕ → Option ℕ → ℕ
stands_at g p v None = rooted p v
stands_at g p v (Some c) = last_read g p v c

abbrev pub mirrored : Graph → (ℕ → ℕ) → Point → ℕ
mirrored g p x = stands_at g p x.uid x.channel

-- the root, the nodes ascending, the mirrors ascending by (uid, channel)
abbrev pub ComesBeforePoint : ℕ → Option ℕ → ℕ → Option ℕ → Type 0
ComesBeforePoint u None v None = u < v
ComesBeforePoint u None v (Some d) = Unit {0}
ComesBeforePoint u (Some c) v None = ⊥
ComesBeforePoint u (Some c) v (Some d) = ComesBefore (u, c) (v, d)

abbrev pub IsPointBefore : Point → Point → Type 0
IsPointBefore x y = ComesBeforePoint x.uid x.channel y.uid y.channel

-- ascending by (tail, head)
abbrev pub IsBeforePointArc : PointUnits → PointUnits → Type 0
IsBeforePointArc d e = IsPointBefore d.tail e.tail ⊎ ((d.tail ≡ e.tail) × IsPointBefore d.head e.head)
