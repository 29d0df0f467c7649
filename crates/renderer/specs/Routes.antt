-- Connections by the indexes of their nodes, and what they bring.
use Rattle.std.specs.Prelude.{◌≡◌, ◌≢◌, ℕ, ◌+◌, ◌-◌, ◌*◌, ◌<◌, nat_le, if◌then◌else◌, List, length, get_or, ℤ, pos, ◌+ℤ◌}
use Rattle.graph_model.specs.Graphs.{ins_at, outs_at}
use Rattle.graph_model.specs.Paths.{live_connections}
use Rattle.graph_model.specs.Answers.{delay}
use Rattle.graph_model.specs.declared.graph.Connection.{Connection}
use Rattle.graph_model.specs.declared.graph.Graph.{Graph}
use Rattle.graph_model.specs.Named.{uid_at}
use Rattle.renderer.specs.declared.routes.Channel.{Channel}
use Rattle.renderer.specs.declared.routes.Route.{Route}

-- it follows connection c: between the same nodes and channels, where each node v stands at position p v
pub record IsRoute (g : Graph) (p : ℕ → ℕ) (c : Connection) (r : Route) : Type 0 where
  pub source : r.src < length g.nodes
  pub source_name : uid_at g r.src ≡ c.src.0
  pub destination : r.dst < length g.nodes
  pub destination_name : uid_at g r.dst ≡ c.dst.0
  pub from : r.from ≡ record { at = c.src_channel; of = outs_at g c.src.0 }
  pub to : r.to ≡ record { at = c.dst_channel; of = ins_at g c.dst.0 }
  pub holds_back : r.delay ≡ delay g p c

-- a route for each of these connections, in their order; and for each live one of a graph
pub record AreRoutesOf (g : Graph) (p : ℕ → ℕ) (cs : List Connection) (rs : List Route) : Type 0 where
  pub count : length rs ≡ length cs
  pub each : (k : ℕ) (c : Connection) (r : Route) → k < length rs → IsRoute g p (get_or cs k c) (get_or rs k r)

abbrev pub AreRoutes : Graph → (ℕ → ℕ) → List Route → Type 0
AreRoutes g p rs = AreRoutesOf g p (live_connections g) rs

-- the sample of a channel in frame t
abbrev pub sample_in : List ℤ → Channel → ℕ → ℤ
sample_in xs c t = get_or xs (t * c.of + c.at) (pos 0)

-- that of `late` frames before t, and 0 before the first frame
abbrev pub sample_before : List ℤ → Channel → ℕ → ℕ → ℤ
sample_before xs c late t = if nat_le late t then sample_in xs c (t - late) else pos 0

-- over n frames the route's channel has what it brings of a stream added, and the others stay
pub record IsAdded (n : ℕ) (r : Route) (stream old new : List ℤ) : Type 0 where
  pub added : (t : ℕ) → t < n → sample_in new r.to t ≡ sample_in old r.to t +ℤ sample_before stream r.from r.delay t
  pub others : (t c : ℕ) → t < n → c < r.to.of → c ≢ r.to.at → get_or new (t * r.to.of + c) (pos 0) ≡ get_or old (t * r.to.of + c) (pos 0)
