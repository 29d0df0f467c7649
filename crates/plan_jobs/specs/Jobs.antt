-- The jobs of a plan.
use Rattle.std.specs.Prelude.{◌≡◌, ◌≢◌, ℕ, ◌<◌, true, false, List, [], length, map, replicate, slice_index_or, Option, Some, None}
use Rattle.graph_model.specs.Bounds.{bounds}
use Rattle.graph_model.specs.Graphs.{node_named, ins_at, outs_at, is_input, is_output, connections_into}
use Rattle.graph_model.specs.Kinds.{ins_of}
use Rattle.graph_model.specs.Named.{uid_at}
use Rattle.graph_model.specs.declared.kind.Kind.{Kind}
use Rattle.graph_model.specs.declared.graph.Node.{Node}
use Rattle.graph_model.specs.declared.graph.Bound.{Bound}
use Rattle.graph_model.specs.declared.graph.Graph.{Graph}
use Rattle.plan_model.specs.Certified.{positions}
use Rattle.plan_model.specs.declared.buffers.Home.{Home as PlanHome}
use Rattle.plan_model.specs.declared.plan.Plan.{Plan}
use Rattle.orders.specs.Orders as core
use Rattle.pool_waves.specs.declared.job.Home.{Home}
use Rattle.pool_waves.specs.declared.job.Job.{Job}
use Rattle.engine_model.specs.Machines.{sources, homes_at, channels_into, delays_into}
use Rattle.players.specs.declared.gathering.Wire.{Wire}
use Rattle.players.specs.declared.playing.Player.{Player}
use Rattle.players.specs.declared.playing.Server.{Server}
use Rattle.players.specs.declared.playing.Server.TheVariants.{Entry, Exit, Between}
use Rattle.players.specs.Plays.{Holds, IsWhole, delays_of}
use Rattle.players.specs.Reads.{channels_of, lengths_of}

abbrev pub core_home : Home → core.Home
core_home h = record { channel = h.channel; buffer = h.buffer }

-- where a wire reads a buffer of the node's own values, it says which; else none of them has it
abbrev pub IsOwnRight : List Home → ℕ → Option ℕ → Type 0
IsOwnRight homes b None = (o : ℕ) (e : Home) → o < length homes → (slice_index_or homes o e).buffer ≢ b
IsOwnRight homes b (Some o) = (o < length homes) × ((e : Home) → (slice_index_or homes o e).buffer ≡ b)

-- what a node of this kind does
abbrev pub Serves : Kind → Bound → Server → Type 0
Serves kind bound Entry = is_input kind ≡ true
Serves kind bound (Exit e) = (is_output kind ≡ true) × (lengths_of e.lines.items ≡ replicate (ins_of kind) 8192)
Serves kind bound (Between p) = (is_input kind ≡ false) × (is_output kind ≡ false) × (p.kind ≡ kind) × (p.bound ≡ bound)

-- the player of a node, over the homes of its own values, however many frames have come
pub record IsPlayerOf (g : Graph) (p : ℕ → ℕ) (plan_homes : List PlanHome) (v : ℕ) (homes : List Home) (a : Player) : Type 0 where
  pub buffers : map (λ w. w.buffer) a.wires.items ≡ sources g plan_homes v
  pub channels : channels_of a.wires.items ≡ channels_into g v
  pub delays : delays_of a ≡ delays_into g p v
  pub own : (i : ℕ) (d : Wire) → i < length a.wires.items
      → IsOwnRight homes (slice_index_or a.wires.items i d).buffer (slice_index_or a.wires.items i d).own
  pub homes_are : map core_home homes ≡ homes_at plan_homes v
  pub ins : a.ins ≡ ins_at g v
  pub outs : a.outs ≡ outs_at g v
  pub server : (n : Node) → node_named g v ≡ Some n → Serves n.kind (bounds g v) a.server
  pub whole : IsWhole a

-- the same, and nothing has come into it
pub record IsNewPlayer (g : Graph) (p : ℕ → ℕ) (plan_homes : List PlanHome) (v : ℕ) (homes : List Home) (a : Player) : Type 0 where
  pub is : IsPlayerOf g p plan_homes v homes a
  pub holds : Holds a (record { came = []; passed = map (λ c. []) (connections_into g v) })

-- the new job of a node: it knows the node's name and its index
pub record IsNewJob (g : Graph) (plan : Plan) (v : ℕ) (j : Job Player) : Type 0 where
  pub node : j.node ≡ v
  pub index : (j.index < length g.nodes) × (uid_at g j.index ≡ v)
  pub places : length j.desk.outs.items ≡ length j.desk.homes.items
  pub player : IsNewPlayer g (positions plan) plan.homes v j.desk.homes.items j.part

-- the new jobs of these nodes
pub record AreNewJobs (g : Graph) (plan : Plan) (vs : List ℕ) (jobs : List (Job Player)) : Type 0 where
  pub len : length jobs ≡ length vs
  pub each : (i : ℕ) (d : Job Player) → i < length jobs → IsNewJob g plan (slice_index_or vs i 0) (slice_index_or jobs i d)
