-- What contracts see of an engine, and what it stands for.
use Rattle.std.specs.Prelude.{◌≡◌, ℕ, ◌-◌, ◌*◌, ◌^◌, ◌<◌, ◌≤◌, false, ℤ, pos, List, ◌++◌, length, map, take, replicate, unsigned_abs, Some}
use Rattle.std.specs.List.{All, flat_map}
use Rattle.graph_model.specs.Histories.{History, channel, window, shifted, frames_of}
use Rattle.graph_model.specs.Graphs.{node_named, is_input, is_output, ins_at, outs_at, in_channels, out_channels, connections_into}
use Rattle.graph_model.specs.Paths.{reach}
use Rattle.graph_model.specs.Answers.{delay, incoming, outgoing, answer}
use Rattle.graph_model.specs.Kept.{StandsFor, Kept as KernelKept}
use Rattle.graph_model.specs.declared.graph.Node.{Node}
use Rattle.graph_model.specs.declared.graph.Connection.{Connection}
use Rattle.graph_model.specs.declared.graph.Graph.{Graph}
use Rattle.plan_model.specs.Certified.{positions}
use Rattle.plan_model.specs.Schedules.{names}
use Rattle.plan_model.specs.declared.plan.Plan.{Plan}

-- a node at work: what its kernel keeps, and the samples that the line of each connection into it holds, the newest
-- first, in the graph's order
pub record Job : Type 0 where
  pub node : ℕ
  pub kernel : KernelKept
  pub lines : List (List ℤ)

-- An engine: its graph and plan, the longest block, how many frames have come in, the jobs in the order of the waves,
-- and the buffers of the pool.
pub record Parts : Type 0 where
  pub graph : Graph
  pub plan : Plan
  pub block : ℕ
  pub frames : ℕ
  pub jobs : List Job
  pub pool : List (List ℤ)

-- ---- what it stands for
-- what came into v and what went out of it, where the nodes stand at p: as in the graph, but later by p v - reach v
abbrev pub came_in : Graph → (ℕ → ℕ) → History → ℕ → History
came_in g p h v = shifted (p v - reach g v) (ins_at g v) (incoming g (reach g) h v)

abbrev pub gone_out : Graph → (ℕ → ℕ) → History → ℕ → History
gone_out g p h v = shifted (p v - reach g v) (outs_at g v) (outgoing g (reach g) h v)

-- what went into a connection's line
abbrev pub gone_into : Graph → (ℕ → ℕ) → History → Connection → List ℤ
gone_into g p h c = channel c.src_channel (gone_out g p h c.src.0)

-- the kernel of a node between the ends stands for what came in, and each line holds the last samples that went into it
pub record JobHolds (g : Graph) (p : ℕ → ℕ) (came : History) (passed : Connection → List ℤ) (j : Job) : Type 0 where
  pub kernel : (n : Node) → node_named g j.node ≡ Some n → is_input n.kind ≡ false → is_output n.kind ≡ false
      → StandsFor n.kind j.kernel came
  pub lines : j.lines ≡ map (λ c. window (delay g p c) (passed c)) (connections_into g j.node)

abbrev pub JobStands : Graph → (ℕ → ℕ) → History → Job → Type 0
JobStands g p h j = JobHolds g p (came_in g p h j.node) (gone_into g p h) j

-- the engine stands for h: all that it keeps is as it is when h has come in
pub record Stands (e : Parts) (h : History) : Type 0 where
  pub frames : e.frames ≡ length h
  pub nodes : map (λ j. j.node) e.jobs ≡ flat_map names e.plan.waves
  pub jobs : All (JobStands e.graph (positions e.plan) h) e.jobs

-- a new engine: a pool of zeros, and all the rest as given
pub record IsNew (g : Graph) (plan : Plan) (block : ℕ) (e : Parts) : Type 0 where
  pub of_graph : e.graph ≡ g
  pub by_plan : e.plan ≡ plan
  pub longest : e.block ≡ block
  pub zeros : e.pool ≡ replicate plan.channels (replicate block (pos 0))

-- ---- a block
abbrev pub ins : Parts → ℕ
ins e = in_channels e.graph

abbrev pub outs : Parts → ℕ
outs e = out_channels e.graph

-- n frames of input, and room for as many of output
pub record IsBlock (e : Parts) (n : ℕ) (input output : List ℤ) : Type 0 where
  pub some : 0 < n
  pub most : n ≤ e.block
  pub comes : length input ≡ n * ins e
  pub goes : length output ≡ n * outs e
  pub small : All (λ y. unsigned_abs y ≤ 2 ^ 31) input

-- graph, plan and block stay as they are
pub record IsSame (e e' : Parts) : Type 0 where
  pub graph : e'.graph ≡ e.graph
  pub plan : e'.plan ≡ e.plan
  pub block : e'.block ≡ e.block

-- where the input comes in after h, the output has the last frames of the answer
abbrev pub Answers : Parts → List ℤ → List ℤ → History → Type 0
Answers e input output h =
    frames_of (outs e) output ≡ take (length (frames_of (ins e) input)) (answer e.graph (frames_of (ins e) input ++ h))
