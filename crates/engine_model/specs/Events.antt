-- An engine as the frame events of a block leave it, in whatever order they come.
use Rattle.std.specs.Prelude.{◌≡◌, ℕ, ◌*◌, false, ℤ, pos, List, [], length, map, take, get_or, if◌then◌else◌, Option, Some, None}
use Rattle.std.specs.List.{All}
use Rattle.graph_model.specs.Histories.{History, frame_in, frames_of}
use Rattle.graph_model.specs.Graphs.{node_named, is_input, is_output, output_name, connections_into}
use Rattle.graph_model.specs.Kept.{StandsFor}
use Rattle.graph_model.specs.declared.graph.Node.{Node}
use Rattle.graph_model.specs.declared.graph.Graph.{Graph}
use Rattle.plan_model.specs.Certified.{positions}
use Rattle.plan_model.specs.Schedules.{names}
use Rattle.orders.specs.Orders as core
use Rattle.engine_model.specs.Machines.{Kept, machine, delays_into, windows_on}
use Rattle.engine_model.specs.Engines.{Job, Parts, came_in, gone_into, ins, outs}

-- ---- the state where h has come in
-- what has come into a node: into the input node the graph's input
abbrev pub came_of : Graph → (ℕ → ℕ) → History → Option Node → ℕ → History
came_of g p h None v = []
came_of g p h (Some n) v = if is_input n.kind then h else came_in g p h v

-- sample k of buffer b
abbrev pub sample_of : List (List ℤ) → ℕ → ℕ → ℤ
sample_of pool b k = get_or (get_or pool b []) k (pos 0)

abbrev pub state_of : Parts → History → core.State Kept
state_of e h = record {
  kept = λ v. record {
    came = came_of e.graph (positions e.plan) h (node_named e.graph v) v;
    passed = map (gone_into e.graph (positions e.plan) h) (connections_into e.graph v);
  };
  pool = sample_of e.pool;
}

-- ---- and after a block
-- the events of the block, in these orders
abbrev pub after_orders : Parts → List ℤ → History → List (List ℕ) → core.State Kept
after_orders e input h orders =
    core.after (machine e.graph (positions e.plan) e.plan.homes (frame_in (ins e) input)) orders (state_of e h)

-- the job is as the events leave its node
pub record JobIsLeft (g : Graph) (p : ℕ → ℕ) (s : Kept) (j : Job) : Type 0 where
  pub kernel : (n : Node) → node_named g j.node ≡ Some n → is_input n.kind ≡ false → is_output n.kind ≡ false
      → StandsFor n.kind j.kernel s.came
  pub lines : j.lines ≡ windows_on (delays_into g p j.node) s.passed

-- the engine is as the events leave it; the output has the n frames that came last into the output node
pub record IsLeftBy (e : Parts) (n : ℕ) (output : List ℤ) (s : core.State Kept) : Type 0 where
  pub gave : frames_of (outs e) output ≡ take n (s.kept (output_name e.graph)).came
  pub pool : (b k : ℕ) → sample_of e.pool b k ≡ s.pool b k
  pub jobs : All (λ j. JobIsLeft e.graph (positions e.plan) (s.kept j.node) j) e.jobs

-- and so it is for every order of the events
abbrev pub AnyOrder : Parts → Parts → List ℤ → List ℤ → History → Type 0
AnyOrder e e' input output h =
    (n : ℕ) (orders : List (List ℕ)) → length input ≡ n * ins e → core.AreOrdersOf n (map names e.plan.waves) orders →
    IsLeftBy e' n output (after_orders e input h orders)
