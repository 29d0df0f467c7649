-- What is proved of frame events and of engines.
use Rattle.std.specs.Prelude.{◌≡◌, ℕ, ◌+◌, ◌*◌, ◌<◌, true, false, ℤ, pos, List, [], ◌++◌, length, map, replicate, Some}
use Rattle.graph_model.specs.Histories.{Frame, History, frames_of}
use Rattle.graph_model.specs.Graphs.{node_named, is_input, is_output, connections_into}
use Rattle.graph_model.specs.Paths.{is_live}
use Rattle.graph_model.specs.Answers.{delay}
use Rattle.graph_model.specs.Kept.{StandsFor}
use Rattle.graph_model.specs.Sound.{IsSound}
use Rattle.graph_model.specs.declared.graph.Node.{Node}
use Rattle.graph_model.specs.declared.graph.Graph.{Graph}
use Rattle.plan_model.specs.Certified.{positions, IsCertified}
use Rattle.plan_model.specs.Schedules.{names}
use Rattle.plan_model.specs.declared.plan.Plan.{Plan}
use Rattle.orders.specs.Orders as core
use Rattle.engine_model.specs.Machines.{Kept, machine}
use Rattle.engine_model.specs.States.{kept_at}
use Rattle.engine_model.specs.Engines.{Job, JobStands, Parts, Stands, IsSame, Answers, ins}
use Rattle.engine_model.specs.Events.{AnyOrder}

-- ---- frame events
-- the order of the events of a block does not show
abbrev pub OrdersNeverShow : Type 0
OrdersNeverShow =
    (g : Graph) (plan : Plan) (block : ℕ → Frame) (n : ℕ) (first second : List (List ℕ)) (s : core.State Kept) →
    IsSound g → IsCertified g plan →
    core.AreOrdersOf n (map names plan.waves) first → core.AreOrdersOf n (map names plan.waves) second →
    core.IsSame (core.after (machine g (positions plan) plan.homes block) first s)
    (core.after (machine g (positions plan) plan.homes block) second s)

-- a block of n frames, in any orders, takes every live node n frames further
abbrev pub BlocksRun : Type 0
BlocksRun =
    (g : Graph) (plan : Plan) (x block : ℕ → Frame) (T n : ℕ) (orders : List (List ℕ)) (s : core.State Kept) →
    IsSound g → IsCertified g plan →
    ((k : ℕ) → k < n → block k ≡ x (T + k)) → core.AreOrdersOf n (map names plan.waves) orders →
    ((v : ℕ) → is_live g v ≡ true → s.kept v ≡ kept_at g (positions plan) x T v) →
    (v : ℕ) → is_live g v ≡ true →
    (core.after (machine g (positions plan) plan.homes block) orders s).kept v ≡ kept_at g (positions plan) x (T + n) v

-- ---- engines
-- an engine that a block leaves as its frame events do stands for the history with the block, and its output is the
-- answer
abbrev pub OrdersGiveAnswers : Type 0
OrdersGiveAnswers =
    (e e' : Parts) (n : ℕ) (input output : List ℤ) (h : History) →
    IsSound e.graph → IsCertified e.graph e.plan → IsSame e e' →
    length input ≡ n * ins e → map (λ j. j.node) e'.jobs ≡ map (λ j. j.node) e.jobs → e'.frames ≡ e.frames + n →
    Stands e h → AnyOrder e e' input output h →
    Stands e' (frames_of (ins e) input ++ h) × Answers e input output h

-- with zeros in its lines and a kernel that stands for nothing a job stands for no frames
abbrev pub NewStands : Type 0
NewStands = (g : Graph) (p : ℕ → ℕ) (j : Job) →
    ((n : Node) → node_named g j.node ≡ Some n → is_input n.kind ≡ false → is_output n.kind ≡ false → StandsFor n.kind j.kernel []) →
    j.lines ≡ map (λ c. replicate (delay g p c) (pos 0)) (connections_into g j.node) → JobStands g p [] j
