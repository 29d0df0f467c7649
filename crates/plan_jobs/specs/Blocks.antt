-- A block: all waves in turn.
use Rattle.std.specs.Prelude.{◌≡◌, ℕ, ◌+◌, ◌*◌, ◌^◌, ◌<◌, ◌≤◌, true, ℤ, List, [], ◌∷◌, length, map, take, slice_index_or}
use Rattle.std.specs.List.{flat_map}
use Rattle.graph_model.specs.Bounds.{IsInputFor}
use Rattle.graph_model.specs.Histories.{Frame, before, frame_in}
use Rattle.graph_model.specs.Paths.{is_live}
use Rattle.graph_model.specs.Sound.{IsSound}
use Rattle.graph_model.specs.declared.graph.Graph.{Graph}
use Rattle.plan_model.specs.Certified.{IsCertified, positions}
use Rattle.plan_model.specs.Schedules.{names}
use Rattle.plan_model.specs.declared.plan.Plan.{Plan}
use Rattle.orders.specs.Orders as core
use Rattle.engine_model.specs.Machines.{Kept, machine}
use Rattle.engine_model.specs.States.{kept_at}
use Rattle.pool_waves.specs.declared.job.Job.{Job}
use Rattle.pool_waves.specs.Exchanges.{HaveLists}
use Rattle.players.specs.declared.playing.Player.{Player}
use Rattle.players.specs.Servers.{SameServer}
use Rattle.plan_jobs.specs.Hinges.{AreJobsOf, AreAt}

-- the nodes of the first k waves, and of all
abbrev pub nodes_before : Plan → ℕ → List ℕ
nodes_before plan k = flat_map names (take k plan.waves)

abbrev pub all_nodes : Plan → List ℕ
all_nodes plan = flat_map names plan.waves

-- where the first k waves end
pub record AreEnds (plan : Plan) (k : ℕ) (ends : List ℕ) : Type 0 where
  pub len : length ends ≡ k
  pub at : (i : ℕ) → i ≤ length ends → slice_index_or (0 ∷ ends) i 0 ≡ length (nodes_before plan i)

-- the jobs of a certified plan, in a state that some small input has brought about, and n frames more of it
pub record CanRunBlock (input : List ℤ) (channels : ℕ) (ends : List ℕ) (n : ℕ) (jobs : List (Job Player))
    (pool : List (List ℤ)) : Type 0 where
  pub graph : Graph
  pub plan : Plan
  pub sound : IsSound graph
  pub certified : IsCertified graph plan
  pub x : ℕ → Frame
  pub time : ℕ
  pub state : core.State Kept
  pub brings : (k : ℕ) → k < n → frame_in channels input k ≡ x (time + k)
  pub small : (t : ℕ) → IsInputFor graph (before x t)
  pub jobs_are : AreJobsOf graph (positions plan) plan (all_nodes plan) jobs
  pub here : AreAt (all_nodes plan) jobs pool state
  pub stands : (v : ℕ) → is_live graph v ≡ true → state.kept v ≡ kept_at graph (positions plan) x time v
  pub ends_are : AreEnds plan (length plan.waves) ends
  pub pool_len : length pool ≡ plan.channels
  pub room : (b : ℕ) → b < length pool → n ≤ length (slice_index_or pool b [])
  pub size : n < 2 ^ 63
  pub entry : n * channels ≤ length input
  pub outs : HaveLists jobs
  pub few : length jobs ≤ 512

-- its node and what its server is stay
pub record JobStays (a b : Job Player) : Type 0 where
  pub node : b.node ≡ a.node
  pub server : SameServer a.part.server b.part.server

-- whatever the orders of the frame events are, the jobs and the pool are as they leave them; the rest is as it was
pub record BlockHasRun (input : List ℤ) (channels : ℕ) (ends : List ℕ) (n : ℕ) (jobs : List (Job Player)) (pool : List (List ℤ))
    (jobs' : List (Job Player)) (pool' : List (List ℤ)) : Type 0 where
  pub jobs_len : length jobs' ≡ length jobs
  pub pool_len : length pool' ≡ length pool
  pub lengths : (b : ℕ) → length (slice_index_or pool' b []) ≡ length (slice_index_or pool b [])
  pub outs : HaveLists jobs'
  pub stays : (i : ℕ) (d : Job Player) → i < length jobs → JobStays (slice_index_or jobs i d) (slice_index_or jobs' i d)
  pub ran : (g : Graph) (plan : Plan) (s : core.State Kept) (orders : List (List ℕ)) → IsSound g → IsCertified g plan
      → AreJobsOf g (positions plan) plan (all_nodes plan) jobs → AreAt (all_nodes plan) jobs pool s
      → AreEnds plan (length plan.waves) ends
      → core.AreOrdersOf n (map names plan.waves) orders
      → AreJobsOf g (positions plan) plan (all_nodes plan) jobs'
      × AreAt (all_nodes plan) jobs' pool'
      (core.after (machine g (positions plan) plan.homes (frame_in channels input)) orders s)
