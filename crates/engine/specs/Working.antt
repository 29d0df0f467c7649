-- What holds of an engine between two blocks.
use Rattle.std.specs.Prelude.{◌≡◌, ℕ, ◌+◌, ◌*◌, ◌/◌, ◌^◌, ◌<◌, ◌≤◌, ℤ, List, [], ◌++◌, length, map, slice_index_or, unsigned_abs}
use Rattle.std.specs.List.{All}
use Rattle.graph_model.specs.Graphs.{in_channels, out_channels, output_name}
use Rattle.graph_model.specs.Histories.{History, frames_of}
use Rattle.graph_model.specs.Sound.{IsSound}
use Rattle.graph_model.specs.declared.graph.Graph.{Graph}
use Rattle.plan_model.specs.Certified.{IsCertified, positions}
use Rattle.plan_model.specs.declared.plan.Plan.{Plan}
use Rattle.pool_waves.specs.Exchanges.{HaveLists}
use Rattle.pool_waves.specs.declared.job.Job.{Job}
use Rattle.engine_model.specs.Engines.{Stands, IsBlock, Answers}
use Rattle.engine_model.specs.Events.{AnyOrder}
use Rattle.players.specs.declared.playing.Player.{Player}
use Rattle.plan_jobs.specs.Blocks.{AreEnds, all_nodes}
use Rattle.plan_jobs.specs.Hinges.{AreJobsOf}
use Rattle.engine.specs.declared.shape.Shape.{Shape}
use Rattle.engine.specs.Views.{parts_of}

-- frames of at most m channels whose samples are at most 2 ^ 31 in size
abbrev pub AreSmall : ℕ → History → Type 0
AreSmall m h = All (λ f. (length f ≤ m) × All (λ y. unsigned_abs y ≤ 2 ^ 31) f) h

-- the lengths of the plan's lines
abbrev pub AreDelays : Plan → List ℕ → Type 0
AreDelays plan delays = delays ≡ map (λ l. l.delay) plan.lines

-- the jobs are those of a certified plan, and stand for some history of small frames
pub record IsWorking (graph : Graph) (plan : Plan) (block frames : ℕ) (s : Shape) (jobs : List (Job Player))
    (pool : List (List ℤ)) : Type 0 where
  pub sound : IsSound graph
  pub certified : IsCertified graph plan
  pub history : History
  pub stands : Stands (parts_of graph plan block frames jobs pool) history
  pub small : AreSmall s.ins history
  pub jobs_are : AreJobsOf graph (positions plan) plan (all_nodes plan) jobs
  pub ends_are : AreEnds plan (length plan.waves) s.ends.items
  pub pool_len : length pool ≡ plan.channels
  pub room : (b : ℕ) → b < length pool → length (slice_index_or pool b []) ≡ block
  pub places : HaveLists jobs
  pub few : length jobs ≤ 512
  pub most : block ≤ 8192
  pub ins_is : s.ins ≡ in_channels graph
  pub outs_is : s.outs ≡ out_channels graph
  pub some_in : 0 < s.ins
  pub some_out : 0 < s.outs
  pub exit_in : s.exit < length jobs
  pub exit_is : slice_index_or (all_nodes plan) s.exit 0 ≡ output_name graph

-- a block may be rendered
pub record MayRender (s : Shape) (frames : ℕ) (jobs : List (Job Player)) (pool : List (List ℤ)) (input output : List ℤ) : Type 0 where
  pub graph : Graph
  pub plan : Plan
  pub block : ℕ
  pub working : IsWorking graph plan block frames s jobs pool
  pub is_block : IsBlock (parts_of graph plan block frames jobs pool) (length input / s.ins) input output
  pub count : frames + length input / s.ins < 2 ^ 63

-- and it has been
pub record IsRendered (s : Shape) (frames : ℕ) (jobs : List (Job Player)) (pool : List (List ℤ)) (input : List ℤ)
    (jobs' : List (Job Player)) (pool' : List (List ℤ)) (output' : List ℤ) : Type 0 where
  pub jobs_len : length jobs' ≡ length jobs
  pub pool_len : length pool' ≡ length pool
  pub output_len : length output' ≡ length input / s.ins * s.outs
  pub working : (graph : Graph) (plan : Plan) (block : ℕ) → IsWorking graph plan block frames s jobs pool → length input / s.ins ≤ block
      → IsWorking graph plan block (frames + length input / s.ins) s jobs' pool'
  pub any : (graph : Graph) (plan : Plan) (block : ℕ) → IsWorking graph plan block frames s jobs pool → length input / s.ins ≤ block
      → (h : History) → Stands (parts_of graph plan block frames jobs pool) h
      → AnyOrder (parts_of graph plan block frames jobs pool)
      (parts_of graph plan block (frames + length input / s.ins) jobs' pool') input output' h
  pub both : (graph : Graph) (plan : Plan) (block : ℕ) → IsWorking graph plan block frames s jobs pool → length input / s.ins ≤ block
      → (h : History) → Stands (parts_of graph plan block frames jobs pool) h
      → Stands (parts_of graph plan block (frames + length input / s.ins) jobs' pool') (frames_of s.ins input ++ h)
      × Answers (parts_of graph plan block frames jobs pool) input output' h
