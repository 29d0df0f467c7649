-- Jobs, and what the nodes keep in a state.
use Rattle.std.specs.Prelude.{◌≡◌, ℕ, ◌<◌, ℤ, pos, List, [], length, slice_index_or}
use Rattle.graph_model.specs.declared.graph.Graph.{Graph}
use Rattle.plan_model.specs.declared.plan.Plan.{Plan}
use Rattle.orders.specs.Orders as core
use Rattle.engine_model.specs.Machines.{Kept}
use Rattle.pool_waves.specs.declared.job.Job.{Job}
use Rattle.players.specs.declared.playing.Player.{Player}
use Rattle.players.specs.Plays.{Holds}
use Rattle.plan_jobs.specs.Jobs.{IsPlayerOf}

-- the jobs are those of these nodes
pub record AreJobsOf (g : Graph) (p : ℕ → ℕ) (plan : Plan) (vs : List ℕ) (jobs : List (Job Player)) : Type 0 where
  pub len : length jobs ≡ length vs
  pub each : (i : ℕ) (d : Job Player) → i < length jobs
      → IsPlayerOf g p plan.homes (slice_index_or vs i 0) (slice_index_or jobs i d).desk.homes.items
      (slice_index_or jobs i d).part

-- the jobs and the pool are as in this state
pub record AreAt (vs : List ℕ) (jobs : List (Job Player)) (pool : List (List ℤ)) (s : core.State Kept) : Type 0 where
  pub holds : (i : ℕ) (d : Job Player) → i < length jobs → Holds (slice_index_or jobs i d).part (s.kept (slice_index_or vs i 0))
  pub samples : (b k : ℕ) → s.pool b k ≡ slice_index_or (slice_index_or pool b []) k (pos 0)
