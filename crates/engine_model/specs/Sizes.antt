-- How large sums and lines can be.
use Rattle.std.specs.Prelude.{ℕ, ◌+◌, ◌^◌, ◌≤◌, ◌<◌, map, take, get_or, unsigned_abs}
use Rattle.std.specs.List.{Contains}
use Rattle.graph_model.specs.Histories.{Frame, before}
use Rattle.graph_model.specs.Graphs.{ins_at, connections_into}
use Rattle.graph_model.specs.Paths.{live_connections}
use Rattle.graph_model.specs.Answers.{delay}
use Rattle.graph_model.specs.Bounds.{bounds, IsInputFor}
use Rattle.graph_model.specs.Sound.{IsSound}
use Rattle.graph_model.specs.Streams.{out_at, tap}
use Rattle.graph_model.specs.declared.graph.Connection.{Connection}
use Rattle.graph_model.specs.declared.graph.Graph.{Graph}
use Rattle.plan_model.specs.Certified.{IsCertified, positions}
use Rattle.plan_model.specs.declared.plan.Plan.{Plan}
use Rattle.engine_model.specs.Machines.{channels_into, sum_on}

-- the first m of the samples that a node sums on a channel, of whatever input frames that are not too large
abbrev pub SumsAreBounded : Type 0
SumsAreBounded =
    (g : Graph) (p : ℕ → ℕ) (x : ℕ → Frame) (v d m t : ℕ) → IsInputFor g (before x (t + 1)) → d < ins_at g v →
    unsigned_abs (sum_on d (take m (channels_into g v))
    (take m (map (λ c. tap g p (out_at g p x) c t) (connections_into g v)))) ≤ get_or (bounds g v).ins d 0

-- no line of a certified plan is longer
abbrev pub DelaysAreBounded : Type 0
DelaysAreBounded =
    (g : Graph) (plan : Plan) (c : Connection) → IsSound g → IsCertified g plan → Contains (live_connections g) c →
    delay g (positions plan) c ≤ 2 ^ 26
