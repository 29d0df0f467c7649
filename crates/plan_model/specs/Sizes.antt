-- How large the numbers of a certified plan can be.
use Rattle.std.specs.Prelude.{ℕ, ◌≤◌, ◌^◌}
use Rattle.std.specs.List.{All}
use Rattle.graph_model.specs.Graphs.{output_name}
use Rattle.graph_model.specs.Paths.{IsLive}
use Rattle.graph_model.specs.Sound.{IsSound}
use Rattle.graph_model.specs.declared.graph.Graph.{Graph}
use Rattle.plan_model.specs.Alignments.{IsAlignment}
use Rattle.plan_model.specs.Certified.{IsCertified}
use Rattle.plan_model.specs.declared.plan.Plan.{Plan}

-- no live node stands after the output node
abbrev pub OutputIsLast : Type 0
OutputIsLast = (g : Graph) → IsSound g → (p : ℕ → ℕ) → IsAlignment g p → (v : ℕ) → IsLive g v → p v ≤ p (output_name g)

-- so no line is longer than the latency of a sound graph can be
abbrev pub DelaysAreSmall : Type 0
DelaysAreSmall = (g : Graph) (plan : Plan) → IsSound g → IsCertified g plan → All (λ l. l.delay ≤ 2 ^ 26) plan.lines

-- and there are no more channels than connections can be
abbrev pub ChannelsAreFew : Type 0
ChannelsAreFew = (g : Graph) (plan : Plan) → IsSound g → IsCertified g plan → plan.channels ≤ 8192
