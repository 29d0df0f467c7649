-- Certified plans of shared lines: what a checker tests, rule by rule, and what such a plan is best at.
use Rattle.std.specs.Prelude.{◌≡◌, ℕ, ◌<◌, pos, List, sum_by, AllPairs, IsSome}
use Rattle.std.specs.List.{All}
use Rattle.graph_model.specs.Paths.{latency_of_graph}
use Rattle.graph_model.specs.Sound.{IsSound}
use Rattle.graph_model.specs.declared.graph.Graph.{Graph}
use Rattle.plan_model.specs.Alignments.{position_in}
use Rattle.plan_model.specs.Lives.{ports_of}
use Rattle.plan_model.specs.Rules.{Parts, HoldsBy, AllHold, IsFirstNot, IsOptimalBy}
use Rattle.plan_model.specs.SharedLines.{shared_lines, shared_total}
use Rattle.plan_model.specs.SharedFlows.{IsSharedPoint, IsSharedBalanced, shared_arc, shared_bound, IsBeforePointArc}
use Rattle.plan_model.specs.SharedLives.{shared_lives_of}
use Rattle.plan_model.specs.declared.rule.Rule.{Rule}
use Rattle.plan_model.specs.declared.shared.Point.{Point}
use Rattle.plan_model.specs.declared.shared.PointUnits.{PointUnits}
use Rattle.plan_model.specs.declared.shared.Plan2.{Plan2}

-- each on an arc of the network, with some units; ascending in the order of points
pub record ArePointArcs (g : Graph) (latency : ℕ) (flow : List PointUnits) : Type 0 where
  pub each : All (λ e. IsSome (shared_arc g latency e.tail e.head) × (0 < e.units)) flow
  pub ascending : AllPairs IsBeforePointArc flow

abbrev pub shared_parts : Graph → Plan2 → Parts
shared_parts g plan = record {
  latency = plan.latency;
  path = plan.path;
  at = plan.at;
  sum = sum_by (λ l. l.delay) plan.lines;
  total = plan.total;
  bound = plan.bound;
  waves = plan.waves;
  homes = plan.homes;
  lives = shared_lives_of g plan.waves plan.lines (ports_of plan.homes);
  channels = plan.channels;
  peak = plan.peak;
}

-- what each rule asks for
abbrev pub SharedHolds : Graph → Plan2 → Rule → Type 0
SharedHolds g plan rule =
    HoldsBy g (shared_parts g plan) (plan.lines ≡ shared_lines g (position_in plan.at)) (ArePointArcs g plan.latency plan.arcs)
    ((x : Point) → IsSharedPoint g x → IsSharedBalanced g plan.arcs x) (shared_bound g plan.latency plan.arcs ≡ pos plan.bound) rule

abbrev pub IsCertified2 : Graph → Plan2 → Type 0
IsCertified2 g plan = AllHold (SharedHolds g plan)

-- the first rule that fails
abbrev pub IsFirstFailing2 : Graph → Plan2 → Rule → Type 0
IsFirstFailing2 g plan rule = IsFirstNot (SharedHolds g plan) rule

-- what the plan says holds, and its latency, its total and its channels for the waves and the lines are the least
abbrev pub IsOptimal2 : Graph → Plan2 → Type 0
IsOptimal2 g plan = IsOptimalBy (shared_total g) g (shared_parts g plan)

-- the checker's yes implies the optima
abbrev pub Certified2IsOptimal : Type 0
Certified2IsOptimal = (g : Graph) (plan : Plan2) → IsSound g → IsCertified2 g plan → IsOptimal2 g plan

-- and the plan's latency is the graph's
abbrev pub SharedLatencyIsReach : Type 0
SharedLatencyIsReach = (g : Graph) (plan : Plan2) → IsSound g → IsCertified2 g plan → plan.latency ≡ latency_of_graph g
