-- What the calls give for shared lines, each pinned whole.
use Rattle.std.specs.Prelude.{◌≡◌, ℕ, pos, List, length, map}
use Rattle.graph_model.specs.Paths.{IsPrintedPath, latency_of_graph}
use Rattle.graph_model.specs.Sound.{IsSound}
use Rattle.graph_model.specs.declared.graph.Graph.{Graph}
use Rattle.plan_model.specs.Alignments.{position_in}
use Rattle.plan_model.specs.Buffers.{IsAssignment}
use Rattle.plan_model.specs.Lives.{ports_of, values}
use Rattle.plan_model.specs.Results.{HasSchedule}
use Rattle.plan_model.specs.Rules.{AreLiveNodes, IsPeak}
use Rattle.plan_model.specs.Schedules.{IsSchedule}
use Rattle.plan_model.specs.SharedCertified.{ArePointArcs, IsCertified2}
use Rattle.plan_model.specs.SharedFlows.{IsSharedFlow, shared_bound}
use Rattle.plan_model.specs.SharedLines.{IsBestShared, shared_lines, shared_total}
use Rattle.plan_model.specs.SharedLives.{shared_lives_of}
use Rattle.plan_model.specs.declared.alignment.At.{At}
use Rattle.plan_model.specs.declared.schedule.Mode.{Mode}
use Rattle.plan_model.specs.declared.schedule.Wave.{Wave}
use Rattle.plan_model.specs.declared.shared.AlignedShared.{AlignedShared}
use Rattle.plan_model.specs.declared.shared.LineOf.{LineOf}
use Rattle.plan_model.specs.declared.shared.PointUnits.{PointUnits}
use Rattle.plan_model.specs.declared.shared.Plan2.{Plan2}

-- an alignment with its lines and their sum, and a flow with its bound, which shows that no sum is smaller
pub record IsAlignedShared (g : Graph) (at : List At) (delays : List LineOf) (sum : ℕ) (arcs : List PointUnits) (bound : ℕ) : Type 0 where
  pub nodes : AreLiveNodes g (map (λ a. a.uid.0) at)
  pub best : IsBestShared g (position_in at)
  pub lines : delays ≡ shared_lines g (position_in at)
  pub total : sum ≡ shared_total g (position_in at)
  pub listed : ArePointArcs g (latency_of_graph g) arcs
  pub flow : IsSharedFlow g (latency_of_graph g) arcs
  pub bound_is : shared_bound g (latency_of_graph g) arcs ≡ pos bound
  pub least : bound ≡ sum

-- the same of an answer
abbrev pub HasAlignedShared : Graph → AlignedShared → Type 0
HasAlignedShared g a = IsAlignedShared g a.at a.lines a.total a.arcs a.bound

-- two such for a graph have the same positions, lines and total; the flow is free
abbrev pub SharedAlignmentIsOne : Type 0
SharedAlignmentIsOne = (g : Graph) (a b : AlignedShared) → IsSound g → HasAlignedShared g a → HasAlignedShared g b →
    (a.at ≡ b.at) × (a.lines ≡ b.lines) × (a.total ≡ b.total)

-- an alignment, the printed path, a schedule, and an assignment for the lives of the values with its peak make a
-- certified plan
abbrev pub PartsAreCertified2 : Type 0
PartsAreCertified2 = (g : Graph) (plan : Plan2) → IsSound g →
    IsAlignedShared g plan.at plan.lines plan.total plan.arcs plan.bound → plan.latency ≡ latency_of_graph g → IsPrintedPath g plan.path →
    IsSchedule g plan.waves → IsAssignment (shared_lives_of g plan.waves plan.lines (values g)) plan.homes plan.channels →
    IsPeak (shared_lives_of g plan.waves plan.lines (values g)) (length plan.waves) plan.channels plan.peak → IsCertified2 g plan

-- The plan of a graph for some waves: certified, its positions the best alignment, its path the printed one. Which flow
-- it has, and which buffer a value, is left open.
pub record IsPlanFor (g : Graph) (waves : List Wave) (plan : Plan2) : Type 0 where
  pub certified : IsCertified2 g plan
  pub best : IsBestShared g (position_in plan.at)
  pub path : IsPrintedPath g plan.path
  pub given : plan.waves ≡ waves

-- and in a mode, with the schedule of that
pub record IsPlan2 (g : Graph) (mode : Mode) (plan : Plan2) : Type 0 where
  pub certified : IsCertified2 g plan
  pub best : IsBestShared g (position_in plan.at)
  pub path : IsPrintedPath g plan.path
  pub schedule : HasSchedule g mode plan.waves

-- all parts but the flow and which buffer a value has
pub record AreAlike2 (a b : Plan2) : Type 0 where
  pub latency : a.latency ≡ b.latency
  pub path : a.path ≡ b.path
  pub at : a.at ≡ b.at
  pub lines : a.lines ≡ b.lines
  pub total : a.total ≡ b.total
  pub bound : a.bound ≡ b.bound
  pub waves : a.waves ≡ b.waves
  pub values : ports_of a.homes ≡ ports_of b.homes
  pub channels : a.channels ≡ b.channels
  pub peak : a.peak ≡ b.peak

-- they are functions of graph and waves, and of graph and mode
abbrev pub PlanForIsOne : Type 0
PlanForIsOne = (g : Graph) (waves : List Wave) (a b : Plan2) → IsSound g → IsPlanFor g waves a → IsPlanFor g waves b → AreAlike2 a b

abbrev pub Plan2IsOne : Type 0
Plan2IsOne = (g : Graph) (mode : Mode) (a b : Plan2) → IsSound g → IsPlan2 g mode a → IsPlan2 g mode b → AreAlike2 a b
