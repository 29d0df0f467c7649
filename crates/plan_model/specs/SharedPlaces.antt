-- Where a rule of certified plans of shared lines fails first.
use Rattle.std.specs.Prelude.{◌≡◌, ℕ, ◌<◌, ◌==◌, ◌&&◌, ◌↔◌, Bool, List, ◌∷◌, ◌++◌, map, take, slice_get, Some, IsSome}
use Rattle.std.specs.List.{All, common_prefix_len}
use Rattle.graph_model.specs.declared.graph.Graph.{Graph}
use Rattle.plan_model.specs.Alignments.{position_in}
use Rattle.plan_model.specs.Lives.{values}
use Rattle.plan_model.specs.Places.{IsFirstBad, IsPlaceBy}
use Rattle.plan_model.specs.Rules.{AreLiveNodes}
use Rattle.plan_model.specs.SharedLines.{shared_lines}
use Rattle.plan_model.specs.SharedFlows.{at_node, mirror, IsSharedPoint, IsSharedBalanced, shared_arc, IsBeforePointArc}
use Rattle.plan_model.specs.SharedCertified.{ArePointArcs, shared_parts, IsFirstFailing2}
use Rattle.plan_model.specs.declared.rule.Rule.{Rule}
use Rattle.plan_model.specs.declared.shared.LineOf.{LineOf}
use Rattle.plan_model.specs.declared.shared.Point.{Point}
use Rattle.plan_model.specs.declared.shared.PointUnits.{PointUnits}
use Rattle.plan_model.specs.declared.shared.Plan2.{Plan2}

abbrev pub same_line_of : LineOf → LineOf → Bool
same_line_of x y = (x.uid.0 == y.uid.0) && ((x.channel == y.channel) && (x.delay == y.delay))

-- the points in their order, where the live nodes are these
abbrev pub points_of : Graph → List ℕ → List Point
points_of g vs = at_node 0 ∷ (map at_node vs ++ map mirror (values g))

-- entry k is an arc of the network with some units, after those before it
abbrev pub IsPointArcAt : Graph → ℕ → List PointUnits → ℕ → Type 0
IsPointArcAt g latency arcs k = (e : PointUnits) → slice_get arcs k ≡ Some e →
    IsSome (shared_arc g latency e.tail e.head) × (0 < e.units) × All (λ d. IsBeforePointArc d e) (take k arcs)

-- at point k the need is met
abbrev pub IsBalancedAt : Graph → List PointUnits → List Point → ℕ → Type 0
IsBalancedAt g arcs points k = (x : Point) → slice_get points k ≡ Some x → IsSharedBalanced g arcs x

abbrev pub IsPlace2 : Graph → Plan2 → Rule → ℕ → Type 0
IsPlace2 g plan rule place =
    IsPlaceBy g (shared_parts g plan) (place ≡ common_prefix_len same_line_of plan.lines (shared_lines g (position_in plan.at)))
    (IsFirstBad (IsPointArcAt g plan.latency plan.arcs) place)
    ((vs : List ℕ) × AreLiveNodes g vs × IsFirstBad (IsBalancedAt g plan.arcs (points_of g vs)) place) rule place

-- the answer of a checker that says no
pub record IsNo2 (g : Graph) (plan : Plan2) (rule : Rule) (place : ℕ) : Type 0 where
  pub first : IsFirstFailing2 g plan rule
  pub at : IsPlace2 g plan rule place

-- there is one such answer at most
abbrev pub No2IsOne : Type 0
No2IsOne = (g : Graph) (plan : Plan2) (r s : Rule) (i j : ℕ) → IsNo2 g plan r i → IsNo2 g plan s j → (r ≡ s) × (i ≡ j)

-- what is asked of each entry, and of each point, is what the rule asks for
abbrev pub PointArcsByEntries : Type 0
PointArcsByEntries = (g : Graph) (latency : ℕ) (arcs : List PointUnits) →
    ((k : ℕ) → IsPointArcAt g latency arcs k) ↔ ArePointArcs g latency arcs

abbrev pub PointNeedsByEntries : Type 0
PointNeedsByEntries = (g : Graph) (arcs : List PointUnits) (vs : List ℕ) → AreLiveNodes g vs →
    ((k : ℕ) → IsBalancedAt g arcs (points_of g vs) k) ↔ ((x : Point) → IsSharedPoint g x → IsSharedBalanced g arcs x)
