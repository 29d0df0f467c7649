-- What is asked of each entry and each point is what the rule asks for, and a plan of shared lines is refused once.
use Rattle.std.proofs.Common.{◌≡◌, ℕ, ◌<◌, ◌⊎◌, List, ◌++◌, map, inl, inr, refl, sym, ap, subst, ◌∙◌, arith, Option, Some, None}
use Rattle.std.specs.Prelude.{IsSome}
use Rattle.std.specs.List.{Contains, common_prefix_len}
use Rattle.std.proofs.lemmas.Option.{slice_get-get_or}
use Rattle.std.proofs.lemmas.List.Elements.{All-contains, Contains-append_cases, Contains-append_left, Contains-append_right}
use Rattle.graph_model.specs.Paths.{IsLive}
use Rattle.graph_model.proofs.PathLaws.{at_tail, first_or_later}
use Rattle.graph_model.specs.declared.graph.Graph.{Graph}
use Rattle.plan_model.specs.Alignments.{position_in}
use Rattle.plan_model.specs.Lives.{Port, values}
use Rattle.plan_model.specs.Places.{IsFirstBad}
use Rattle.plan_model.specs.Rules.{AreLiveNodes}
use Rattle.plan_model.specs.SharedLines.{shared_lines}
use Rattle.plan_model.specs.SharedFlows.{at_node, mirror, shared_arc, IsPointOf, IsSharedPoint, IsSharedBalanced, IsBeforePointArc}
use Rattle.plan_model.specs.SharedCertified.{ArePointArcs, SharedHolds, shared_parts}
use Rattle.plan_model.specs.SharedPlaces.{same_line_of, points_of, IsPointArcAt, IsBalancedAt, IsPlace2, No2IsOne, PointArcsByEntries, PointNeedsByEntries}
use Rattle.plan_model.specs.declared.shared.Point.{Point}
use Rattle.plan_model.specs.declared.shared.PointUnits.{PointUnits}
use Rattle.plan_model.proofs.PlaceLaws.{has_item, ascending_by_entries, entries_ascending}
use Rattle.plan_model.proofs.RefusalLaws.{first_is_one, one_first_bad, place_is_one, IsOne}
use Rattle.plan_model.proofs.SavedLaws.{Contains-map, Contains-from_map}
use Rattle.plan_model.proofs.UniqueLaws.{live_nodes_are_unique}

pub point_arcs_by_entries : PointArcsByEntries
point_arcs_by_entries g latency arcs = (all, each)
  where
    IsGood : PointUnits → Type 0
    IsGood e = IsSome (shared_arc g latency e.tail e.head) × (0 < e.units)

    all : ((k : ℕ) → IsPointArcAt g latency arcs k) → ArePointArcs g latency arcs
    all good =
        let r = ascending_by_entries IsGood IsBeforePointArc arcs (λ k e at. let t = good k e at in ((t.0, t.1), t.2)) in
        record { each = r.0; ascending = r.1 }

    each : ArePointArcs g latency arcs → (k : ℕ) → IsPointArcAt g latency arcs k
    each are k e at = let r = entries_ascending IsGood IsBeforePointArc arcs are.each are.ascending k e at in (r.0.0, r.0.1, r.1)

-- ---- points
module _ (g : Graph) (vs : List ℕ) (nodes : AreLiveNodes g vs) where
  abbrev later : List Point
  later = map at_node vs ++ map mirror (values g)

  point_in : (v : ℕ) (c : Option ℕ) → IsPointOf g v c → Contains (points_of g vs) (record { uid = v; channel = c })
  point_in v None (inl root) = (0, omega arith, ap at_node (sym root))
  point_in v None (inr live) =
      at_tail (at_node 0) (at_node v) later
      (Contains-append_left (map at_node vs) (map mirror (values g)) (at_node v) (Contains-map at_node vs v (nodes.all v live)))
  point_in v (Some c) has =
      let x : Port = record { uid = record { 0 = v }; channel = c } in
      at_tail (at_node 0) (mirror x) later
      (Contains-append_right (map at_node vs) (map mirror (values g)) (mirror x) (Contains-map mirror (values g) x has))

  in_later : (x : Point) → Contains (map at_node vs) x ⊎ Contains (map mirror (values g)) x → IsSharedPoint g x
  in_later x (inl node) =
      let r = Contains-from_map at_node vs x node in
      subst (IsSharedPoint g) r.2 (inr (All-contains (IsLive g) vs r.0 nodes.each r.1))
  in_later x (inr value) =
      let r = Contains-from_map mirror (values g) x value in
      subst (IsSharedPoint g) r.2 r.1

  is_point : (x : Point) → (at_node 0 ≡ x) ⊎ Contains later x → IsSharedPoint g x
  is_point x (inl root) = subst (IsSharedPoint g) root (inl refl)
  is_point x (inr has) = in_later x (Contains-append_cases (map at_node vs) (map mirror (values g)) x has)

pub point_needs_by_entries : PointNeedsByEntries
point_needs_by_entries g arcs vs nodes = (all, each)
  where
    all : ((k : ℕ) → IsBalancedAt g arcs (points_of g vs) k) → (x : Point) → IsSharedPoint g x → IsSharedBalanced g arcs x
    all good x point =
        let has = point_in g vs nodes x.uid x.channel point in
        good has.0 x (slice_get-get_or (points_of g vs) has.0 x has.1 ∙ ap Some has.2)

    each : ((x : Point) → IsSharedPoint g x → IsSharedBalanced g arcs x) → (k : ℕ) → IsBalancedAt g arcs (points_of g vs) k
    each balanced k x at =
        balanced x (is_point g vs nodes x (first_or_later (at_node 0) x (map at_node vs ++ map mirror (values g)) (has_item (points_of g vs) k x at)))

-- ---- refused once
pub no2_is_one : No2IsOne
no2_is_one g plan r s i j a b =
    let same : r ≡ s = first_is_one (SharedHolds g plan) r s a.first b.first in
    let here : IsPlace2 g plan s i = subst (λ t. IsPlace2 g plan t i) same a.at in (
      same,
      place_is_one g (shared_parts g plan) right_lines right_arcs right_need (λ k m x y. x ∙ sym y) (one_first_bad (IsPointArcAt g plan.latency plan.arcs))
          one_need s i j here b.at,
    )
  where
    right_lines : ℕ → Type 0
    right_lines place = place ≡ common_prefix_len same_line_of plan.lines (shared_lines g (position_in plan.at))

    right_arcs : ℕ → Type 0
    right_arcs place = IsFirstBad (IsPointArcAt g plan.latency plan.arcs) place

    right_need : ℕ → Type 0
    right_need place = (vs : List ℕ) × AreLiveNodes g vs × IsFirstBad (IsBalancedAt g plan.arcs (points_of g vs)) place

    one_need : IsOne right_need
    one_need k m x y =
        one_first_bad (IsBalancedAt g plan.arcs (points_of g y.0)) k m
        (subst (λ vs. IsFirstBad (IsBalancedAt g plan.arcs (points_of g vs)) k) (live_nodes_are_unique g x.0 y.0 x.1 y.1) x.2) y.2
