-- A certified plan of shared lines, and two altered ones with the place by which a checker refuses each.
use Rattle.std.proofs.Common.{◌≡◌, ℕ, zero, suc, ◌<◌, List, [], ◌∷◌, pos, refl, sym, ap, subst, arith, Option, Some, None, inl, inr, negsuc}
use Rattle.std.specs.Prelude.{◌≢◌, IsSome}
use Rattle.std.specs.List.{All, AllByRecursion, zip}
use Rattle.std.proofs.lemmas.List.Elements.{All-from_recursion, All-contains}
use Rattle.graph_model.specs.Paths.{leads, live_connections}
use Rattle.graph_model.proofs.Examples.{fan_out}
use Rattle.graph_model.proofs.ExampleSound.{sound}
use Rattle.plan_model.specs.Alignments.{IsAfter, position_in}
use Rattle.plan_model.specs.Lives.{values, ports_of}
use Rattle.plan_model.specs.Buffers.{IsAssignment, MayShare, need_of_wave, saved, bearers}
use Rattle.plan_model.specs.Rules.{IsPeak, IsOptimalBy}
use Rattle.plan_model.specs.SharedLines.{shared_lines, shared_total}
use Rattle.plan_model.specs.SharedFlows.{IsPointBefore, at_node, mirror, shared_arc, shared_bound, IsPointOf, IsSharedPoint, IsSharedBalanced, IsBeforePointArc}
use Rattle.plan_model.specs.SharedLives.{shared_lives_of}
use Rattle.plan_model.specs.SharedCertified.{ArePointArcs, shared_parts, SharedHolds, IsCertified2}
use Rattle.plan_model.specs.SharedPlaces.{IsNo2, IsPlace2, IsBalancedAt, points_of}
use Rattle.plan_model.specs.declared.buffers.Home.{Home}
use Rattle.plan_model.specs.declared.buffers.Life.{Life}
use Rattle.plan_model.specs.declared.rule.Rule.TheVariants.{At, Input, Alignment, Latency, Lines, Total, Path, Longest, Arcs, Need, Bound, Least, Waves, Homes, Channels, Peak}
use Rattle.plan_model.specs.declared.shared.LineOf.{LineOf}
use Rattle.plan_model.specs.declared.shared.Point.{Point}
use Rattle.plan_model.specs.declared.shared.Plan2.{Plan2}
use Rattle.plan_model.proofs.ExampleTools.{pairs, at_points}
use Rattle.plan_model.proofs.Examples.{name, stands, life, one_by_one, homes}
use Rattle.plan_model.proofs.ExampleShared.{line_of, mirror_of, units, shared_flow}
use Rattle.plan_model.proofs.ExampleRules.{earlier_by, first_bad}
use Rattle.plan_model.proofs.ExamplePlan.{live_1, nodes_rule, schedule_rule, homes_rule, path_rule, longest_rule}
use Rattle.plan_model.proofs.SharedCertifiedLaws.{certified2_is_optimal}

abbrev pub plan2 : Plan2
plan2 = record {
  latency = 5;
  path = name 1 ∷ name 3 ∷ name 2 ∷ [];
  at = stands 1 0 ∷ stands 2 5 ∷ stands 3 0 ∷ stands 4 0 ∷ [];
  lines = line_of 1 0 0 ∷ line_of 3 0 0 ∷ line_of 4 0 5 ∷ [];
  total = 5;
  arcs = shared_flow;
  bound = 5;
  waves = one_by_one;
  homes = homes;
  channels = 2;
  peak = 1;
}

-- what holds of the root, of each node and of each mirror holds of each point
at_shared_points : (P : Point → Type 0) → AllByRecursion (λ v. P (at_node v)) (0 ∷ 1 ∷ 2 ∷ 3 ∷ 4 ∷ []) → AllByRecursion (λ y. P (mirror y)) (values fan_out)
    → (v : ℕ) (c : Option ℕ) → IsPointOf fan_out v c → P (record { uid = v; channel = c })
unfolding fan_out
at_shared_points P ns ms v None point = at_points fan_out (λ u. P (at_node u)) ns v point
at_shared_points P ns ms v (Some c) point = All-contains (λ y. P (mirror y)) (values fan_out) (record { uid = record { 0 = v }; channel = c }) (All-from_recursion (λ y. P (mirror y)) (values fan_out) ms) point

input_rule : position_in plan2.at 1 ≡ 0
input_rule = refl

alignment_rule : All (IsAfter fan_out (position_in plan2.at)) (live_connections fan_out)
unfolding fan_out leads
alignment_rule = All-from_recursion (IsAfter fan_out (position_in plan2.at)) (live_connections fan_out)
    (omega arith, (omega arith, (omega arith, (omega arith, (omega arith, (omega arith, tt))))))

lines_rule : plan2.lines ≡ shared_lines fan_out (position_in plan2.at)
unfolding fan_out leads
lines_rule = refl

arcs_rule : ArePointArcs fan_out 5 shared_flow
unfolding fan_out leads
arcs_rule = record {
  each = All-from_recursion (λ e. IsSome (shared_arc fan_out 5 e.tail e.head) × (0 < e.units)) shared_flow
      ((refl, omega arith), ((refl, omega arith), ((refl, omega arith), ((refl, omega arith), ((refl, omega arith), tt)))));
  ascending = pairs IsBeforePointArc shared_flow (
    (inl (omega arith), (inl (omega arith), (inl (omega arith), (inl (omega arith), tt)))),
    ((inr (refl, inl (omega arith)), (inl (omega arith), (inl (omega arith), tt))), ((inl (omega arith), (inl (omega arith), tt)), ((inl (omega arith), tt), (tt, tt)))),
  );
}

need_rule : (x : Point) → IsSharedPoint fan_out x → IsSharedBalanced fan_out shared_flow x
unfolding fan_out leads
need_rule x point = at_shared_points (IsSharedBalanced fan_out shared_flow) (refl, (refl, (refl, (refl, (refl, tt))))) (refl, (refl, (refl, tt))) x.uid x.channel point

bound_rule : shared_bound fan_out 5 shared_flow ≡ pos 5
unfolding fan_out leads
bound_rule = refl

ends_at : SharedHolds fan_out plan2 Latency
unfolding fan_out
ends_at = refl

starts_at : SharedHolds fan_out plan2 Input
unfolding fan_out
starts_at live = refl

-- the gain's value waits, so nobody would be free to write over it; the input's does not
abbrev shared : List Life
shared = life 1 0 0 2 (Some (name 4)) ∷ life 3 0 1 3 (Some (name 2)) ∷ life 4 0 2 3 None ∷ []

lives_are : shared_lives_of fan_out one_by_one plan2.lines (ports_of homes) ≡ shared
unfolding fan_out leads
lives_are = refl

abbrev Apart : Life × Home → Life × Home → Type 0
Apart x y = x.1.buffer ≡ y.1.buffer → MayShare x.0 y.0

channels_rule : IsAssignment shared homes 2
channels_rule = record {
  values = ((refl, refl), ((refl, refl), ((refl, refl), tt)));
  apart = pairs Apart (zip shared homes)
      (((λ same. absurd (omega arith)), ((λ same. inl (inr (refl, refl))), tt)), (((λ same. absurd (omega arith)), tt), (tt, tt)));
  below = All-from_recursion (λ h. h.buffer < 2) homes (omega arith, (omega arith, (omega arith, tt)));
}

need_0 : need_of_wave shared 0 ≡ 1
unfolding need_of_wave saved bearers
need_0 = refl

need_1 : need_of_wave shared 1 ≡ 2
unfolding need_of_wave saved bearers
need_1 = refl

first_peak : (s : ℕ) → s < 1 → need_of_wave shared s ≢ 2
first_peak zero l e = let n = need_0 in absurd (omega arith)
first_peak (suc s) l e = absurd (omega arith)

peak_is : IsPeak shared 4 2 1
peak_is = record { wave = omega arith; full = need_1; first = first_peak }

pub certified : IsCertified2 fan_out plan2
certified At = nodes_rule
certified Input = starts_at
certified Alignment = alignment_rule
certified Latency = ends_at
certified Lines = lines_rule
certified Total = refl
certified Path = path_rule
certified Longest = longest_rule
certified Arcs = arcs_rule
certified Need = need_rule
certified Bound = bound_rule
certified Least = refl
certified Waves = schedule_rule
certified Homes = homes_rule
certified Channels = subst (λ ls. IsAssignment ls homes 2) (sym lives_are) channels_rule
certified Peak = subst (λ ls. IsPeak ls 4 2 1) (sym lives_are) peak_is

optimal : IsOptimalBy (shared_total fan_out) fan_out (shared_parts fan_out plan2)
optimal = certified2_is_optimal fan_out plan2 sound certified

-- ---- refused: a unit too many from the input to the insert; the place is that of the input among the points
abbrev more_units : Plan2
more_units = record plan2 {
  arcs = units (at_node 1) (at_node 3) 2 ∷ units (at_node 2) (mirror_of 3 0) 1 ∷ units (at_node 2) (mirror_of 4 0) 1
      ∷ units (at_node 3) (at_node 2) 2 ∷ units (at_node 4) (mirror_of 1 0) 1 ∷ [];
}

more_arcs : ArePointArcs fan_out 5 more_units.arcs
unfolding fan_out leads
more_arcs = record {
  each = All-from_recursion (λ e. IsSome (shared_arc fan_out 5 e.tail e.head) × (0 < e.units)) more_units.arcs
      ((refl, omega arith), ((refl, omega arith), ((refl, omega arith), ((refl, omega arith), ((refl, omega arith), tt)))));
  ascending = pairs IsBeforePointArc more_units.arcs (
    (inl (omega arith), (inl (omega arith), (inl (omega arith), (inl (omega arith), tt)))),
    ((inr (refl, inl (omega arith)), (inl (omega arith), (inl (omega arith), tt))), ((inl (omega arith), (inl (omega arith), tt)), ((inl (omega arith), tt), (tt, tt)))),
  );
}

input_gives : IsSharedBalanced fan_out more_units.arcs (at_node 1) → ⊥
unfolding fan_out leads
input_gives e = let f : negsuc 1 ≡ negsuc 0 = e in absurd (cc)

root_is_met : (x : Point) → Some (at_node 0) ≡ Some x → IsSharedBalanced fan_out more_units.arcs x
unfolding fan_out leads
root_is_met x e = subst (λ o. BalancedAt o) e refl
  where
    BalancedAt : Option Point → Type 0
    BalancedAt None = Unit {0}
    BalancedAt (Some y) = IsSharedBalanced fan_out more_units.arcs y

refused_need : IsNo2 fan_out more_units Need 1
refused_need = record {
  first = record {
    before = earlier_by (SharedHolds fan_out more_units) Need
        (nodes_rule, (starts_at, (alignment_rule, (ends_at, (lines_rule, (refl, (path_rule, (longest_rule, (more_arcs, tt)))))))));
    fails = λ h. input_gives (h (at_node 1) (inr live_1));
  };
  at = (
    1 ∷ 2 ∷ 3 ∷ 4 ∷ [],
    nodes_rule,
    first_bad (IsBalancedAt fan_out more_units.arcs (points_of fan_out (1 ∷ 2 ∷ 3 ∷ 4 ∷ []))) 1 (tt, root_is_met) (λ h. input_gives (h (at_node 1) refl)),
  );
}

-- ---- refused: the gain's line one frame short
abbrev short_line : Plan2
short_line = record plan2 { lines = line_of 1 0 0 ∷ line_of 3 0 0 ∷ line_of 4 0 4 ∷ [] }

abbrev last_delay : List LineOf → ℕ
last_delay [] = 0
last_delay (x ∷ []) = x.delay
last_delay (x ∷ y ∷ ls) = last_delay (y ∷ ls)

line_differs : SharedHolds fan_out short_line Lines → ⊥
unfolding fan_out leads
line_differs e = let f : last_delay short_line.lines ≡ 5 = ap last_delay e in absurd (omega arith)

line_place : IsPlace2 fan_out short_line Lines 2
unfolding fan_out leads
line_place = refl

refused_lines : IsNo2 fan_out short_line Lines 2
refused_lines = record {
  first = record { before = earlier_by (SharedHolds fan_out short_line) Lines (nodes_rule, (starts_at, (alignment_rule, (ends_at, tt)))); fails = line_differs };
  at = line_place;
}

-- ---- refused: the line of another channel, of the same length
abbrev other_channel : Plan2
other_channel = record plan2 { lines = line_of 1 0 0 ∷ line_of 3 1 0 ∷ line_of 4 0 5 ∷ [] }

abbrev second_channel : List LineOf → ℕ
second_channel [] = 0
second_channel (x ∷ []) = 0
second_channel (x ∷ y ∷ ls) = y.channel

channel_differs : SharedHolds fan_out other_channel Lines → ⊥
unfolding fan_out leads
channel_differs e = let f : second_channel other_channel.lines ≡ 0 = ap second_channel e in absurd (omega arith)

channel_place : IsPlace2 fan_out other_channel Lines 1
unfolding fan_out leads
channel_place = refl

refused_channel : IsNo2 fan_out other_channel Lines 1
refused_channel = record {
  first = record { before = earlier_by (SharedHolds fan_out other_channel) Lines (nodes_rule, (starts_at, (alignment_rule, (ends_at, tt)))); fails = channel_differs };
  at = channel_place;
}

-- ---- the order of points: the root, nodes by name, mirrors by name and then by channel
node_before_mirror : IsBeforePointArc (units (at_node 10) (at_node 2) 1) (units (mirror_of 1 0) (at_node 0) 1)
node_before_mirror = inl tt

head_before_mirror : IsBeforePointArc (units (at_node 2) (at_node 5) 1) (units (at_node 2) (mirror_of 1 0) 1)
head_before_mirror = inr (refl, tt)

mirror_after_node : IsPointBefore (mirror_of 1 0) (at_node 10) → ⊥
mirror_after_node before = before

channels_in_order : IsPointBefore (mirror_of 1 0) (mirror_of 1 1) × IsPointBefore (mirror_of 1 7) (mirror_of 2 0)
channels_in_order = (inr (refl, omega arith), inl (omega arith))
