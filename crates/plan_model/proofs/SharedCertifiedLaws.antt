-- A certified plan of shared lines has the least latency, the least sum of lines, and the least channels for its waves
-- and lines.
use Rattle.std.proofs.Common.{◌≡◌, ℕ, ◌<◌, pos, List, [], ◌∷◌, length, map, refl, sym, ap, ◌∙◌, arith}
use Rattle.std.specs.Prelude.{sum_by, IsSome}
use Rattle.std.specs.List.{Contains}
use Rattle.std.proofs.lemmas.Int.{ints}
use Rattle.std.proofs.lemmas.List.Elements.{All-map, All-weaker}
use Rattle.graph_model.specs.Paths.{live_connections}
use Rattle.graph_model.specs.Sound.{IsSound}
use Rattle.graph_model.specs.declared.graph.Connection.{Connection}
use Rattle.graph_model.specs.declared.graph.Graph.{Graph}
use Rattle.plan_model.specs.Alignments.{position_in}
use Rattle.plan_model.specs.Schedules.{IsSchedule}
use Rattle.plan_model.specs.Lives.{Port, source, ports_of, AreValues, values}
use Rattle.plan_model.specs.Buffers.{AreLives, IsLifeBefore}
use Rattle.plan_model.specs.SharedLines.{shared_lines, shared_total, line_of_value, ports_of_lines}
use Rattle.plan_model.specs.SharedFlows.{IsSharedFlow, shared_arc, shared_bound}
use Rattle.plan_model.specs.SharedLives.{shared_lives_of, shared_life_of}
use Rattle.plan_model.specs.SharedCertified.{ArePointArcs, shared_parts, IsCertified2, Certified2IsOptimal}
use Rattle.plan_model.specs.declared.rule.Rule.TheVariants.{Lines, Total, Arcs, Need, Bound, Waves, Homes}
use Rattle.plan_model.specs.declared.schedule.Wave.{Wave}
use Rattle.plan_model.specs.declared.shared.LineOf.{LineOf}
use Rattle.plan_model.specs.declared.shared.Plan2.{Plan2}
use Rattle.plan_model.proofs.NetworkLaws.{sum_by_map}
use Rattle.plan_model.proofs.CertifiedLaws.{AllPairs_map, lasts, optimal_by}
use Rattle.plan_model.proofs.SharedLaws.{shared_weak_duality}

-- a line frees no value earlier or later
pub are_shared_lives : (g : Graph) (waves : List Wave) (lines : List LineOf) (ports : List Port) → IsSound g → IsSchedule g waves → AreValues g ports
    → AreLives (shared_lives_of g waves lines ports) (length waves)
are_shared_lives g waves lines ports sound schedule are = record {
  ascending = AllPairs_map (shared_life_of g waves lines) IsLifeBefore ports are.ascending;
  within = All-map (λ x. (x.born < x.dies) × (x.dies < length waves)) (shared_life_of g waves lines) ports
      (All-weaker (λ h. (c : Connection) × Contains (live_connections g) c × (source c ≡ h))
      (λ h. ((shared_life_of g waves lines h).born < (shared_life_of g waves lines h).dies) × ((shared_life_of g waves lines h).dies < length waves))
      (lasts g waves ports sound schedule are) ports are.each);
}

flow_of : (g : Graph) (plan : Plan2) → IsCertified2 g plan → IsSharedFlow g plan.latency plan.arcs
flow_of g plan c =
    let arcs : ArePointArcs g plan.latency plan.arcs = c Arcs in
    record {
      arcs = All-weaker (λ e. IsSome (shared_arc g plan.latency e.tail e.head) × (0 < e.units)) (λ e. IsSome (shared_arc g plan.latency e.tail e.head)) (λ e h. h.0) plan.arcs arcs.each;
      needs = c Need;
    }

pub sum_shared : (g : Graph) (p : ℕ → ℕ) → sum_by (λ (l : LineOf). l.delay) (shared_lines g p) ≡ shared_total g p
sum_shared g p = sum_by_map (λ (l : LineOf). l.delay) (line_of_value g p) (values g)

-- and they name the values
pub lines_named : (g : Graph) (p : ℕ → ℕ) → ports_of_lines (shared_lines g p) ≡ values g
lines_named g p = names (values g)
  where
    names : (xs : List Port) → ports_of_lines (map (line_of_value g p) xs) ≡ xs
    names [] = refl
    names (x ∷ xs) = λ i. x ∷ names xs i

total_of : (g : Graph) (plan : Plan2) → IsCertified2 g plan → shared_total g (position_in plan.at) ≡ plan.total
total_of g plan c = sym (sum_shared g (position_in plan.at)) ∙ ap (λ ls. sum_by (λ (l : LineOf). l.delay) ls) (sym (c Lines)) ∙ c Total

pub certified2_is_optimal : Certified2IsOptimal
certified2_is_optimal g plan sound c =
    optimal_by (shared_total g) g (shared_parts g plan) _ _ _ _ sound c (total_of g plan c)
    (λ q al same.
    let weak = shared_weak_duality g plan.latency plan.arcs q sound (flow_of g plan c) al same in
    let bound : shared_bound g plan.latency plan.arcs ≡ pos plan.bound = c Bound in
    omega (arith, ints))
    (are_shared_lives g plan.waves plan.lines (ports_of plan.homes) sound (c Waves) (c Homes))
