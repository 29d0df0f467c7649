-- Flows of two graphs, whose bounds are the totals of their alignments.
use Rattle.std.proofs.Common.{◌≡◌, List, [], ◌∷◌, pos, negsuc, refl, inr, arith}
use Rattle.std.specs.Prelude.{IsSome}
use Rattle.std.proofs.lemmas.List.Elements.{All-from_recursion}
use Rattle.graph_model.specs.Paths.{leads}
use Rattle.graph_model.proofs.Examples.{fan_out}
use Rattle.plan_model.specs.Flows.{IsFlow, IsBalanced, arc_between, flow_bound}
use Rattle.plan_model.specs.declared.flow.Units.{Units}
use Rattle.plan_model.proofs.Examples.{arc, flow}
use Rattle.plan_model.proofs.ExampleTools.{at_points}
use Rattle.plan_model.proofs.ExampleAlignments.{stereo, live_2, live_input}

pub flow_is : IsFlow fan_out 5 flow
unfolding fan_out leads
flow_is = record {
  arcs = All-from_recursion (λ e. IsSome (arc_between fan_out 5 e.tail e.head)) flow (refl, (refl, (refl, tt)));
  needs = at_points fan_out (IsBalanced fan_out flow) (refl, (refl, (refl, (refl, (refl, tt)))));
}

-- refused: a unit too many from the input to the insert; units on an arc that no live connection makes
input_gives_too_much : IsFlow fan_out 5 (arc 1 3 3 ∷ arc 3 2 2 ∷ arc 4 2 2 ∷ []) → ⊥
unfolding fan_out leads
input_gives_too_much f = let e : negsuc 2 ≡ negsuc 1 = f.needs 1 (inr live_input) in absurd (cc)

no_such_arc : IsFlow fan_out 5 (arc 1 2 2 ∷ arc 4 2 2 ∷ []) → ⊥
unfolding fan_out leads
no_such_arc f = absurd (cc (f.arcs 0 (arc 1 2 2) (omega arith)))

-- of the stereo graph: the mixer takes one unit, its own connection carries none, as it waits
abbrev pub stereo_flow : List Units
stereo_flow = arc 1 3 1 ∷ arc 1 5 2 ∷ arc 4 2 2 ∷ arc 5 2 2 ∷ []

pub stereo_flow_is : IsFlow stereo 5 stereo_flow
unfolding stereo leads
stereo_flow_is = record {
  arcs = All-from_recursion (λ e. IsSome (arc_between stereo 5 e.tail e.head)) stereo_flow (refl, (refl, (refl, (refl, tt))));
  needs = at_points stereo (IsBalanced stereo stereo_flow) (refl, (refl, (refl, (refl, (refl, (refl, tt))))));
}

bound_of_stereo : flow_bound stereo 5 stereo_flow ≡ pos 5
unfolding stereo leads
bound_of_stereo = refl

-- refused: a unit more from the gain to the output, which neither of them needs
stereo_unit_too_many : IsFlow stereo 5 (arc 1 3 1 ∷ arc 1 5 2 ∷ arc 4 2 3 ∷ arc 5 2 2 ∷ []) → ⊥
unfolding stereo leads
stereo_unit_too_many f = let e : pos 5 ≡ pos 4 = f.needs 2 (inr live_2) in absurd (cc)
