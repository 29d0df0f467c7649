-- Shared lines at small graphs, by computation.
use Rattle.std.proofs.Common.{◌≡◌, ℕ, ◌≤◌, List, [], ◌∷◌, map, pos, negsuc, refl, Some, None, arith}
use Rattle.std.proofs.lemmas.List.Elements.{All-from_recursion}
use Rattle.graph_model.specs.Paths.{leads, live_connections}
use Rattle.graph_model.specs.declared.kind.Kind.TheVariants.{Input, Output, Gain, Insert}
use Rattle.graph_model.specs.declared.graph.Graph.{Graph}
use Rattle.graph_model.proofs.Examples.{node, joined, fan_out}
use Rattle.plan_model.specs.Alignments.{IsAfter, IsAlignment, IsLeastBy, total, position_in}
use Rattle.plan_model.specs.Lives.{Port, values, lives_of}
use Rattle.plan_model.specs.Buffers.{need_of_wave, saved, bearers}
use Rattle.plan_model.specs.SharedLines.{shared_lines, shared_total, ports_of_lines}
use Rattle.plan_model.specs.SharedFlows.{at_node, shared_arc, shared_bound, need_by, mirrored}
use Rattle.plan_model.specs.SharedLives.{shared_lives_of}
use Rattle.plan_model.specs.declared.schedule.Wave.{Wave}
use Rattle.plan_model.specs.declared.shared.LineOf.{LineOf}
use Rattle.plan_model.specs.declared.shared.Point.{Point}
use Rattle.plan_model.specs.declared.shared.PointUnits.{PointUnits}
use Rattle.plan_model.proofs.Examples.{name, stands, wave, life, earliest, late}
use Rattle.plan_model.proofs.ExampleAlignments.{stereo, between, as_early, as_late}

abbrev pub line_of : ℕ → ℕ → ℕ → LineOf
line_of v c n = record { uid = name v; channel = c; delay = n }

abbrev pub port : ℕ → ℕ → Port
port v c = record { uid = name v; channel = c }

abbrev pub mirror_of : ℕ → ℕ → Point
mirror_of v c = record { uid = v; channel = Some c }

abbrev pub units : Point → Point → ℕ → PointUnits
units t h n = record { tail = t; head = h; units = n }

-- ---- the insert beside the gain into three channels: shared, the gain's one line waits, and it need not be late
values_of_fan_out : values fan_out ≡ port 1 0 ∷ port 3 0 ∷ port 4 0 ∷ []
unfolding fan_out leads
values_of_fan_out = refl

lines_of_fan_out : shared_lines fan_out earliest ≡ line_of 1 0 0 ∷ line_of 3 0 0 ∷ line_of 4 0 5 ∷ []
unfolding fan_out leads
lines_of_fan_out = refl

totals_of_fan_out : (shared_total fan_out earliest ∷ shared_total fan_out late ∷ []) ≡ 5 ∷ 5 ∷ []
unfolding fan_out leads
totals_of_fan_out = refl

abbrev pub shared_flow : List PointUnits
shared_flow = units (at_node 1) (at_node 3) 1 ∷ units (at_node 2) (mirror_of 3 0) 1 ∷ units (at_node 2) (mirror_of 4 0) 1
    ∷ units (at_node 3) (at_node 2) 2 ∷ units (at_node 4) (mirror_of 1 0) 1 ∷ []

bound_of_shared_flow : shared_bound fan_out 5 shared_flow ≡ pos 5
unfolding fan_out leads
bound_of_shared_flow = refl

needs_of_points : (need_by fan_out 0 None ∷ need_by fan_out 1 None ∷ need_by fan_out 2 None ∷ need_by fan_out 4 None ∷ need_by fan_out 4 (Some 0) ∷ [])
    ≡ pos 0 ∷ negsuc 0 ∷ pos 0 ∷ negsuc 0 ∷ pos 1 ∷ []
unfolding fan_out leads
needs_of_points = refl

arcs_of_mirrors : (shared_arc fan_out 5 (at_node 2) (mirror_of 4 0) ∷ shared_arc fan_out 5 (mirror_of 4 0) (at_node 0) ∷ shared_arc fan_out 5 (at_node 4) (mirror_of 4 0) ∷ [])
    ≡ Some (record { tail = at_node 2; head = mirror_of 4 0; least = pos 0 }) ∷ Some (record { tail = mirror_of 4 0; head = at_node 0; least = negsuc 4 }) ∷ None ∷ []
unfolding fan_out leads
arcs_of_mirrors = refl

mirrors_stand : (mirrored fan_out earliest (mirror_of 1 0) ∷ mirrored fan_out earliest (mirror_of 4 0) ∷ []) ≡ 0 ∷ 5 ∷ []
unfolding fan_out leads
mirrors_stand = refl

-- ---- the stereo input: as early as it can be is best when lines are shared, as late is not
totals_of_stereo : (shared_total stereo between ∷ shared_total stereo as_early ∷ shared_total stereo as_late ∷ []) ≡ 5 ∷ 5 ∷ 10 ∷ []
unfolding stereo leads
totals_of_stereo = refl

-- ---- three gains and an insert that read one value
unfoldable pub one_value : Graph
one_value = record {
  nodes = node 1 (Input 1) ∷ node 2 (Output 1) ∷ node 3 (Gain 1 (pos 65536)) ∷ node 4 (Gain 1 (pos 65536)) ∷ node 5 (Gain 1 (pos 65536)) ∷ node 6 (Insert 1 5) ∷ [];
  connections = joined 1 0 3 0 ∷ joined 1 0 4 0 ∷ joined 1 0 5 0 ∷ joined 1 0 6 0 ∷ joined 3 0 2 0 ∷ joined 4 0 2 0 ∷ joined 5 0 2 0 ∷ joined 6 0 2 0 ∷ [];
}

abbrev pub gains_early : ℕ → ℕ
gains_early v = position_in (stands 1 0 ∷ stands 2 5 ∷ stands 3 0 ∷ stands 4 0 ∷ stands 5 0 ∷ stands 6 0 ∷ []) v

abbrev pub gains_late : ℕ → ℕ
gains_late v = position_in (stands 1 0 ∷ stands 2 5 ∷ stands 3 5 ∷ stands 4 5 ∷ stands 5 5 ∷ stands 6 0 ∷ []) v

totals_of_one_value : (total one_value gains_early ∷ total one_value gains_late ∷ shared_total one_value gains_early ∷ shared_total one_value gains_late ∷ []) ≡ 15 ∷ 15 ∷ 15 ∷ 5 ∷ []
unfolding one_value leads
totals_of_one_value = refl

lines_of_one_value : shared_lines one_value gains_late ≡ line_of 1 0 5 ∷ line_of 3 0 0 ∷ line_of 4 0 0 ∷ line_of 5 0 0 ∷ line_of 6 0 0 ∷ []
unfolding one_value leads
lines_of_one_value = refl

-- its input waits, so the node that reads it last does not take over its buffer
abbrev pub in_turn : List Wave
in_turn = wave (1 ∷ []) ∷ wave (3 ∷ []) ∷ wave (4 ∷ []) ∷ wave (5 ∷ []) ∷ wave (6 ∷ []) ∷ wave (2 ∷ []) ∷ []

abbrev pub lines_late : List LineOf
lines_late = line_of 1 0 5 ∷ line_of 3 0 0 ∷ line_of 4 0 0 ∷ line_of 5 0 0 ∷ line_of 6 0 0 ∷ []

lives_of_one_value : shared_lives_of one_value in_turn lines_late (values one_value)
    ≡ life 1 0 0 4 None ∷ life 3 0 1 5 (Some (name 2)) ∷ life 4 0 2 5 (Some (name 2)) ∷ life 5 0 3 5 (Some (name 2)) ∷ life 6 0 4 5 (Some (name 2)) ∷ []
unfolding one_value leads
lives_of_one_value = refl

needs_of_one_value : map (need_of_wave (shared_lives_of one_value in_turn lines_late (values one_value))) (0 ∷ 1 ∷ 2 ∷ 3 ∷ 4 ∷ 5 ∷ []) ≡ 1 ∷ 2 ∷ 3 ∷ 4 ∷ 5 ∷ 4 ∷ []
unfolding one_value leads need_of_wave saved bearers
needs_of_one_value = refl

lines_name_values : ports_of_lines lines_late ≡ values one_value
unfolding one_value leads
lines_name_values = refl

-- with a line for each connection the insert takes it over
needs_with_own_lines : map (need_of_wave (lives_of one_value in_turn (values one_value))) (0 ∷ 1 ∷ 2 ∷ 3 ∷ 4 ∷ 5 ∷ []) ≡ 1 ∷ 2 ∷ 3 ∷ 4 ∷ 4 ∷ 4 ∷ []
unfolding one_value leads need_of_wave saved bearers
needs_with_own_lines = refl

-- refused: the earliest alignment, which is the best with a line for each connection
gains_late_is : IsAlignment one_value gains_late
unfolding one_value leads
gains_late_is = record {
  input = λ live. refl;
  after = All-from_recursion (IsAfter one_value gains_late) (live_connections one_value)
      (omega arith, (omega arith, (omega arith, (omega arith, (omega arith, (omega arith, (omega arith, (omega arith, tt))))))));
}

early_is_not_least : IsLeastBy (shared_total one_value) one_value gains_early → ⊥
unfolding one_value leads
early_is_not_least least = let l : 15 ≤ 5 = least gains_late gains_late_is refl in absurd (omega arith)
