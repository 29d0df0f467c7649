-- Plans with one altered line, and the place by which a checker refuses each: lists.
use Rattle.std.proofs.Common.{◌≡◌, ◌∙◌, ℕ, ◌<◌, ◌==◌, ◌&&◌, true, [], ◌∷◌, take, refl, ap, sym, subst, arith, Some, inl, inr}
use Rattle.std.specs.Prelude.{slice_get, IsSome}
use Rattle.std.specs.List.{All, Contains, list_any, common_prefix_len}
use Rattle.std.proofs.lemmas.List.Elements.{All-from_recursion, All-nil}
use Rattle.std.proofs.lemmas.List.Sorted.{Contains-permutation}
use Rattle.graph_model.specs.Graphs.{IsJoined}
use Rattle.graph_model.specs.Paths.{leads, live_nodes, live_connections, IsLive}
use Rattle.graph_model.specs.declared.graph.Graph.{Graph}
use Rattle.graph_model.proofs.Examples.{fan_out}
use Rattle.graph_model.proofs.PathLaws.{any_at, same_name, and_both}
use Rattle.plan_model.specs.Flows.{IsBeforeArc, arc_between}
use Rattle.plan_model.specs.Schedules.{IsSchedule}
use Rattle.plan_model.specs.Lives.{AreValues, ports_of, values as graph_values}
use Rattle.plan_model.specs.Rules.{AreLiveNodes}
use Rattle.plan_model.specs.Places.{IsNo, IsStep, IsArcAt, IsNextWave, IsWaveAt, same_port}
use Rattle.plan_model.specs.declared.plan.Plan.{Plan}
use Rattle.plan_model.specs.declared.rule.Rule.TheVariants.{At, Path, Arcs, Waves, Homes}
use Rattle.plan_model.specs.declared.schedule.Wave.{Wave}
use Rattle.plan_model.proofs.Examples.{name, stands, arc, wave, home}
use Rattle.plan_model.proofs.ExampleTools.{rising, not_among}
use Rattle.plan_model.proofs.ExampleRules.{earlier, first_bad}
use Rattle.plan_model.proofs.ExamplePlan.{plan, live_1, live_2, live_3, live_4, nodes_rule, input_rule, alignment_rule, output_rule, lines_rule, path_rule, longest_rule, arcs_rule, need_rule, bound_rule, schedule_rule, homes_rule}
use Rattle.plan_model.proofs.PlaceLaws.{path_by_entries}
use Rattle.plan_model.proofs.UniqueLaws.{live_nodes_are_unique, values_are_unique}

-- the position of node 4 left out: the first three entries are right
abbrev node_left_out : Plan
node_left_out = record plan { at = stands 1 0 ∷ stands 2 5 ∷ stands 3 0 ∷ [] }

three_nodes : AreLiveNodes fan_out (1 ∷ 2 ∷ 3 ∷ []) → ⊥
three_nodes are = let e = live_nodes_are_unique fan_out _ _ are nodes_rule in absurd (cc)

refused_at : IsNo fan_out node_left_out At 3
refused_at = record {
  first = record { before = λ r l. absurd (omega arith); fails = three_nodes };
  at = (1 ∷ 2 ∷ 3 ∷ 4 ∷ [], nodes_rule, refl);
}

-- a path past the insert: no connection joins the input to the output
abbrev short_path : Plan
short_path = record plan { path = name 1 ∷ name 2 ∷ [] }

joined_by_test : (g : Graph) (u v : ℕ) → IsJoined g u v → list_any (λ c. (c.src.0 == u) && (c.dst.0 == v)) g.connections ≡ true
joined_by_test g u v (c, has, s, d) =
    any_at (λ e. (e.src.0 == u) && (e.dst.0 == v)) g.connections c has
    (and_both _ _ (ap (λ n. n == u) s ∙ same_name u) (ap (λ n. n == v) d ∙ same_name v))

no_step : IsStep fan_out (1 ∷ 2 ∷ []) 0 → ⊥
unfolding fan_out
no_step (l, node, inl last) = omega (arith, last.0)
no_step (l, node, inr more) = let e = joined_by_test fan_out 1 2 more.1 in absurd (cc)

refused_path : IsNo fan_out short_path Path 0
refused_path = record {
  first = record {
    before = earlier fan_out short_path Path (nodes_rule, ((λ live. input_rule), (alignment_rule, (output_rule, (lines_rule, (refl, tt))))));
    fails = λ out. no_step (((path_by_entries fan_out short_path.path).1 out).1 0 (omega arith));
  };
  at = first_bad (IsStep fan_out (1 ∷ 2 ∷ [])) 0 tt no_step;
}

-- arcs in another order: the second is below the first
abbrev swapped_arcs : Plan
swapped_arcs = record plan { arcs = arc 3 2 2 ∷ arc 1 3 2 ∷ arc 4 2 2 ∷ [] }

not_above : IsBeforeArc (arc 3 2 2) (arc 1 3 2) → ⊥
not_above (inl l) = omega arith
not_above (inr e) = omega (arith, e.0)

first_arc : IsArcAt fan_out 5 swapped_arcs.arcs 0
unfolding fan_out leads
first_arc e same =
    let is : arc 3 2 2 ≡ e = cc in
    subst (λ x. IsSome (arc_between fan_out 5 x.tail x.head) × (0 < x.units) × All (λ d. IsBeforeArc d x) []) is
    (refl, omega arith, All-nil (λ d. IsBeforeArc d (arc 3 2 2)))

second_arc : IsArcAt fan_out 5 swapped_arcs.arcs 1 → ⊥
second_arc h = not_above ((h (arc 1 3 2) refl).2 0 (arc 3 2 2) (omega arith))

refused_arcs : IsNo fan_out swapped_arcs Arcs 1
refused_arcs = record {
  first = record {
    before = earlier fan_out swapped_arcs Arcs
        (nodes_rule, ((λ live. input_rule), (alignment_rule, (output_rule, (lines_rule, (refl, (path_rule, (longest_rule, tt))))))));
    fails = λ are. not_above (are.ascending 0 1 (arc 3 2 2) (omega arith) (omega arith));
  };
  at = first_bad (IsArcAt fan_out 5 swapped_arcs.arcs) 1 (tt, first_arc) second_arc;
}

-- the output node in no wave: each of the waves is right, so the place is their number
abbrev no_last_wave : Plan
no_last_wave = record plan { waves = wave (1 ∷ []) ∷ wave (3 ∷ []) ∷ wave (4 ∷ []) ∷ [] }

wave_at : (k : ℕ) (w : Wave) → slice_get no_last_wave.waves k ≡ Some w → k < 3 → IsNextWave fan_out (take k no_last_wave.waves) w → IsWaveAt fan_out no_last_wave.waves k
wave_at k w is l next = record {
  next = λ x same. (let e : w ≡ x = cc in subst (IsNextWave fan_out (take k no_last_wave.waves)) e next);
  all = λ e. absurd (omega (arith, e));
}

wave_1 : IsNextWave fan_out [] (wave (1 ∷ []))
unfolding fan_out leads
wave_1 = record {
  filled = omega arith;
  rising = rising (1 ∷ []) tt;
  live = All-from_recursion (IsLive fan_out) (1 ∷ []) (live_1, tt);
  fresh = All-from_recursion (λ v. Contains [] v → ⊥) (1 ∷ []) (not_among [] 1 refl, tt);
  ready = All-from_recursion (λ c. Contains (1 ∷ []) c.dst.0 → Contains [] c.src.0) (live_connections fan_out) (
    (λ h. absurd (not_among (1 ∷ []) 3 refl h)),
    (
      (λ h. absurd (not_among (1 ∷ []) 2 refl h)),
      (
        (λ h. absurd (not_among (1 ∷ []) 4 refl h)),
        ((λ h. absurd (not_among (1 ∷ []) 2 refl h)), ((λ h. absurd (not_among (1 ∷ []) 2 refl h)), ((λ h. absurd (not_among (1 ∷ []) 2 refl h)), tt))),
      ),
    ),
  );
}

wave_3 : IsNextWave fan_out (wave (1 ∷ []) ∷ []) (wave (3 ∷ []))
unfolding fan_out leads
wave_3 = record {
  filled = omega arith;
  rising = rising (3 ∷ []) tt;
  live = All-from_recursion (IsLive fan_out) (3 ∷ []) (live_3, tt);
  fresh = All-from_recursion (λ v. Contains (1 ∷ []) v → ⊥) (3 ∷ []) (not_among (1 ∷ []) 3 refl, tt);
  ready = All-from_recursion (λ c. Contains (3 ∷ []) c.dst.0 → Contains (1 ∷ []) c.src.0) (live_connections fan_out) (
    (λ h. (0, omega arith, refl)),
    (
      (λ h. absurd (not_among (3 ∷ []) 2 refl h)),
      (
        (λ h. (0, omega arith, refl)),
        ((λ h. absurd (not_among (3 ∷ []) 2 refl h)), ((λ h. absurd (not_among (3 ∷ []) 2 refl h)), ((λ h. absurd (not_among (3 ∷ []) 2 refl h)), tt))),
      ),
    ),
  );
}

wave_4 : IsNextWave fan_out (wave (1 ∷ []) ∷ wave (3 ∷ []) ∷ []) (wave (4 ∷ []))
unfolding fan_out leads
wave_4 = record {
  filled = omega arith;
  rising = rising (4 ∷ []) tt;
  live = All-from_recursion (IsLive fan_out) (4 ∷ []) (live_4, tt);
  fresh = All-from_recursion (λ v. Contains (1 ∷ 3 ∷ []) v → ⊥) (4 ∷ []) (not_among (1 ∷ 3 ∷ []) 4 refl, tt);
  ready = All-from_recursion (λ c. Contains (4 ∷ []) c.dst.0 → Contains (1 ∷ 3 ∷ []) c.src.0) (live_connections fan_out) (
    (λ h. (0, omega arith, refl)),
    (
      (λ h. (1, omega arith, refl)),
      (
        (λ h. (0, omega arith, refl)),
        ((λ h. absurd (not_among (4 ∷ []) 2 refl h)), ((λ h. absurd (not_among (4 ∷ []) 2 refl h)), ((λ h. absurd (not_among (4 ∷ []) 2 refl h)), tt))),
      ),
    ),
  );
}

no_output : IsWaveAt fan_out no_last_wave.waves 3 → ⊥
no_output h = not_among (1 ∷ 3 ∷ 4 ∷ []) 2 refl (h.all refl 2 live_2)

three_waves : IsSchedule fan_out no_last_wave.waves → ⊥
unfolding fan_out leads
three_waves s = not_among (1 ∷ 3 ∷ 4 ∷ []) 2 refl (Contains-permutation (live_nodes fan_out) (1 ∷ 3 ∷ 4 ∷ []) 2 s.once (1, omega arith, refl))

refused_waves : IsNo fan_out no_last_wave Waves 3
refused_waves = record {
  first = record {
    before = earlier fan_out no_last_wave Waves
        (nodes_rule, ((λ live. input_rule), (alignment_rule, (output_rule, (lines_rule, (refl, (path_rule, (longest_rule, (arcs_rule, (need_rule, (bound_rule, (refl, tt))))))))))));
    fails = three_waves;
  };
  at = first_bad (IsWaveAt fan_out no_last_wave.waves) 3
      (((tt, wave_at 0 (wave (1 ∷ [])) refl (omega arith) wave_1), wave_at 1 (wave (3 ∷ [])) refl (omega arith) wave_3), wave_at 2 (wave (4 ∷ [])) refl (omega arith) wave_4)
      no_output;
}

-- the home of the gain left out
abbrev home_left_out : Plan
home_left_out = record plan { homes = home 1 0 0 ∷ home 3 0 1 ∷ [] }

two_values : AreValues fan_out (ports_of home_left_out.homes) → ⊥
two_values are = let e = values_are_unique fan_out _ _ are homes_rule in absurd (cc)

third_value : common_prefix_len same_port (ports_of home_left_out.homes) (graph_values fan_out) ≡ 2
unfolding fan_out leads
third_value = refl

refused_homes : IsNo fan_out home_left_out Homes 2
refused_homes = record {
  first = record {
    before = earlier fan_out home_left_out Homes (
      nodes_rule,
      (
        (λ live. input_rule),
        (
          alignment_rule,
          (output_rule, (lines_rule, (refl, (path_rule, (longest_rule, (arcs_rule, (need_rule, (bound_rule, (refl, (schedule_rule, tt)))))))))),
        ),
      ),
    );
    fails = two_values;
  };
  at = sym third_value;
}
