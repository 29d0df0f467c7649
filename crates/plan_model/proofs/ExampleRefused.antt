-- Plans with one altered line, and the rule and the number by which a checker refuses each: sums, flows and buffers.
use Rattle.std.proofs.Common.{◌≡◌, ℕ, zero, suc, ◌<◌, [], ◌∷◌, negsuc, refl, sym, ap, ◌∙◌, subst, arith, Some, inl, inr}
use Rattle.std.specs.Prelude.{IsSome, slice_get}
use Rattle.std.specs.List.{All}
use Rattle.std.proofs.lemmas.List.Elements.{All-from_recursion}
use Rattle.graph_model.specs.Graphs.{input_name, output_name}
use Rattle.graph_model.specs.Paths.{leads, live_connections}
use Rattle.graph_model.proofs.Examples.{fan_out}
use Rattle.plan_model.specs.Alignments.{IsAfter, lines}
use Rattle.plan_model.specs.Flows.{IsPoint, IsBalanced, arc_between, IsBeforeArc}
use Rattle.plan_model.specs.Lives.{lives_of, ports_of}
use Rattle.plan_model.specs.Buffers.{MayShare, IsAssignment, need_of_wave, saved, bearers}
use Rattle.plan_model.specs.Rules.{IsPeak}
use Rattle.plan_model.specs.Certified.{AreArcs, positions}
use Rattle.plan_model.specs.Places.{IsFirstBad, IsHomeAt, IsNo}
use Rattle.plan_model.specs.declared.plan.Plan.{Plan}
use Rattle.plan_model.specs.declared.rule.Rule.TheVariants.{Channels, Need, Least, Total, Peak}
use Rattle.plan_model.proofs.Examples.{name, stands, line, arc, home, life, homes, one_by_one}
use Rattle.plan_model.proofs.ExampleTools.{pairs}
use Rattle.plan_model.specs.declared.buffers.Home.{Home}
use Rattle.plan_model.proofs.ExampleBuffers.{overlap}
use Rattle.plan_model.proofs.ExampleRules.{earlier, first_bad}
use Rattle.plan_model.proofs.ExamplePlan.{plan, values, lives_are, apart_rule, live_1, nodes_rule, input_rule, alignment_rule, output_rule, lines_rule, path_rule, longest_rule, arcs_rule, need_rule, bound_rule, schedule_rule, homes_rule}

-- a total that is not the sum
abbrev smaller_total : Plan
smaller_total = record plan { total = 4 }

refused_total : IsNo fan_out smaller_total Total 4
refused_total = record {
  first = record {
    before = earlier fan_out smaller_total Total (nodes_rule, ((λ live. input_rule), (alignment_rule, (output_rule, (lines_rule, tt)))));
    fails = λ e. absurd (omega (arith, e));
  };
  at = refl;
}

-- a unit more from the input to the insert
abbrev more_units : Plan
more_units = record plan { arcs = arc 1 3 3 ∷ arc 3 2 2 ∷ arc 4 2 2 ∷ [] }

more_arcs : AreArcs fan_out 5 more_units.arcs
unfolding fan_out leads
more_arcs = record {
  each = All-from_recursion (λ e. IsSome (arc_between fan_out 5 e.tail e.head) × (0 < e.units)) more_units.arcs ((refl, omega arith), ((refl, omega arith), ((refl, omega arith), tt)));
  ascending = pairs IsBeforeArc more_units.arcs ((inl (omega arith), (inl (omega arith), tt)), ((inl (omega arith), tt), (tt, tt)));
}

root_is_met : IsBalanced fan_out more_units.arcs 0
unfolding fan_out leads
root_is_met = refl

input_is_not : (IsPoint fan_out 1 → IsBalanced fan_out more_units.arcs 1) → ⊥
unfolding fan_out leads
input_is_not h = let e : negsuc 2 ≡ negsuc 1 = h (inr live_1) in absurd (cc)

refused_need : IsNo fan_out more_units Need 1
refused_need = record {
  first = record {
    before = earlier fan_out more_units Need
        (nodes_rule, ((λ live. input_rule), (alignment_rule, (output_rule, (lines_rule, (refl, (path_rule, (longest_rule, (more_arcs, tt)))))))));
    fails = λ h. input_is_not (h 1);
  };
  at = first_bad (λ v. IsPoint fan_out v → IsBalanced fan_out more_units.arcs v) 1 (tt, (λ point. root_is_met)) input_is_not;
}

-- the earliest alignment, with its delays and their sum
abbrev earlier_gain : Plan
earlier_gain = record plan {
  at = stands 1 0 ∷ stands 2 5 ∷ stands 3 0 ∷ stands 4 0 ∷ [];
  lines = line 0 0 ∷ line 1 0 ∷ line 2 0 ∷ line 3 5 ∷ line 4 5 ∷ line 5 5 ∷ [];
  total = 15;
}

early_input : positions earlier_gain (input_name fan_out) ≡ 0
unfolding fan_out
early_input = refl

early_alignment : All (IsAfter fan_out (positions earlier_gain)) (live_connections fan_out)
unfolding fan_out leads
early_alignment = All-from_recursion (IsAfter fan_out (positions earlier_gain)) (live_connections fan_out)
    (omega arith, (omega arith, (omega arith, (omega arith, (omega arith, (omega arith, tt))))))

early_output : positions earlier_gain (output_name fan_out) ≡ 5
unfolding fan_out
early_output = refl

early_lines : earlier_gain.lines ≡ lines fan_out (positions earlier_gain)
unfolding fan_out leads
early_lines = refl

refused_least : IsNo fan_out earlier_gain Least 15
refused_least = record {
  first = record {
    before = earlier fan_out earlier_gain Least
        (nodes_rule, ((λ live. early_input), (early_alignment, (early_output, (early_lines, (refl, (path_rule, (longest_rule, (arcs_rule, (need_rule, (bound_rule, tt)))))))))));
    fails = λ e. absurd (omega (arith, e));
  };
  at = refl;
}

-- a channel more than any wave needs
abbrev more_channels : Plan
more_channels = record plan { channels = 3 }

room : IsAssignment (lives_of fan_out one_by_one (ports_of homes)) homes 3
room = subst (λ ls. IsAssignment ls homes 3) (sym lives_are)
    record {
      values = apart_rule.values;
      apart = apart_rule.apart;
      below = All-from_recursion (λ h. h.buffer < 3) homes (omega arith, (omega arith, (omega arith, tt)));
    }

no_wave_needs_it : IsPeak (lives_of fan_out one_by_one (ports_of homes)) 4 3 1 → ⊥
unfolding need_of_wave saved bearers
no_wave_needs_it p = let full : need_of_wave values 1 ≡ 3 = subst (λ ls. need_of_wave ls 1 ≡ 3) lives_are p.full in omega arith

refused_peak : IsNo fan_out more_channels Peak 1
refused_peak = record {
  first = record {
    before = earlier fan_out more_channels Peak (
      nodes_rule,
      (
        (λ live. input_rule),
        (
          alignment_rule,
          (
            output_rule,
            (
              lines_rule,
              (refl, (path_rule, (longest_rule, (arcs_rule, (need_rule, (bound_rule, (refl, (schedule_rule, (homes_rule, (room, tt)))))))))),
            ),
          ),
        ),
      ),
    );
    fails = no_wave_needs_it;
  };
  at = refl;
}

-- the gain in the buffer of the insert, whose value the output node reads in the same wave
abbrev shared_buffer : Plan
shared_buffer = record plan { homes = home 1 0 0 ∷ home 3 0 1 ∷ home 4 0 1 ∷ [] }

no_sharing : MayShare (life 3 0 1 3 (Some (name 2))) (life 4 0 2 3 (Some (name 2))) → ⊥
no_sharing = overlap (life 3 0 1 3 (Some (name 2))) (life 4 0 2 3 (Some (name 2))) (omega arith) (omega arith)

home_0 : IsHomeAt values shared_buffer.homes 2 0
home_0 x h ex eh = let is : home 1 0 0 ≡ h = cc in (subst (λ (i : Home). i.buffer < 2) is (omega arith), λ j y i lt ey ei same. absurd (omega arith))

home_1 : IsHomeAt values shared_buffer.homes 2 1
home_1 x h ex eh = let is : home 3 0 1 ≡ h = cc in (subst (λ (i : Home). i.buffer < 2) is (omega arith), λ j y i lt ey ei same. absurd (differ j i lt ei (same ∙ ap (λ (k : Home). k.buffer) (sym is))))
  where
    differ : (j : ℕ) (i : Home) → j < 1 → slice_get shared_buffer.homes j ≡ Some i → i.buffer ≡ 1 → ⊥
    differ zero i lt ei same =
        let first : home 1 0 0 ≡ i = cc in
        omega (arith, ap (λ (k : Home). k.buffer) first, same)
    differ (suc j) i lt ei same = omega arith

home_2 : IsHomeAt values shared_buffer.homes 2 2 → ⊥
home_2 h = no_sharing ((h (life 4 0 2 3 (Some (name 2))) (home 4 0 1) refl refl).1 1 (life 3 0 1 3 (Some (name 2))) (home 3 0 1) (omega arith) refl refl refl)

refused_channels : IsNo fan_out shared_buffer Channels 2
refused_channels = record {
  first = record {
    before = earlier fan_out shared_buffer Channels (
      nodes_rule,
      (
        (λ live. input_rule),
        (
          alignment_rule,
          (output_rule, (lines_rule, (refl, (path_rule, (longest_rule, (arcs_rule, (need_rule, (bound_rule, (refl, (schedule_rule, (homes_rule, tt))))))))))),
        ),
      ),
    );
    fails = λ a.
        let assigned : IsAssignment values shared_buffer.homes 2 = subst (λ ls. IsAssignment ls shared_buffer.homes 2) lives_are a in
        no_sharing (assigned.apart 1 2 (life 4 0 2 3 (Some (name 2)), home 4 0 1) (omega arith) (omega arith) refl);
  };
  at = subst (λ ls. IsFirstBad (IsHomeAt ls shared_buffer.homes 2) 2) (sym lives_are) (first_bad (IsHomeAt values shared_buffer.homes 2) 2 ((tt, home_0), home_1) home_2);
}
