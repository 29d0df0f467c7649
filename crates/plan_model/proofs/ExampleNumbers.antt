-- Plans with one altered line, and the number by which a checker refuses each: positions, delays and sums.
use Rattle.std.proofs.Common.{◌≡◌, [], ◌∷◌, pos, refl, sym, ap, ◌∙◌, arith}
use Rattle.std.specs.Prelude.{sum_by}
use Rattle.std.specs.List.{All, common_prefix_len}
use Rattle.std.proofs.lemmas.List.Elements.{All-from_recursion}
use Rattle.graph_model.specs.Graphs.{input_name, output_name}
use Rattle.graph_model.specs.Paths.{leads, live_connections}
use Rattle.graph_model.proofs.Examples.{fan_out}
use Rattle.plan_model.specs.Alignments.{IsAfter, lines}
use Rattle.plan_model.specs.Certified.{positions}
use Rattle.plan_model.specs.Places.{IsNo, same_line}
use Rattle.plan_model.specs.Rules.{IsPathOut, path_latency}
use Rattle.plan_model.specs.declared.alignment.LineAt.{LineAt}
use Rattle.plan_model.specs.declared.plan.Plan.{Plan}
use Rattle.plan_model.specs.declared.rule.Rule.TheVariants.{Input, Latency, Lines, Longest, Bound}
use Rattle.plan_model.proofs.Examples.{name, stands, line}
use Rattle.plan_model.proofs.ExamplePlan.{plan, over_gain, live_1, nodes_rule, input_rule, alignment_rule, output_rule, lines_rule, path_rule, longest_rule, arcs_rule, need_rule, bound_rule}
use Rattle.plan_model.proofs.ExampleRules.{earlier}

-- the input at 7
abbrev late_input : Plan
late_input = record plan { at = stands 1 7 ∷ stands 2 12 ∷ stands 3 7 ∷ stands 4 12 ∷ [] }

input_at : positions late_input (input_name fan_out) ≡ 7
unfolding fan_out
input_at = refl

input_late : positions late_input 1 ≡ 0 → ⊥
input_late e = absurd (omega (arith, e))

refused_input : IsNo fan_out late_input Input 7
unfolding fan_out
refused_input = record {
  first = record {
    before = earlier fan_out late_input Input (nodes_rule, tt);
    fails = λ h. input_late (h live_1);
  };
  at = sym input_at;
}

-- the output two frames late
abbrev late_output : Plan
late_output = record plan { at = stands 1 0 ∷ stands 2 7 ∷ stands 3 0 ∷ stands 4 5 ∷ [] }

late_input_rule : positions late_output (input_name fan_out) ≡ 0
unfolding fan_out
late_input_rule = refl

late_alignment : All (IsAfter fan_out (positions late_output)) (live_connections fan_out)
unfolding fan_out leads
late_alignment = All-from_recursion (IsAfter fan_out (positions late_output)) (live_connections fan_out)
    (omega arith, (omega arith, (omega arith, (omega arith, (omega arith, (omega arith, tt))))))

output_at : positions late_output (output_name fan_out) ≡ 7
unfolding fan_out
output_at = refl

refused_latency : IsNo fan_out late_output Latency 7
refused_latency = record {
  first = record {
    before = earlier fan_out late_output Latency (nodes_rule, ((λ live. late_input_rule), (late_alignment, tt)));
    fails = λ e. absurd (omega (arith, e, output_at));
  };
  at = sym output_at;
}

-- the fourth line a frame too long; and the third for another connection
abbrev longer_line : Plan
longer_line = record plan { lines = line 0 0 ∷ line 1 0 ∷ line 2 5 ∷ line 3 1 ∷ line 4 0 ∷ line 5 0 ∷ [] }

fourth_line : common_prefix_len same_line longer_line.lines (lines fan_out (positions longer_line)) ≡ 3
unfolding fan_out leads
fourth_line = refl

longer : longer_line.lines ≡ lines fan_out (positions longer_line) → ⊥
longer e = let sum : 6 ≡ 5 = ap (λ ls. sum_by (λ (l : LineAt). l.delay) ls) (e ∙ sym lines_rule) in absurd (omega (arith, sum))

refused_lines : IsNo fan_out longer_line Lines 3
refused_lines = record {
  first = record {
    before = earlier fan_out longer_line Lines (nodes_rule, ((λ live. input_rule), (alignment_rule, (output_rule, tt))));
    fails = longer;
  };
  at = sym fourth_line;
}

third_line : common_prefix_len same_line (line 0 0 ∷ line 1 0 ∷ line 3 5 ∷ []) (lines fan_out (positions plan)) ≡ 2
unfolding fan_out leads
third_line = refl

-- the path over the gain, which has no latency
abbrev other_path : Plan
other_path = record plan { path = name 1 ∷ name 4 ∷ name 2 ∷ [] }

other_path_rule : IsPathOut fan_out other_path.path
unfolding fan_out
other_path_rule = (4 ∷ 1 ∷ [], over_gain, refl)

its_latency : path_latency fan_out other_path.path ≡ 0
unfolding fan_out
its_latency = refl

refused_longest : IsNo fan_out other_path Longest 0
refused_longest = record {
  first = record {
    before = earlier fan_out other_path Longest (nodes_rule, ((λ live. input_rule), (alignment_rule, (output_rule, (lines_rule, (refl, (other_path_rule, tt)))))));
    fails = λ e. absurd (omega (arith, e, its_latency));
  };
  at = sym its_latency;
}

-- a bound that is not the flow's
abbrev smaller_bound : Plan
smaller_bound = record plan { bound = 4 }

refused_bound : IsNo fan_out smaller_bound Bound 4
refused_bound = record {
  first = record {
    before = earlier fan_out smaller_bound Bound
        (nodes_rule, ((λ live. input_rule), (alignment_rule, (output_rule, (lines_rule, (refl, (path_rule, (longest_rule, (arcs_rule, (need_rule, tt))))))))));
    fails = λ e. let bad : pos 5 ≡ pos 4 = sym bound_rule ∙ e in absurd (cc);
  };
  at = refl;
}
