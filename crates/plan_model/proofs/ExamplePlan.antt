-- A plan that is certified: the insert beside the gain into three channels.
use Rattle.std.proofs.Common.{◌≡◌, ℕ, zero, suc, ◌<◌, List, [], ◌∷◌, length, pos, refl, sym, subst, arith, Some, inl, inr}
use Rattle.std.specs.Prelude.{IsSome, ◌≢◌}
use Rattle.std.specs.List.{All, Contains, zip}
use Rattle.std.specs.List.Sorted.{IsStrictlyIncreasing}
use Rattle.std.proofs.lemmas.List.Elements.{All-from_recursion}
use Rattle.std.proofs.lemmas.List.Sorted.{IsPermutation-cons, IsPermutation-sym, IsPermutation-to_front}
use Rattle.graph_model.specs.Graphs.{input_name, output_name}
use Rattle.graph_model.specs.Paths.{leads, live_connections, IsLive, IsPathTo}
use Rattle.graph_model.specs.declared.graph.Connection.{Connection}
use Rattle.graph_model.proofs.Examples.{joined, fan_out}
use Rattle.plan_model.specs.Alignments.{IsAfter, lines}
use Rattle.plan_model.specs.Flows.{IsPoint, IsBalanced, arc_between, flow_bound, IsBeforeArc}
use Rattle.plan_model.specs.Schedules.{IsSchedule, wave_of, names}
use Rattle.plan_model.specs.Lives.{Port, source, ports_of, AreValues, lives_of, IsBefore}
use Rattle.plan_model.specs.Buffers.{need_of_wave, saved, bearers, IsAssignment, MayShare}
use Rattle.plan_model.specs.Rules.{AreLiveNodes, IsPeak, IsPathOut, path_latency}
use Rattle.plan_model.specs.Certified.{IsCertified, AreArcs, positions}
use Rattle.plan_model.specs.Optimal.{IsOptimal}
use Rattle.plan_model.proofs.CertifiedLaws.{certified_is_optimal}
use Rattle.graph_model.proofs.ExampleSound.{sound}
use Rattle.plan_model.specs.declared.plan.Plan.{Plan}
use Rattle.plan_model.specs.declared.rule.Rule.TheVariants.{At, Input, Alignment, Latency, Lines, Total, Path, Longest, Arcs, Need, Bound, Least, Waves, Homes, Channels, Peak}
use Rattle.plan_model.specs.declared.buffers.Home.{Home}
use Rattle.plan_model.specs.declared.buffers.Life.{Life}
use Rattle.plan_model.proofs.ExampleTools.{pairs, rising, at_points, all_nodes}
use Rattle.plan_model.proofs.Examples.{name, stands, line, life, flow, one_by_one, homes}

abbrev pub plan : Plan
plan = record {
  latency = 5;
  path = name 1 ∷ name 3 ∷ name 2 ∷ [];
  at = stands 1 0 ∷ stands 2 5 ∷ stands 3 0 ∷ stands 4 5 ∷ [];
  lines = line 0 0 ∷ line 1 0 ∷ line 2 5 ∷ line 3 0 ∷ line 4 0 ∷ line 5 0 ∷ [];
  total = 5;
  arcs = flow;
  bound = 5;
  waves = one_by_one;
  homes = homes;
  channels = 2;
  peak = 1;
}

over_insert : IsPathTo fan_out 2 (3 ∷ 1 ∷ [])
unfolding fan_out
over_insert = (refl, (joined 3 0 2 0, (1, omega arith, refl), refl, refl), (refl, (joined 1 0 3 0, (0, omega arith, refl), refl, refl), refl))

pub over_gain : IsPathTo fan_out 2 (4 ∷ 1 ∷ [])
unfolding fan_out
over_gain = (refl, (joined 4 0 2 0, (3, omega arith, refl), refl, refl), (refl, (joined 1 0 4 0, (2, omega arith, refl), refl, refl), refl))

pub live_1 : IsLive fan_out 1
unfolding fan_out
live_1 = (3 ∷ 1 ∷ [], over_insert, (2, omega arith, refl))

pub live_2 : IsLive fan_out 2
unfolding fan_out
live_2 = (3 ∷ 1 ∷ [], over_insert, (0, omega arith, refl))

pub live_3 : IsLive fan_out 3
unfolding fan_out
live_3 = (3 ∷ 1 ∷ [], over_insert, (1, omega arith, refl))

pub live_4 : IsLive fan_out 4
unfolding fan_out
live_4 = (4 ∷ 1 ∷ [], over_gain, (1, omega arith, refl))

pub nodes_rule : AreLiveNodes fan_out (1 ∷ 2 ∷ 3 ∷ 4 ∷ [])
unfolding fan_out
nodes_rule = all_nodes fan_out (omega arith, (omega arith, (omega arith, tt))) (live_1, (live_2, (live_3, (live_4, tt))))

pub alignment_rule : All (IsAfter fan_out (positions plan)) (live_connections fan_out)
unfolding fan_out leads
alignment_rule = All-from_recursion (IsAfter fan_out (positions plan)) (live_connections fan_out)
    (omega arith, (omega arith, (omega arith, (omega arith, (omega arith, (omega arith, tt))))))

pub lines_rule : plan.lines ≡ lines fan_out (positions plan)
unfolding fan_out leads
lines_rule = refl

pub arcs_rule : AreArcs fan_out 5 flow
unfolding fan_out leads
arcs_rule = record {
  each = All-from_recursion (λ e. IsSome (arc_between fan_out 5 e.tail e.head) × (0 < e.units)) flow ((refl, omega arith), ((refl, omega arith), ((refl, omega arith), tt)));
  ascending = pairs IsBeforeArc flow ((inl (omega arith), (inl (omega arith), tt)), ((inl (omega arith), tt), (tt, tt)));
}

pub bound_rule : flow_bound fan_out 5 flow ≡ pos 5
unfolding fan_out leads
bound_rule = refl

pub need_rule : (v : ℕ) → IsPoint fan_out v → IsBalanced fan_out flow v
unfolding fan_out leads
need_rule = at_points fan_out (IsBalanced fan_out flow) (refl, (refl, (refl, (refl, (refl, tt)))))

pub schedule_rule : IsSchedule fan_out one_by_one
unfolding fan_out leads
schedule_rule = record {
  filled = All-from_recursion (λ w. 0 < length w.nodes) one_by_one (omega arith, (omega arith, (omega arith, (omega arith, tt))));
  rising = All-from_recursion (λ w. IsStrictlyIncreasing (names w)) one_by_one (rising (1 ∷ []) tt, (rising (3 ∷ []) tt, (rising (4 ∷ []) tt, (rising (2 ∷ []) tt, tt))));
  once = IsPermutation-cons 1 (2 ∷ 3 ∷ 4 ∷ []) (3 ∷ 4 ∷ 2 ∷ [])
      (IsPermutation-sym (3 ∷ 4 ∷ 2 ∷ []) (2 ∷ 3 ∷ 4 ∷ []) (IsPermutation-to_front (3 ∷ 4 ∷ []) 2));
  later = All-from_recursion (λ c. wave_of one_by_one c.src.0 < wave_of one_by_one c.dst.0) (live_connections fan_out)
      (omega arith, (omega arith, (omega arith, (omega arith, (omega arith, (omega arith, tt))))));
}

abbrev IsRead : Port → Type 0
IsRead x = (c : Connection) × Contains (live_connections fan_out) c × (source c ≡ x)

abbrev HasPort : Connection → Type 0
HasPort c = Contains (ports_of homes) (source c)

pub homes_rule : AreValues fan_out (ports_of homes)
unfolding fan_out leads
homes_rule = record {
  ascending = pairs IsBefore (ports_of homes) ((inl (omega arith), (inl (omega arith), tt)), ((inl (omega arith), tt), (tt, tt)));
  each = All-from_recursion IsRead (ports_of homes)
      ((joined 1 0 3 0, (0, omega arith, refl), refl), ((joined 3 0 2 0, (1, omega arith, refl), refl), ((joined 4 0 2 0, (3, omega arith, refl), refl), tt)));
  all = All-from_recursion HasPort (live_connections fan_out) (
    (0, omega arith, refl),
    (
      (1, omega arith, refl),
      (
        (0, omega arith, refl),
        ((2, omega arith, refl), ((2, omega arith, refl), ((2, omega arith, refl), tt))),
      ),
    ),
  );
}

abbrev pub values : List Life
values = life 1 0 0 2 (Some (name 4)) ∷ life 3 0 1 3 (Some (name 2)) ∷ life 4 0 2 3 (Some (name 2)) ∷ []

abbrev pub Apart : Life × Home → Life × Home → Type 0
Apart x y = x.1.buffer ≡ y.1.buffer → MayShare x.0 y.0

pub apart_rule : IsAssignment values homes 2
apart_rule = record {
  values = ((refl, refl), ((refl, refl), ((refl, refl), tt)));
  apart = pairs Apart (zip values homes)
      (((λ same. absurd (omega arith)), ((λ same. inl (inr (refl, refl))), tt)), (((λ same. absurd (omega arith)), tt), (tt, tt)));
  below = All-from_recursion (λ h. h.buffer < 2) homes (omega arith, (omega arith, (omega arith, tt)));
}

pub lives_are : lives_of fan_out one_by_one (ports_of homes) ≡ values
unfolding fan_out leads
lives_are = refl

need_0 : need_of_wave values 0 ≡ 1
unfolding need_of_wave saved bearers
need_0 = refl

need_1 : need_of_wave values 1 ≡ 2
unfolding need_of_wave saved bearers
need_1 = refl

first_peak : (s : ℕ) → s < 1 → need_of_wave values s ≢ 2
first_peak zero l e = let n = need_0 in absurd (omega arith)
first_peak (suc s) l e = absurd (omega arith)

pub peak_rule : IsPeak values 4 2 1
peak_rule = record { wave = omega arith; full = need_1; first = first_peak }

pub path_rule : IsPathOut fan_out (name 1 ∷ name 3 ∷ name 2 ∷ [])
unfolding fan_out
path_rule = (3 ∷ 1 ∷ [], over_insert, refl)

pub longest_rule : path_latency fan_out (name 1 ∷ name 3 ∷ name 2 ∷ []) ≡ 5
unfolding fan_out
longest_rule = refl

pub output_rule : positions plan (output_name fan_out) ≡ 5
unfolding fan_out
output_rule = refl

pub input_rule : positions plan (input_name fan_out) ≡ 0
unfolding fan_out
input_rule = refl

pub certified : IsCertified fan_out plan
certified At = nodes_rule
certified Input = λ live. input_rule
certified Alignment = alignment_rule
certified Latency = output_rule
certified Lines = lines_rule
certified Total = refl
certified Path = path_rule
certified Longest = longest_rule
certified Arcs = arcs_rule
certified Need = need_rule
certified Bound = bound_rule
certified Least = refl
certified Waves = schedule_rule
certified Homes = homes_rule
certified Channels = subst (λ ls. IsAssignment ls homes 2) (sym lives_are) apart_rule
certified Peak = subst (λ ls. IsPeak ls 4 2 1) (sym lives_are) peak_rule

pub optimal : IsOptimal fan_out plan
optimal = certified_is_optimal fan_out plan sound certified
