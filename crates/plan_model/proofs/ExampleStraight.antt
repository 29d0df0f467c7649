-- The smallest plans that are certified: one connection, and an output without any.
use Rattle.std.proofs.Common.{◌≡◌, ℕ, ◌<◌, List, [], ◌∷◌, length, refl, sym, subst, arith, Some}
use Rattle.std.specs.Prelude.{IsSome}
use Rattle.std.specs.List.{All, Contains, zip}
use Rattle.std.specs.List.Sorted.{IsStrictlyIncreasing}
use Rattle.std.proofs.lemmas.List.Elements.{All-from_recursion, All-nil}
use Rattle.std.proofs.lemmas.List.Sorted.{IsPermutation-refl, IsPermutation-sym, Contains-permutation}
use Rattle.graph_model.specs.Paths.{leads, live_nodes, live_connections, IsLive, IsPathTo}
use Rattle.graph_model.specs.declared.kind.Kind.TheVariants.{Input as InputKind, Output}
use Rattle.graph_model.specs.declared.graph.Connection.{Connection}
use Rattle.graph_model.specs.declared.graph.Graph.{Graph}
use Rattle.graph_model.proofs.Examples.{node, joined}
use Rattle.plan_model.specs.Alignments.{IsAfter}
use Rattle.plan_model.specs.Flows.{IsPoint, IsBalanced, arc_between, IsBeforeArc}
use Rattle.plan_model.specs.Schedules.{IsSchedule, wave_of, names}
use Rattle.plan_model.specs.Lives.{source, ports_of, AreValues, lives_of, IsBefore}
use Rattle.plan_model.specs.Buffers.{need_of_wave, saved, bearers, IsAssignment, MayShare}
use Rattle.plan_model.specs.Rules.{AreLiveNodes, IsPeak}
use Rattle.plan_model.specs.Certified.{IsCertified, AreArcs, positions}
use Rattle.plan_model.specs.declared.buffers.Life.{Life}
use Rattle.plan_model.specs.declared.plan.Plan.{Plan}
use Rattle.plan_model.specs.declared.rule.Rule.TheVariants.{At, Input, Alignment, Latency, Lines, Total, Path, Longest, Arcs, Need, Bound, Least, Waves, Homes, Channels, Peak}
use Rattle.plan_model.proofs.Examples.{name, stands, line, arc, wave, home, life}
use Rattle.plan_model.proofs.ExampleTools.{pairs, rising, at_points, all_nodes, not_among}

unfoldable pub straight : Graph
straight = record { nodes = node 1 (InputKind 1) ∷ node 2 (Output 1) ∷ []; connections = joined 1 0 2 0 ∷ [] }

abbrev pub straight_plan : Plan
straight_plan = record {
  latency = 0;
  path = name 1 ∷ name 2 ∷ [];
  at = stands 1 0 ∷ stands 2 0 ∷ [];
  lines = line 0 0 ∷ [];
  total = 0;
  arcs = arc 1 2 1 ∷ [];
  bound = 0;
  waves = wave (1 ∷ []) ∷ wave (2 ∷ []) ∷ [];
  homes = home 1 0 0 ∷ [];
  channels = 1;
  peak = 0;
}

way : IsPathTo straight 2 (1 ∷ [])
unfolding straight
way = (refl, (joined 1 0 2 0, (0, omega arith, refl), refl, refl), refl)

straight_nodes : AreLiveNodes straight (1 ∷ 2 ∷ [])
unfolding straight
straight_nodes = all_nodes straight (omega arith, tt) ((1 ∷ [], way, (1, omega arith, refl)), ((1 ∷ [], way, (0, omega arith, refl)), tt))

straight_schedule : IsSchedule straight straight_plan.waves
unfolding straight leads
straight_schedule = record {
  filled = All-from_recursion (λ w. 0 < length w.nodes) straight_plan.waves (omega arith, (omega arith, tt));
  rising = All-from_recursion (λ w. IsStrictlyIncreasing (names w)) straight_plan.waves (rising (1 ∷ []) tt, (rising (2 ∷ []) tt, tt));
  once = IsPermutation-refl (1 ∷ 2 ∷ []);
  later = All-from_recursion (λ c. wave_of straight_plan.waves c.src.0 < wave_of straight_plan.waves c.dst.0) (live_connections straight) (omega arith, tt);
}

straight_values : AreValues straight (ports_of straight_plan.homes)
unfolding straight leads
straight_values = record {
  ascending = pairs IsBefore (ports_of straight_plan.homes) (tt, tt);
  each = All-from_recursion (λ x. (c : Connection) × Contains (live_connections straight) c × (source c ≡ x)) (ports_of straight_plan.homes)
      ((joined 1 0 2 0, (0, omega arith, refl), refl), tt);
  all = All-from_recursion (λ c. Contains (ports_of straight_plan.homes) (source c)) (live_connections straight) ((0, omega arith, refl), tt);
}

abbrev straight_life : List Life
straight_life = life 1 0 0 1 (Some (name 2)) ∷ []

straight_lives : lives_of straight straight_plan.waves (ports_of straight_plan.homes) ≡ straight_life
unfolding straight leads
straight_lives = refl

one_buffer : IsAssignment straight_life straight_plan.homes 1
one_buffer = record {
  values = ((refl, refl), tt);
  apart = pairs (λ x y. x.1.buffer ≡ y.1.buffer → MayShare x.0 y.0) (zip straight_life straight_plan.homes) (tt, tt);
  below = All-from_recursion (λ h. h.buffer < 1) straight_plan.homes (omega arith, tt);
}

first_wave : IsPeak straight_life 2 1 0
unfolding need_of_wave saved bearers
first_wave = record { wave = omega arith; full = refl; first = λ s l. absurd (omega arith) }

straight_arcs : AreArcs straight 0 straight_plan.arcs
unfolding straight leads
straight_arcs = record {
  each = All-from_recursion (λ e. IsSome (arc_between straight 0 e.tail e.head) × (0 < e.units)) straight_plan.arcs ((refl, omega arith), tt);
  ascending = pairs IsBeforeArc straight_plan.arcs (tt, tt);
}

straight_needs : (v : ℕ) → IsPoint straight v → IsBalanced straight straight_plan.arcs v
unfolding straight leads
straight_needs = at_points straight (IsBalanced straight straight_plan.arcs) (refl, (refl, (refl, tt)))

straight_alignment : All (IsAfter straight (positions straight_plan)) (live_connections straight)
unfolding straight leads
straight_alignment = All-from_recursion (IsAfter straight (positions straight_plan)) (live_connections straight) (omega arith, tt)

pub straight_is_certified : IsCertified straight straight_plan
unfolding straight leads
straight_is_certified At = straight_nodes
straight_is_certified Input = λ live. refl
straight_is_certified Alignment = straight_alignment
straight_is_certified Latency = refl
straight_is_certified Lines = refl
straight_is_certified Total = refl
straight_is_certified Path = (1 ∷ [], way, refl)
straight_is_certified Longest = refl
straight_is_certified Arcs = straight_arcs
straight_is_certified Need = straight_needs
straight_is_certified Bound = refl
straight_is_certified Least = refl
straight_is_certified Waves = straight_schedule
straight_is_certified Homes = straight_values
straight_is_certified Channels = subst (λ ls. IsAssignment ls straight_plan.homes 1) (sym straight_lives) one_buffer
straight_is_certified Peak = subst (λ ls. IsPeak ls 2 1 0) (sym straight_lives) first_wave

-- no connection: the output is the one live node, and nothing has to be kept
unfoldable pub unjoined : Graph
unjoined = record { nodes = node 1 (InputKind 1) ∷ node 2 (Output 1) ∷ []; connections = [] }

abbrev pub unjoined_plan : Plan
unjoined_plan = record {
  latency = 0;
  path = name 2 ∷ [];
  at = stands 2 0 ∷ [];
  lines = [];
  total = 0;
  arcs = [];
  bound = 0;
  waves = wave (2 ∷ []) ∷ [];
  homes = [];
  channels = 0;
  peak = 0;
}

only_output : (v : ℕ) → IsLive unjoined v → Contains (2 ∷ []) v
unfolding unjoined
only_output v ([], path, has) = has
only_output v (u ∷ us, path, has) = let l = path.1.1.1 in absurd (omega arith)

output_is_live : IsLive unjoined 2
unfolding unjoined
output_is_live = ([], refl, (0, omega arith, refl))

unjoined_nodes : AreLiveNodes unjoined (2 ∷ [])
unjoined_nodes = record { ascending = rising (2 ∷ []) tt; each = All-from_recursion (IsLive unjoined) (2 ∷ []) (output_is_live, tt); all = only_output }

unjoined_schedule : IsSchedule unjoined unjoined_plan.waves
unfolding unjoined leads
unjoined_schedule = record {
  filled = All-from_recursion (λ w. 0 < length w.nodes) unjoined_plan.waves (omega arith, tt);
  rising = All-from_recursion (λ w. IsStrictlyIncreasing (names w)) unjoined_plan.waves (rising (2 ∷ []) tt, tt);
  once = IsPermutation-refl (2 ∷ []);
  later = All-nil (λ c. wave_of unjoined_plan.waves c.src.0 < wave_of unjoined_plan.waves c.dst.0);
}

unjoined_arcs : AreArcs unjoined 0 []
unjoined_arcs = record { each = All-nil (λ e. IsSome (arc_between unjoined 0 e.tail e.head) × (0 < e.units)); ascending = pairs IsBeforeArc [] tt }

unjoined_needs : (v : ℕ) → IsPoint unjoined v → IsBalanced unjoined [] v
unfolding unjoined leads
unjoined_needs = at_points unjoined (IsBalanced unjoined []) (refl, (refl, (refl, tt)))

unjoined_values : AreValues unjoined []
unfolding unjoined leads
unjoined_values = record {
  ascending = pairs IsBefore [] tt;
  each = All-nil (λ x. (c : Connection) × Contains (live_connections unjoined) c × (source c ≡ x));
  all = All-nil (λ c. Contains [] (source c));
}

no_buffer : IsAssignment [] [] 0
no_buffer = record { values = tt; apart = pairs (λ x y. x.1.buffer ≡ y.1.buffer → MayShare x.0 y.0) [] tt; below = All-nil (λ h. h.buffer < 0) }

no_need : IsPeak [] 1 0 0
unfolding need_of_wave saved bearers
no_need = record { wave = omega arith; full = refl; first = λ s l. absurd (omega arith) }

pub unjoined_is_certified : IsCertified unjoined unjoined_plan
unfolding unjoined leads
unjoined_is_certified At = unjoined_nodes
unjoined_is_certified Input = λ live. refl
unjoined_is_certified Alignment = All-nil (IsAfter unjoined (positions unjoined_plan))
unjoined_is_certified Latency = refl
unjoined_is_certified Lines = refl
unjoined_is_certified Total = refl
unjoined_is_certified Path = ([], refl, refl)
unjoined_is_certified Longest = refl
unjoined_is_certified Arcs = unjoined_arcs
unjoined_is_certified Need = unjoined_needs
unjoined_is_certified Bound = refl
unjoined_is_certified Least = refl
unjoined_is_certified Waves = unjoined_schedule
unjoined_is_certified Homes = unjoined_values
unjoined_is_certified Channels = no_buffer
unjoined_is_certified Peak = no_need

-- the idle input node stands in no wave
idle_node : IsSchedule unjoined (wave (1 ∷ []) ∷ wave (2 ∷ []) ∷ []) → ⊥
unfolding unjoined leads
idle_node s = not_among (2 ∷ []) 1 refl
    (Contains-permutation (1 ∷ 2 ∷ []) (2 ∷ []) 1 (IsPermutation-sym (live_nodes unjoined) (1 ∷ 2 ∷ []) s.once) (0, omega arith, refl))
