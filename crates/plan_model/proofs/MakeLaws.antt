-- What the calls of a compiler give makes a certified plan.
use Rattle.std.proofs.Common.{◌≡◌, List, [], ◌∷◌, length, map, refl, sym, ap, subst, ◌∙◌}
use Rattle.std.specs.Prelude.{sum_by}
use Rattle.std.specs.List.{AllZip}
use Rattle.graph_model.specs.Graphs.{output_name}
use Rattle.graph_model.specs.Paths.{IsPathTo, IsPrintedPath, latencies, reach, latency_of_graph, depth}
use Rattle.graph_model.specs.Sound.{IsSound}
use Rattle.graph_model.proofs.RankLaws.{sound_is_ranked}
use Rattle.graph_model.specs.declared.graph.Graph.{Graph}
use Rattle.plan_model.specs.Alignments.{IsAlignment, position_in, lines}
use Rattle.plan_model.specs.Flows.{flow_bound}
use Rattle.plan_model.specs.Schedules.{IsSchedule}
use Rattle.plan_model.specs.Lives.{Port, AreValues, values, lives_of, life_of, ports_of}
use Rattle.plan_model.specs.Buffers.{IsAssignment}
use Rattle.plan_model.specs.Certified.{positions, parts, AreArcs}
use Rattle.plan_model.specs.Results.{PartsAreCertified}
use Rattle.plan_model.specs.Rules.{AreLiveNodes, IsPeak, Parts, HoldsBy, AllHold}
use Rattle.plan_model.specs.declared.buffers.Life.{Life}
use Rattle.plan_model.specs.declared.buffers.Home.{Home}
use Rattle.plan_model.specs.declared.alignment.LineAt.{LineAt}
use Rattle.plan_model.specs.declared.rule.Rule.TheVariants.{At, Input, Alignment, Latency, Lines, Total, Path, Longest, Arcs, Need, Bound, Least, Waves, Homes, Channels, Peak}
use Rattle.plan_model.proofs.CertifiedLaws.{path_sum, sum_lines}
use Rattle.graph_model.proofs.NodeFacts.{output_is_node}
use Rattle.graph_model.proofs.PrintedLaws.{printed_is_longest}
use Rattle.plan_model.proofs.ValueLaws.{values_are_listed}

-- the homes of the lives of some ports are for these ports
pub homes_are : (f : Port → Life) → ((x : Port) → ((f x).uid ≡ x.uid) × ((f x).channel ≡ x.channel)) → (ports : List Port) (homes : List Home)
    → AllZip (λ (x : Life) h. (h.uid ≡ x.uid) × (h.channel ≡ x.channel)) (map f ports) homes → ports_of homes ≡ ports
homes_are f same [] [] h = refl
homes_are f same [] (y ∷ homes) h = absurd h
homes_are f same (x ∷ ports) [] h = absurd h
homes_are f same (x ∷ ports) (y ∷ homes) h =
    let u = h.0.0 ∙ (same x).0 in
    let c = h.0.1 ∙ (same x).1 in
    let rest = homes_are f same ports homes h.1 in
    λ i. record { uid = u i; channel = c i } ∷ rest i

-- beside four rules that each version of the plan has of its own
pub parts_hold : (g : Graph) (parts : Parts) (lines arcs need bound : Type 0) → IsSound g
    → AreLiveNodes g (map (λ a. a.uid.0) parts.at) → IsAlignment g (position_in parts.at)
    → position_in parts.at (output_name g) ≡ latency_of_graph g → parts.latency ≡ latency_of_graph g → lines → parts.sum ≡ parts.total → IsPrintedPath g parts.path → arcs → need → bound
    → parts.total ≡ parts.bound → IsSchedule g parts.waves → AreValues g (ports_of parts.homes) → IsAssignment parts.lives parts.homes parts.channels
    → IsPeak parts.lives (length parts.waves) parts.channels parts.peak → AllHold (HoldsBy g parts lines arcs need bound)
parts_hold g parts lines arcs need bound sound nodes al at_end late ls summed printed units ns bs least schedule homes assignment peak = rules
  where
    way : IsPathTo g (output_name g) printed.0 × (latencies g printed.0 ≡ reach g (output_name g))
    way = printed_is_longest g (depth g) (sound_is_ranked g sound) (output_name g) printed.0 (output_is_node g sound) printed.1

    rules : AllHold (HoldsBy g parts lines arcs need bound)
    rules At = nodes
    rules Input = al.input
    rules Alignment = al.after
    rules Latency = at_end ∙ sym late
    rules Lines = ls
    rules Total = summed
    rules Path = (printed.0, way.0, printed.2)
    rules Longest = path_sum g parts.path (output_name g) printed.0 printed.2 ∙ way.1 ∙ sym late
    rules Arcs = units
    rules Need = ns
    rules Bound = bs
    rules Least = least
    rules Waves = schedule
    rules Homes = homes
    rules Channels = assignment
    rules Peak = peak

pub certified_of : PartsAreCertified
certified_of g plan sound a late printed schedule assignment peak =
    let ports = homes_are (λ x. life_of g plan.waves x.uid x.channel) (λ x. (refl, refl)) (values g) plan.homes assignment.values in
    parts_hold g (parts g plan) _ _ _ _ sound a.nodes a.best.alignment a.best.latency late a.lines
    (ap (λ ls. sum_by (λ (l : LineAt). l.delay) ls) a.lines ∙ sum_lines g (positions plan) 0 g.connections ∙ sym a.total) printed
    (subst (λ n. AreArcs g n plan.arcs) (sym late) a.listed) a.flow.needs (ap (λ n. flow_bound g n plan.arcs) late ∙ a.bound_is) (sym a.least) schedule
    (subst (AreValues g) (sym ports) (values_are_listed g))
    (subst (λ xs. IsAssignment (lives_of g plan.waves xs) plan.homes plan.channels) (sym ports) assignment)
    (subst (λ xs. IsPeak (lives_of g plan.waves xs) (length plan.waves) plan.channels plan.peak) (sym ports) peak)
