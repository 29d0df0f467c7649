-- What the calls of a compiler give for shared lines makes a certified plan, and all but its flow and its buffers is a
-- function of the graph, and of the waves or the mode.
use Rattle.std.proofs.Common.{◌≡◌, length, refl, sym, ap, subst, ◌∙◌}
use Rattle.std.specs.Prelude.{sum_by}
use Rattle.plan_model.specs.Alignments.{position_in}
use Rattle.plan_model.specs.Buffers.{IsAssignment}
use Rattle.plan_model.specs.Lives.{AreValues, values, ports_of}
use Rattle.plan_model.specs.Rules.{IsPeak}
use Rattle.plan_model.specs.SharedCertified.{ArePointArcs, shared_parts, SharedLatencyIsReach}
use Rattle.plan_model.specs.SharedFlows.{shared_bound}
use Rattle.plan_model.specs.SharedLines.{shared_lines, shared_total}
use Rattle.plan_model.specs.SharedLives.{shared_lives_of, shared_life_of}
use Rattle.plan_model.specs.SharedResults.{SharedAlignmentIsOne, PartsAreCertified2, PlanForIsOne, Plan2IsOne}
use Rattle.plan_model.specs.declared.rule.Rule.TheVariants.{At, Lines, Total, Least, Homes, Peak}
use Rattle.plan_model.specs.declared.shared.LineOf.{LineOf}
use Rattle.plan_model.proofs.MakeLaws.{homes_are, parts_hold}
use Rattle.plan_model.proofs.OneLaws.{places_once, printed_path_once, channels_once, peak_alike}
use Rattle.plan_model.proofs.ScheduleLaws.{schedule_once}
use Rattle.plan_model.proofs.SharedCertifiedLaws.{sum_shared, certified2_is_optimal}
use Rattle.plan_model.proofs.ShiftLaws.{reach_by}
use Rattle.plan_model.proofs.UniqueLaws.{values_are_unique}
use Rattle.plan_model.proofs.ValueLaws.{values_are_listed}

pub shared_latency_is_reach : SharedLatencyIsReach
shared_latency_is_reach g plan sound c = reach_by g (shared_parts g plan) _ _ _ _ sound c

pub shared_alignment_is_one : SharedAlignmentIsOne
shared_alignment_is_one g a b sound p q =
    let places : a.at ≡ b.at = places_once (shared_total g) g a.at b.at p.nodes q.nodes p.best q.best in (
      places,
      p.lines ∙ ap (λ xs. shared_lines g (position_in xs)) places ∙ sym q.lines,
      p.total ∙ ap (λ xs. shared_total g (position_in xs)) places ∙ sym q.total,
    )

pub parts_are_certified2 : PartsAreCertified2
parts_are_certified2 g plan sound a late printed schedule assignment peak =
    let ports = homes_are (shared_life_of g plan.waves plan.lines) (λ x. (refl, refl)) (values g) plan.homes assignment.values in
    parts_hold g (shared_parts g plan) _ _ _ _ sound a.nodes a.best.alignment a.best.latency late a.lines
    (ap (λ ls. sum_by (λ (l : LineOf). l.delay) ls) a.lines ∙ sum_shared g (position_in plan.at) ∙ sym a.total) printed
    (subst (λ n. ArePointArcs g n plan.arcs) (sym late) a.listed) a.flow.needs (ap (λ n. shared_bound g n plan.arcs) late ∙ a.bound_is) (sym a.least) schedule
    (subst (AreValues g) (sym ports) (values_are_listed g))
    (subst (λ xs. IsAssignment (shared_lives_of g plan.waves plan.lines xs) plan.homes plan.channels) (sym ports) assignment)
    (subst (λ xs. IsPeak (shared_lives_of g plan.waves plan.lines xs) (length plan.waves) plan.channels plan.peak) (sym ports) peak)

pub plan_for_is_one : PlanForIsOne
plan_for_is_one g waves a b sound p q =
    let places : a.at ≡ b.at = places_once (shared_total g) g a.at b.at (p.certified At) (q.certified At) p.best q.best in
    let delays : a.lines ≡ b.lines = p.certified Lines ∙ ap (λ xs. shared_lines g (position_in xs)) places ∙ sym (q.certified Lines) in
    let whole : a.total ≡ b.total = sym (p.certified Total) ∙ ap (λ ls. sum_by (λ (l : LineOf). l.delay) ls) delays ∙ q.certified Total in
    let schedule : a.waves ≡ b.waves = p.given ∙ sym q.given in
    let ports : ports_of a.homes ≡ ports_of b.homes = values_are_unique g (ports_of a.homes) (ports_of b.homes) (p.certified Homes) (q.certified Homes) in
    let lives : shared_lives_of g a.waves a.lines (ports_of a.homes) ≡ shared_lives_of g b.waves b.lines (ports_of b.homes) =
    ap (λ ws. shared_lives_of g ws a.lines (ports_of a.homes)) schedule ∙ ap (λ ls. shared_lives_of g b.waves ls (ports_of a.homes)) delays
    ∙ ap (shared_lives_of g b.waves b.lines) ports in
    let fewest : a.channels ≡ b.channels =
    channels_once (shared_total g) g (shared_parts g a) (shared_parts g b) lives (certified2_is_optimal g a sound p.certified)
    (certified2_is_optimal g b sound q.certified) in
    record {
      latency = shared_latency_is_reach g a sound p.certified ∙ sym (shared_latency_is_reach g b sound q.certified);
      path = printed_path_once g a.path b.path p.path q.path;
      at = places;
      lines = delays;
      total = whole;
      bound = sym (p.certified Least) ∙ whole ∙ q.certified Least;
      waves = schedule;
      values = ports;
      channels = fewest;
      peak = peak_alike (shared_parts g a) (shared_parts g b) schedule lives fewest (p.certified Peak) (q.certified Peak);
    }

pub plan2_is_one : Plan2IsOne
plan2_is_one g mode a b sound p q =
    plan_for_is_one g b.waves a b sound
    (record { certified = p.certified; best = p.best; path = p.path; given = schedule_once g sound mode a.waves b.waves p.schedule q.schedule })
    (record { certified = q.certified; best = q.best; path = q.path; given = refl })
