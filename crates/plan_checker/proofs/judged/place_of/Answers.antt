use Rattle.std.proofs.Common.{◌≡◌, sym, subst, map, arith}
use Rattle.graph_model.specs.Graphs.{input_name}
use Rattle.graph_model.specs.Paths.{IsLive}
use Rattle.plan_model.specs.Alignments.{position_in}
use Rattle.plan_model.specs.Certified.{Holds}
use Rattle.plan_model.specs.Places.{IsFirstBad, IsPlace, IsStep}
use Rattle.plan_model.specs.Rules.{IsPathOut}
use Rattle.plan_model.specs.declared.rule.Rule.TheVariants.{Path, Longest, Arcs, Waves, Homes}
use Rattle.plan_checker.specs.Answers.{Judges, HoldBefore}
use Rattle.plan_checker.proofs.judged.place_of.Goals as goal

pub longest-requires-clause-path : goal.longest-requires-clause-path
longest-requires-clause-path c =
    subst (IsPathOut c.args.g.now) (sym c.as_slice-in-Longest.ensures) (subst (HoldBefore c.args.g.now c.args.plan.now) c.in-Longest.is c.requires.before Path (omega arith))

pub judge_arcs-requires-clause-path : goal.judge_arcs-requires-clause-path
judge_arcs-requires-clause-path c = subst (HoldBefore c.args.g.now c.args.plan.now) c.in-Arcs.is c.requires.before Path (omega arith)

pub judge_arcs-requires-clause-longest : goal.judge_arcs-requires-clause-longest
judge_arcs-requires-clause-longest c = subst (HoldBefore c.args.g.now c.args.plan.now) c.in-Arcs.is c.requires.before Longest (omega arith)

pub judge_bound-requires-clause-path : goal.judge_bound-requires-clause-path
judge_bound-requires-clause-path c = subst (HoldBefore c.args.g.now c.args.plan.now) c.in-Bound.is c.requires.before Path (omega arith)

pub judge_bound-requires-clause-longest : goal.judge_bound-requires-clause-longest
judge_bound-requires-clause-longest c = subst (HoldBefore c.args.g.now c.args.plan.now) c.in-Bound.is c.requires.before Longest (omega arith)

pub judge_bound-requires-clause-arcs : goal.judge_bound-requires-clause-arcs
judge_bound-requires-clause-arcs c = subst (HoldBefore c.args.g.now c.args.plan.now) c.in-Bound.is c.requires.before Arcs (omega arith)

pub judge_homes-requires : goal.judge_homes-requires
judge_homes-requires c = subst (HoldBefore c.args.g.now c.args.plan.now) c.in-Homes.is c.requires.before Waves (omega arith)

pub judge_channels-requires-clause-waves : goal.judge_channels-requires-clause-waves
judge_channels-requires-clause-waves c = subst (HoldBefore c.args.g.now c.args.plan.now) c.in-Channels.is c.requires.before Waves (omega arith)

pub judge_channels-requires-clause-homes : goal.judge_channels-requires-clause-homes
judge_channels-requires-clause-homes c = subst (HoldBefore c.args.g.now c.args.plan.now) c.in-Channels.is c.requires.before Homes (omega arith)

pub judge_peak-requires-clause-waves : goal.judge_peak-requires-clause-waves
judge_peak-requires-clause-waves c = subst (HoldBefore c.args.g.now c.args.plan.now) c.in-Peak.is c.requires.before Waves (omega arith)

pub judge_peak-requires-clause-homes : goal.judge_peak-requires-clause-homes
judge_peak-requires-clause-homes c = subst (HoldBefore c.args.g.now c.args.plan.now) c.in-Peak.is c.requires.before Homes (omega arith)

pub returns-in-Input : goal.returns-in-Input
returns-in-Input c =
    let g = c.args.g.now in
    subst (λ r. Judges c.input.result (Holds g c.args.plan.now r) (IsPlace g c.args.plan.now r)) (sym c.in-Input.is)
    (subst (λ xs. Judges c.input.result (IsLive g (input_name g) → position_in xs (input_name g) ≡ 0) (λ place. place ≡ position_in xs (input_name g))) c.as_slice.ensures c.input.ensures)

pub returns-in-Path : goal.returns-in-Path
returns-in-Path c =
    let g = c.args.g.now in
    subst (λ r. Judges c.path.result (Holds g c.args.plan.now r) (IsPlace g c.args.plan.now r)) (sym c.in-Path.is)
    (subst (λ us. Judges c.path.result (IsPathOut g us) (IsFirstBad (IsStep g (map (λ u. u.0) us)))) c.as_slice-in-Path.ensures c.path.ensures)
