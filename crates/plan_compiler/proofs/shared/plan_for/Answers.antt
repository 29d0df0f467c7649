use Rattle.std.proofs.Common.{◌≤◌, refl, sym, ap, subst, ◌∙◌}
use Rattle.graph_model.specs.Graphs.{output_name}
use Rattle.graph_model.specs.Paths.{IsPrintedPath}
use Rattle.plan_model.specs.Alignments.{position_in}
use Rattle.plan_model.specs.SharedCertified.{IsCertified2}
use Rattle.plan_model.specs.SharedLines.{ports_of_lines}
use Rattle.plan_model.specs.declared.shared.Plan2.{Plan2}
use Rattle.plan_model.proofs.SharedCertifiedLaws.{lines_named}
use Rattle.plan_model.proofs.SharedOneLaws.{parts_are_certified2}
use Rattle.plan_compiler.proofs.shared.plan_for.Goals as goal

pub pooled-requires-clause-lines : goal.pooled-requires-clause-lines
pooled-requires-clause-lines c =
    ap ports_of_lines c.in_ok-aligned.ensures.aligned.lines ∙ lines_named c.args.graph.now (position_in c.in_ok-aligned.aligned.at)

pub returns-clause-plan : goal.returns-clause-plan
returns-clause-plan c =
    let plan : Plan2 = record {
      latency = c.latency.result;
      path = c.in_ok-copy.field-0;
      at = c.in_ok-aligned.aligned.at;
      lines = c.in_ok-aligned.aligned.lines;
      total = c.in_ok-aligned.aligned.total;
      arcs = c.in_ok-aligned.aligned.arcs;
      bound = c.in_ok-aligned.aligned.bound;
      waves = c.args.waves;
      homes = c.in_ok-pool.pool.homes;
      channels = c.in_ok-pool.pool.channels;
      peak = c.in_ok-pool.pool.peak;
    } in
    let path : IsPrintedPath c.args.graph.now c.in_ok-copy.field-0 = subst (IsPrintedPath c.args.graph.now) (sym c.in_ok-copy.ensures) c.path.ensures in
    let certified : IsCertified2 c.args.graph.now plan =
    parts_are_certified2 c.args.graph.now plan c.graph.ensures.sound c.in_ok-aligned.ensures.aligned c.latency.ensures.latency path
    c.requires.schedule c.in_ok-pool.ensures.assignment c.in_ok-pool.ensures.peak in
    record { certified = certified; best = c.in_ok-aligned.ensures.aligned.best; path = path; given = refl }

pub returns-clause-least_latency : goal.returns-clause-least_latency
returns-clause-least_latency c = λ q al.
    subst (λ n. n ≤ q (output_name c.args.graph.now)) (c.in_ok-aligned.ensures.aligned.best.latency ∙ sym c.latency.ensures.latency)
    (c.in_ok-aligned.ensures.least_latency q al)
