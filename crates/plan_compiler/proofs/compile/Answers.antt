use Rattle.std.proofs.Common.{sym, subst, ◌∙◌, ◌≤◌}
use Rattle.graph_model.specs.Graphs.{output_name}
use Rattle.graph_model.specs.Paths.{IsPrintedPath}
use Rattle.plan_model.specs.declared.plan.Plan.{Plan}
use Rattle.plan_model.proofs.MakeLaws.{certified_of}
use Rattle.plan_compiler.proofs.compile.Goals as goal

pub returns-clause-certified : goal.returns-clause-certified
returns-clause-certified c =
    let plan : Plan = record {
      latency = c.latency.result;
      path = c.in_ok-copy.field-0;
      at = c.in_ok-aligned.aligned.at;
      lines = c.in_ok-aligned.aligned.lines;
      total = c.in_ok-aligned.aligned.total;
      arcs = c.in_ok-aligned.aligned.arcs;
      bound = c.in_ok-aligned.aligned.bound;
      waves = c.in_ok-waves.waves;
      homes = c.in_ok-pool.pool.homes;
      channels = c.in_ok-pool.pool.channels;
      peak = c.in_ok-pool.pool.peak;
    } in
    let path : IsPrintedPath c.args.graph.now c.in_ok-copy.field-0 = subst (IsPrintedPath c.args.graph.now) (sym c.in_ok-copy.ensures) c.path.ensures in
    certified_of c.args.graph.now plan c.graph.ensures.sound c.in_ok-aligned.ensures.aligned c.latency.ensures.latency path
    c.in_ok-waves.ensures.schedule c.in_ok-pool.ensures.assignment c.in_ok-pool.ensures.peak

pub returns-clause-plan : goal.returns-clause-plan
returns-clause-plan c = record {
  certified = returns-clause-certified c;
  best = c.in_ok-aligned.ensures.aligned.best;
  path = subst (IsPrintedPath c.args.graph.now) (sym c.in_ok-copy.ensures) c.path.ensures;
  schedule = c.in_ok-waves.ensures.of_mode;
}

pub returns-clause-least_latency : goal.returns-clause-least_latency
returns-clause-least_latency c = λ q al.
    subst (λ n. n ≤ q (output_name c.args.graph.now)) (c.in_ok-aligned.ensures.aligned.best.latency ∙ sym c.latency.ensures.latency)
    (c.in_ok-aligned.ensures.least_latency q al)
