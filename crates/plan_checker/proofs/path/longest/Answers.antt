use Rattle.std.proofs.Common.{ap, arith}
use Rattle.plan_model.specs.Rules.{path_latency}
use Rattle.plan_checker.proofs.PathFacts.{path_is_short}
use Rattle.plan_checker.proofs.path.longest.Goals as goal

pub overflow_cast-result : goal.overflow_cast-result
overflow_cast-result c =
    let same = ap (λ g. path_latency g c.args.path.now) c.graph.ensures.same in
    let short = path_is_short c.args.g.now c.args.path.now c.requires.sound c.requires.path in
    omega arith
