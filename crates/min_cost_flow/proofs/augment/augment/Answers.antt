use Rattle.std.proofs.Common.{sym, subst}
use Rattle.shortest_paths.specs.Nearest.{IsLinked}
use Rattle.min_cost_flow.proofs.augment.augment.Goals as goal

pub returns-else-is_reached-clause-fewer : goal.returns-else-is_reached-clause-fewer
returns-else-is_reached-clause-fewer c searched below above linked = absurd (let yes = c.is_reached.ensures.1 (subst (λ x. IsLinked x c.args.to) (sym c.deref.ensures.value) linked) in let no = c.if-is_reached.false in cc)
