use Rattle.std.proofs.Common.{length, ap, arith}
use Rattle.std.proofs.lemmas.Option.{slice_get_within}
use Rattle.graph_model.specs.declared.graph.Graph.{Graph}
use Rattle.plan_model.specs.Alignments.{position_in}
use Rattle.plan_model.proofs.PlaceLaws.{alignment_by_entries}
use Rattle.plan_checker.proofs.positions.alignment.Goals as goal

pub returns-then-not-is_timely : goal.returns-then-not-is_timely
returns-then-not-is_timely c =
    let by = alignment_by_entries c.args.g.now (position_in c.args.at.now) in
    ((λ h. absurd (c.if-not-is_timely.ensures (by.1 h c.loop-k.k))), (c.loop-k.invariant, c.if-not-is_timely.ensures))

pub returns : goal.returns
returns c =
    let long = ap (λ (g : Graph). length g.connections) c.graph.ensures.same in
    (alignment_by_entries c.args.g.now (position_in c.args.at.now)).0
    (λ k d e. let within = slice_get_within c.args.g.now.connections k d e in c.loop-k.invariant k (omega arith) d e)
