use Rattle.std.proofs.Common.{◌∙◌, ap, subst}
use Rattle.graph_model.specs.Paths.{reach}
use Rattle.graph_model.specs.Sound.{IsSound}
use Rattle.connections.proofs.LatencyFacts.{few_frames_late}
use Rattle.connections.proofs.NodeFacts.{kept_at}
use Rattle.connections.proofs.checked.Checked.latency.Goals as goal

pub returns-clause-latency : goal.returns-clause-latency
returns-clause-latency c =
    kept_at reach c.args.self.now c.self.inside.graph c.as_slice.result.now c.output.result 0 c.self.view_is c.output.ensures.within (c.as_slice.ensures ∙ c.self.invariant.reach.at)
    ∙ ap (reach c.args.self.now) c.output.ensures.name

pub returns-clause-small : goal.returns-clause-small
returns-clause-small c = rw (returns-clause-latency c) (few_frames_late c.args.self.now (subst IsSound c.self.view_is c.self.invariant.sound))
