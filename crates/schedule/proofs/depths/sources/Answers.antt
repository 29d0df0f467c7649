use Rattle.std.proofs.Common.{◌≡◌, ◌∙◌, ap, length, subst}
use Rattle.graph_model.specs.declared.graph.Graph.{Graph}
use Rattle.schedule.specs.Groups.{AreGroups}
use Rattle.schedule.proofs.DepthFacts.{are_sources}
use Rattle.schedule.proofs.depths.sources.Goals as goal

pub returns : goal.returns
returns c =
    let count : c.len.result ≡ length c.args.graph.now.nodes = c.len.ensures ∙ ap (λ (h : Graph). length h.nodes) c.graph.ensures.same in
    are_sources c.args.graph.now c.graph.ensures.sound c.in_ok-joints.joints.items c.in_ok-sources.sources.items c.in_ok-joints.ensures
    (subst (λ n. AreGroups n c.in_ok-joints.joints.items c.in_ok-sources.sources.items) count
    (subst (λ es. AreGroups c.len.result es c.in_ok-sources.sources.items) c.deref.ensures.value c.in_ok-sources.ensures))
