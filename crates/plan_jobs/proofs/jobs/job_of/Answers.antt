use Rattle.std.proofs.Common.{◌≡◌, length, ◌<◌, ◌≤◌, ◌^◌, true, List, map, get_or, refl, sym, ◌∙◌, ap, subst}
use Rattle.std.specs.Prelude.{is_some}
use Rattle.graph_model.specs.Answers.{delay}
use Rattle.graph_model.specs.Bounds.{bounds}
use Rattle.graph_model.specs.Graphs.{node_named}
use Rattle.graph_model.specs.Paths.{is_live}
use Rattle.graph_model.specs.Sound.{IsSound}
use Rattle.graph_model.specs.declared.graph.Bound.{Bound}
use Rattle.graph_model.specs.declared.graph.Graph.{Graph}
use Rattle.graph_model.specs.declared.graph.Node.{Node}
use Rattle.plan_model.specs.Alignments.{IsAfter, position_in}
use Rattle.plan_model.specs.Certified.{IsCertified}
use Rattle.plan_model.specs.declared.alignment.At.{At}
use Rattle.plan_model.specs.declared.buffers.Home.{Home as PlanHome}
use Rattle.graph_model.specs.Named.{uid_at}
use Rattle.graph_model.specs.Kernels.{IsBoundOf}
use Rattle.engine_model.specs.Machines.{homes_at}
use Rattle.pool_waves.specs.declared.job.Home.{Home}
use Rattle.plan_jobs.specs.Jobs.{core_home, IsNewPlayer}
use Rattle.plan_jobs.proofs.NodeFacts as nodes
use Rattle.plan_jobs.proofs.JobFacts.{is_at, has_node}
use Rattle.plan_jobs.proofs.jobs.job_of.Goals as goal

pub unwrap-index-requires : goal.unwrap-index-requires
unwrap-index-requires c =
    let same = sym c.graph-graph.ensures.same in
    ap is_some c.index_of.ensures
    ∙ has_node c.graph-graph.result.now (subst (λ (h : Graph). IsSound h) same c.graph-graph.ensures.sound) c.args.uid.0
    (subst (λ (h : Graph). is_live h c.args.uid.0 ≡ true) same c.requires.live)

pub player_of-requires-clause-named : goal.player_of-requires-clause-named
player_of-requires-clause-named c =
    let a = is_at c.graph-graph.result.now (subst (λ (h : Graph). IsSound h) (sym c.graph-graph.ensures.same) c.graph-graph.ensures.sound) c.args.uid.0 c.unwrap-index.result c.index-as_slice-index.result
    (sym c.index_of.ensures ∙ c.unwrap-index.ensures) (c.index-as_slice-index.is ∙ ap (λ (xs : List Node). get_or xs c.unwrap-index.result c.index-as_slice-index.result) c.as_slice.ensures) in
    ap (node_named c.graph-graph.result.now) a.name ∙ a.named

pub player_of-requires-clause-bound : goal.player_of-requires-clause-bound
player_of-requires-clause-bound c = λ i o.
    let same = sym c.graph-graph.ensures.same in
    let sound = subst (λ (h : Graph). IsSound h) (sym c.graph-graph.ensures.same) c.graph-graph.ensures.sound in
    let certified = subst (λ (h : Graph). IsCertified h c.args.plan.now) (sym c.graph-graph.ensures.same) c.requires.certified in
    let a = is_at c.graph-graph.result.now (subst (λ (h : Graph). IsSound h) (sym c.graph-graph.ensures.same) c.graph-graph.ensures.sound) c.args.uid.0 c.unwrap-index.result c.index-as_slice-index.result
    (sym c.index_of.ensures ∙ c.unwrap-index.ensures) (c.index-as_slice-index.is ∙ ap (λ (xs : List Node). get_or xs c.unwrap-index.result c.index-as_slice-index.result) c.as_slice.ensures) in
    let e : c.bound.result.now ≡ bounds c.graph-graph.result.now c.args.uid.0 =
    c.bound.ensures ∙ ap (λ (h : Graph). bounds h (uid_at h c.unwrap-index.result)) (sym c.graph-graph.ensures.same) ∙ ap (λ v. bounds c.graph-graph.result.now v) a.at in
    subst (λ (b : Bound). IsBoundOf c.index-as_slice-index.result.kind b) (sym e)
    (nodes.bound c.graph-graph.result.now c.args.plan.now sound certified c.args.uid.0 c.index-as_slice-index.result a.named)

pub player_of-requires-clause-after : goal.player_of-requires-clause-after
player_of-requires-clause-after c = λ k d lt at.
    let sound = subst (λ (h : Graph). IsSound h) (sym c.graph-graph.ensures.same) c.graph-graph.ensures.sound in
    let certified = subst (λ (h : Graph). IsCertified h c.args.plan.now) (sym c.graph-graph.ensures.same) c.requires.certified in
    let a = is_at c.graph-graph.result.now (subst (λ (h : Graph). IsSound h) (sym c.graph-graph.ensures.same) c.graph-graph.ensures.sound) c.args.uid.0 c.unwrap-index.result c.index-as_slice-index.result
    (sym c.index_of.ensures ∙ c.unwrap-index.ensures) (c.index-as_slice-index.is ∙ ap (λ (xs : List Node). get_or xs c.unwrap-index.result c.index-as_slice-index.result) c.as_slice.ensures) in
    subst (λ (ats : List At). IsAfter c.graph-graph.result.now (position_in ats) (get_or c.graph-graph.result.now.connections k d) × (delay c.graph-graph.result.now (position_in ats) (get_or c.graph-graph.result.now.connections k d) ≤ 2 ^ 26)) (sym c.as_slice-2.ensures)
    (nodes.after c.graph-graph.result.now c.args.plan.now sound certified c.args.uid.0 c.index-as_slice-index.result a.named (subst (λ (h : Graph). is_live h c.args.uid.0 ≡ true) (sym c.graph-graph.ensures.same) c.requires.live) k d lt (at ∙ a.name))

pub player_of-requires-clause-channels : goal.player_of-requires-clause-channels
player_of-requires-clause-channels c = λ k d lt at.
    let sound = subst (λ (h : Graph). IsSound h) (sym c.graph-graph.ensures.same) c.graph-graph.ensures.sound in
    let certified = subst (λ (h : Graph). IsCertified h c.args.plan.now) (sym c.graph-graph.ensures.same) c.requires.certified in
    let a = is_at c.graph-graph.result.now (subst (λ (h : Graph). IsSound h) (sym c.graph-graph.ensures.same) c.graph-graph.ensures.sound) c.args.uid.0 c.unwrap-index.result c.index-as_slice-index.result
    (sym c.index_of.ensures ∙ c.unwrap-index.ensures) (c.index-as_slice-index.is ∙ ap (λ (xs : List Node). get_or xs c.unwrap-index.result c.index-as_slice-index.result) c.as_slice.ensures) in
    nodes.channels c.graph-graph.result.now c.args.plan.now sound certified c.args.uid.0 c.index-as_slice-index.result a.named k d lt (at ∙ a.name)

pub player_of-requires-clause-own : goal.player_of-requires-clause-own
player_of-requires-clause-own c =
    let a = is_at c.graph-graph.result.now (subst (λ (h : Graph). IsSound h) (sym c.graph-graph.ensures.same) c.graph-graph.ensures.sound) c.args.uid.0 c.unwrap-index.result c.index-as_slice-index.result
    (sym c.index_of.ensures ∙ c.unwrap-index.ensures) (c.index-as_slice-index.is ∙ ap (λ (xs : List Node). get_or xs c.unwrap-index.result c.index-as_slice-index.result) c.as_slice.ensures) in
    ap (map (λ (h : Home). core_home h)) c.as_slice-4.ensures.value ∙ c.in_ok-desk.ensures.homes ∙ ap (λ (hs : List PlanHome). homes_at hs c.args.uid.0) (sym c.as_slice-3.ensures) ∙ ap (λ v. homes_at c.as_slice-3.result.now v) (sym a.name)

pub returns : goal.returns
returns c =
    let a = is_at c.graph-graph.result.now (subst (λ (h : Graph). IsSound h) (sym c.graph-graph.ensures.same) c.graph-graph.ensures.sound) c.args.uid.0 c.unwrap-index.result c.index-as_slice-index.result
    (sym c.index_of.ensures ∙ c.unwrap-index.ensures) (c.index-as_slice-index.is ∙ ap (λ (xs : List Node). get_or xs c.unwrap-index.result c.index-as_slice-index.result) c.as_slice.ensures) in
    record {
      node = refl;
      index = (subst (λ (h : Graph). c.unwrap-index.result < length h.nodes) c.graph-graph.ensures.same a.within, subst (λ (h : Graph). uid_at h c.unwrap-index.result ≡ c.args.uid.0) c.graph-graph.ensures.same a.at);
      places = c.in_ok-desk.ensures.places;
      player =
          subst (λ (own : List Home). IsNewPlayer c.args.checked.now (position_in c.args.plan.now.at) c.args.plan.now.homes c.args.uid.0 own c.in_ok-part.part) c.as_slice-4.ensures.value
          (subst (λ v. IsNewPlayer c.args.checked.now (position_in c.args.plan.now.at) c.args.plan.now.homes v c.as_slice-4.result.now c.in_ok-part.part) a.name
          (subst (λ (hs : List PlanHome). IsNewPlayer c.args.checked.now (position_in c.args.plan.now.at) hs c.index-as_slice-index.result.uid.0 c.as_slice-4.result.now c.in_ok-part.part) c.as_slice-3.ensures
          (subst (λ (ats : List At). IsNewPlayer c.args.checked.now (position_in ats) c.as_slice-3.result.now c.index-as_slice-index.result.uid.0 c.as_slice-4.result.now c.in_ok-part.part) c.as_slice-2.ensures
          (subst (λ (h : Graph). IsNewPlayer h (position_in c.as_slice-2.result.now) c.as_slice-3.result.now c.index-as_slice-index.result.uid.0 c.as_slice-4.result.now c.in_ok-part.part) c.graph-graph.ensures.same c.in_ok-part.ensures))));
    }
