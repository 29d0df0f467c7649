use Rattle.std.proofs.Common.{◌≡◌, ◌<◌, ◌≤◌, ◌+◌, length, true, slice_index, slice_set, sym, ◌∙◌, ap, subst, arith}
use Rattle.std.proofs.lemmas.Option.{slice_get_within, get_or_from_slice_get}
use Rattle.min_cost_flow.specs.declared.network.Step.{Step}
use Rattle.shortest_paths.specs.declared.edges.Edge.{Edge}
use Rattle.min_cost_flow.specs.Residual.{after_step}
use Rattle.min_cost_flow.proofs.SendFacts.{IsSending, here, first_sending, step_within, step_has_units, step_sending, tail_below, sent_at_root}
use Rattle.min_cost_flow.specs.Search.{potential_of}
use Rattle.min_cost_flow.proofs.send.send.Goals as goal

pub loop-init : goal.loop-init
loop-init c = record { at = c.requires.to; sending = first_sending c.args.net.now c.requires.walks.0 c.args.walks.now.from c.args.to c.args.walks.now.residual c.args.walks.now.search c.requires.walks.1 c.args.flow.now c.carried_to-units.result c.requires.linked }

pub index-requires : goal.index-requires
index-requires c =
    let h = here c.args.net.now c.requires.walks.0 c.args.walks.now.from c.args.to c.args.walks.now.residual c.args.walks.now.search c.requires.walks.1 c.loop.at c.in-Some.k c.as_slice.result.now c.loop.invariant.at c.as_slice.ensures.value c.in-Some.is in
    let l = slice_get_within c.args.walks.now.residual.steps.items c.in-Some.k h.step h.step_there in
    let len = c.args.walks.now.residual.steps.ok.0 in
    omega (arith, l, len)

pub index-requires-in-loop : goal.index-requires-in-loop
index-requires-in-loop c =
    let h = here c.args.net.now c.requires.walks.0 c.args.walks.now.from c.args.to c.args.walks.now.residual c.args.walks.now.search c.requires.walks.1 c.loop.at c.in-Some.k c.as_slice.result.now c.loop.invariant.at c.as_slice.ensures.value c.in-Some.is in
    let l = slice_get_within c.args.walks.now.residual.edges.items c.in-Some.k h.edge h.there in
    let len = c.args.walks.now.residual.edges.ok.0 in
    omega (arith, l, len)

pub push-requires-clause-arc : goal.push-requires-clause-arc
push-requires-clause-arc c =
    let h = here c.args.net.now c.requires.walks.0 c.args.walks.now.from c.args.to c.args.walks.now.residual c.args.walks.now.search c.requires.walks.1 c.loop.at c.in-Some.k c.as_slice.result.now c.loop.invariant.at c.as_slice.ensures.value c.in-Some.is in
    let same = c.index.ensures ∙ get_or_from_slice_get c.args.walks.now.residual.steps.items c.in-Some.k h.step c.index.result.now h.step_there in
    subst (λ (s : Step). s.arc < length c.loop.flow) (sym same)
    (step_within c.args.net.now c.requires.walks.0 c.args.walks.now.from c.args.to c.args.walks.now.residual c.args.walks.now.search c.requires.walks.1 c.args.flow.now c.carried_to-units.result c.loop.flow c.loop.at c.loop.counter c.in-Some.k c.requires.units c.carried_to-units.ensures.room c.loop.invariant.sending h)

pub push-requires-clause-there : goal.push-requires-clause-there
push-requires-clause-there c =
    let h = here c.args.net.now c.requires.walks.0 c.args.walks.now.from c.args.to c.args.walks.now.residual c.args.walks.now.search c.requires.walks.1 c.loop.at c.in-Some.k c.as_slice.result.now c.loop.invariant.at c.as_slice.ensures.value c.in-Some.is in
    let same = c.index.ensures ∙ get_or_from_slice_get c.args.walks.now.residual.steps.items c.in-Some.k h.step c.index.result.now h.step_there in
    subst (λ (s : Step). s.back ≡ true → c.carried_to-units.result ≤ slice_index c.loop.flow s.arc) (sym same)
    (step_has_units c.args.net.now c.requires.walks.0 c.args.walks.now.from c.args.to c.args.walks.now.residual c.args.walks.now.search c.requires.walks.1 c.args.flow.now c.carried_to-units.result c.loop.flow c.loop.at c.loop.counter c.in-Some.k c.requires.units c.carried_to-units.ensures.room c.loop.invariant.sending h)

pub loop-preserved : goal.loop-preserved
loop-preserved c =
    let net = c.args.net.now in
    let units = c.carried_to-units.result in
    let search = c.requires.walks.1 in
    let h = here net c.requires.walks.0 c.args.walks.now.from c.args.to c.args.walks.now.residual c.args.walks.now.search search c.loop.at c.in-Some.k c.as_slice.result.now c.loop.invariant.at c.as_slice.ensures.value c.in-Some.is in
    let same = c.index.ensures ∙ get_or_from_slice_get c.args.walks.now.residual.steps.items c.in-Some.k h.step c.index.result.now h.step_there in
    let same_edge = c.index-in-loop.ensures ∙ get_or_from_slice_get c.args.walks.now.residual.edges.items c.in-Some.k h.edge c.index-in-loop.result.now h.there in
    let next = step_sending net c.requires.walks.0 c.args.walks.now.from c.args.to c.args.walks.now.residual c.args.walks.now.search search c.args.flow.now units c.loop.flow c.loop.at c.loop.counter c.in-Some.k c.requires.units c.carried_to-units.ensures.room c.loop.invariant.sending h in
    record {
      at = subst (λ (e : Edge). e.tail < net.points) (sym same_edge) (tail_below net c.requires.walks.0 c.args.walks.now.residual c.args.walks.now.search c.loop.at c.in-Some.k c.requires.network.ends h);
      sending =
          subst (λ (e : Edge). IsSending net.arcs c.args.flow.now c.args.walks.now.residual.edges.items c.args.walks.now.search.last.items c.args.walks.now.from c.args.to units c.push.new.flow e.tail (c.loop.counter + 1)) (sym same_edge)
          (subst (λ x. IsSending net.arcs c.args.flow.now c.args.walks.now.residual.edges.items c.args.walks.now.search.last.items c.args.walks.now.from c.args.to units x h.edge.tail (c.loop.counter + 1))
          (sym (c.push.ensures ∙ ap (λ (s : Step). slice_set c.loop.flow s.arc (after_step c.loop.flow units s)) same)) next);
    }

pub returns-in_default-clause-sent : goal.returns-in_default-clause-sent
returns-in_default-clause-sent c =
    sent_at_root c.args.net.now c.requires.walks.0 c.args.flow.now c.args.walks.now.from c.args.to c.carried_to-units.result c.args.walks.now.residual c.args.walks.now.search c.loop.flow c.loop.at c.loop.counter
    c.as_slice.result.now c.requires.walks.1 c.loop.invariant.sending c.loop.invariant.at c.as_slice.ensures.value c.in_default.is

pub returns-in_default-clause-tight : goal.returns-in_default-clause-tight
returns-in_default-clause-tight c = c.loop.invariant.sending.tight (potential_of c.args.walks.now.search.numbers.items) c.requires.tight c.requires.walks.1.tree_tight

pub returns-in_default-clause-bound : goal.returns-in_default-clause-bound
returns-in_default-clause-bound c = c.loop.invariant.sending.bound

pub returns-after-loop-clause-sent : goal.returns-after-loop-clause-sent
returns-after-loop-clause-sent c =
    let left = c.loop.invariant.sending.left.1 in
    let over = c.loop-test.false in
    let len = c.requires.walks.1.last_each in
    absurd (omega (arith, left, over, len))

pub returns-after-loop-clause-tight : goal.returns-after-loop-clause-tight
returns-after-loop-clause-tight c = c.loop.invariant.sending.tight (potential_of c.args.walks.now.search.numbers.items) c.requires.tight c.requires.walks.1.tree_tight

pub returns-after-loop-clause-bound : goal.returns-after-loop-clause-bound
returns-after-loop-clause-bound c = c.loop.invariant.sending.bound
