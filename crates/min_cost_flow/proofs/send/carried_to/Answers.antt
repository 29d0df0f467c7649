use Rattle.std.proofs.Common.{◌<◌, ◌+◌, length, min, cond, slice_index, sym, ◌∙◌, ap, subst, arith}
use Rattle.std.proofs.lemmas.Option.{slice_get_within, get_or_from_slice_get}
use Rattle.min_cost_flow.specs.declared.network.Step.{Step}
use Rattle.shortest_paths.specs.declared.edges.Edge.{Edge}
use Rattle.min_cost_flow.proofs.SendFacts.{here, arc_within, tail_below}
use Rattle.min_cost_flow.proofs.CarryFacts.{IsCarrying, first_carrying, step_carrying, all_carried}
use Rattle.min_cost_flow.proofs.send.carried_to.Goals as goal

pub loop-init : goal.loop-init
loop-init c = let s = c.requires.walks in record { at = c.requires.to; carrying = first_carrying c.args.net.now s.0 c.args.flow.now c.args.walks.now.from c.args.to c.args.most c.args.walks.now.residual c.args.walks.now.search s.1 c.requires.linked c.requires.some }

pub index-requires : goal.index-requires
index-requires c =
    let s = c.requires.walks in
    let h = here c.args.net.now s.0 c.args.walks.now.from c.args.to c.args.walks.now.residual c.args.walks.now.search s.1 c.loop.at c.in-Some.k c.as_slice.result.now c.loop.invariant.at c.as_slice.ensures.value c.in-Some.is in
    let l = slice_get_within c.args.walks.now.residual.steps.items c.in-Some.k h.step h.step_there in
    let len = c.args.walks.now.residual.steps.ok.0 in
    omega (arith, l, len)

pub index-requires-in-loop : goal.index-requires-in-loop
index-requires-in-loop c =
    let s = c.requires.walks in
    let h = here c.args.net.now s.0 c.args.walks.now.from c.args.to c.args.walks.now.residual c.args.walks.now.search s.1 c.loop.at c.in-Some.k c.as_slice.result.now c.loop.invariant.at c.as_slice.ensures.value c.in-Some.is in
    let l = slice_get_within c.args.walks.now.residual.edges.items c.in-Some.k h.edge h.there in
    let len = c.args.walks.now.residual.edges.ok.0 in
    omega (arith, l, len)

pub carried-units-requires : goal.carried-units-requires
carried-units-requires c =
    let s = c.requires.walks in
    let h = here c.args.net.now s.0 c.args.walks.now.from c.args.to c.args.walks.now.residual c.args.walks.now.search s.1 c.loop.at c.in-Some.k c.as_slice.result.now c.loop.invariant.at c.as_slice.ensures.value c.in-Some.is in
    let same = c.index.ensures ∙ get_or_from_slice_get c.args.walks.now.residual.steps.items c.in-Some.k h.step c.index.result.now h.step_there in
    let l = arc_within c.args.net.now s.0 c.args.walks.now.from c.args.to c.args.walks.now.residual c.args.walks.now.search s.1 c.loop.at c.in-Some.k h in
    let many = c.requires.units in
    record { arc = subst (λ (x : Step). x.arc < length c.args.flow.now) (sym same) (omega (arith, l, many)) }

pub loop-preserved : goal.loop-preserved
loop-preserved c =
    let net = c.args.net.now in
    let s = c.requires.walks in
    let h = here net s.0 c.args.walks.now.from c.args.to c.args.walks.now.residual c.args.walks.now.search s.1 c.loop.at c.in-Some.k c.as_slice.result.now c.loop.invariant.at c.as_slice.ensures.value c.in-Some.is in
    let same = c.index.ensures ∙ get_or_from_slice_get c.args.walks.now.residual.steps.items c.in-Some.k h.step c.index.result.now h.step_there in
    let same_edge = c.index-in-loop.ensures ∙ get_or_from_slice_get c.args.walks.now.residual.edges.items c.in-Some.k h.edge c.index-in-loop.result.now h.there in
    let units = c.carried-units.ensures ∙ ap (λ (x : Step). cond x.back (min c.loop.units (slice_index c.args.flow.now x.arc)) c.loop.units) same in
    record {
      at = subst (λ (e : Edge). e.tail < net.points) (sym same_edge) (tail_below net s.0 c.args.walks.now.residual c.args.walks.now.search c.loop.at c.in-Some.k c.requires.network.ends h);
      carrying =
          subst (λ (e : Edge). IsCarrying net c.args.flow.now c.args.walks.now.residual c.args.walks.now.search c.args.walks.now.from c.args.to c.args.most c.carried-units.result e.tail (c.loop.counter + 1)) (sym same_edge)
          (subst (λ n. IsCarrying net c.args.flow.now c.args.walks.now.residual c.args.walks.now.search c.args.walks.now.from c.args.to c.args.most n h.edge.tail (c.loop.counter + 1)) (sym units)
          (step_carrying net s.0 c.args.flow.now c.args.walks.now.from c.args.to c.args.most c.args.walks.now.residual c.args.walks.now.search s.1 c.loop.units c.loop.at c.loop.counter c.in-Some.k c.loop.invariant.carrying h));
    }

pub returns-in_default-clause-some : goal.returns-in_default-clause-some
returns-in_default-clause-some c = c.loop.invariant.carrying.some

pub returns-in_default-clause-most : goal.returns-in_default-clause-most
returns-in_default-clause-most c = c.loop.invariant.carrying.few

pub returns-in_default-clause-room : goal.returns-in_default-clause-room
returns-in_default-clause-room c =
    let s = c.requires.walks in
    all_carried c.args.net.now s.0 c.args.flow.now c.args.walks.now.from c.args.to c.args.most c.args.walks.now.residual c.args.walks.now.search s.1 c.loop.units c.loop.at c.loop.counter
    c.as_slice.result.now c.loop.invariant.carrying c.loop.invariant.at c.as_slice.ensures.value c.in_default.is

pub returns-after-loop-clause-some : goal.returns-after-loop-clause-some
returns-after-loop-clause-some c = c.loop.invariant.carrying.some

pub returns-after-loop-clause-most : goal.returns-after-loop-clause-most
returns-after-loop-clause-most c = c.loop.invariant.carrying.few

pub returns-after-loop-clause-room : goal.returns-after-loop-clause-room
returns-after-loop-clause-room c =
    let left = c.loop.invariant.carrying.left.1 in
    let over = c.loop-test.false in
    let len = c.requires.walks.1.last_each in
    absurd (omega (arith, left, over, len))
