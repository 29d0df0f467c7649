use Rattle.std.proofs.Common.{ℕ, get_or, ap, ◌∙◌, sym, subst, length, arith}
use Rattle.graph_model.specs.Bounds.{bounds, IsBounded}
use Rattle.graph_model.specs.declared.graph.Bound.{Bound}
use Rattle.graph_model.specs.declared.graph.Uid.{Uid}
use Rattle.graph_model.specs.Named.{uid_at}
use Rattle.headroom.specs.Found.{kept_bound, AreSourcesFound}
use Rattle.headroom.specs.Loud.{IsFirstOf}
use Rattle.headroom.proofs.LoudFacts.{kept_bounded}
use Rattle.headroom.proofs.FoundFacts.{AreFound, named, node_at, uid_of, named_at, few_ins, few_outs, sources_found, found_more, all_found, first_loud}
use Rattle.headroom.proofs.found.found_or_loud.Goals as goal

pub bound_of-requires-clause-node : goal.bound_of-requires-clause-node
bound_of-requires-clause-node c =
    let g = c.args.graph.now in
    let i : ℕ = get_or c.args.order.now c.loop-k.k 0 in
    let inside = c.requires.order.indexes c.loop-k.k 0 c.loop-k-test.true in
    named_at g (named g c.requires.fits c.requires.shaped) i c.index-nodes-index.result inside
    (node_at g c.as_slice-nodes.result.now i c.index-nodes-index.result c.as_slice-nodes.ensures inside c.index-nodes-index.is)

pub bound_of-requires-clause-sources : goal.bound_of-requires-clause-sources
bound_of-requires-clause-sources c =
    let g = c.args.graph.now in
    let i : ℕ = get_or c.args.order.now c.loop-k.k 0 in
    let inside = c.requires.order.indexes c.loop-k.k 0 c.loop-k-test.true in
    let is = node_at g c.as_slice-nodes.result.now i c.index-nodes-index.result c.as_slice-nodes.ensures inside c.index-nodes-index.is in
    let name = sym (uid_of g i c.index-nodes-index.result inside is) in
    let sources = sources_found g c.requires.fits c.requires.shaped c.args.order.now c.requires.order c.loop-k.k c.loop-k.found.items c.loop-k-test.true c.loop-k.invariant in
    let named : AreSourcesFound c.args.graph.now c.loop-k.found.items c.index-nodes-index.result.uid.0 = subst (λ v. AreSourcesFound c.args.graph.now c.loop-k.found.items v) name sources in
    subst (λ bs. AreSourcesFound c.args.graph.now bs c.index-nodes-index.result.uid.0) (sym c.deref.ensures.value) named

pub too_loud-requires-clause-ins : goal.too_loud-requires-clause-ins
too_loud-requires-clause-ins c =
    let g = c.args.graph.now in
    let i : ℕ = get_or c.args.order.now c.loop-k.k 0 in
    let inside = c.requires.order.indexes c.loop-k.k 0 c.loop-k-test.true in
    let node = named_at g (named g c.requires.fits c.requires.shaped) i c.index-nodes-index.result inside
    (node_at g c.as_slice-nodes.result.now i c.index-nodes-index.result c.as_slice-nodes.ensures inside c.index-nodes-index.is) in
    let few = few_ins g c.requires.shaped c.index-nodes-index.result node in
    let same = ap (λ (b : Bound). length b.ins) c.in_ok-bound.ensures in
    omega arith

pub too_loud-requires-clause-outs : goal.too_loud-requires-clause-outs
too_loud-requires-clause-outs c =
    let g = c.args.graph.now in
    let i : ℕ = get_or c.args.order.now c.loop-k.k 0 in
    let inside = c.requires.order.indexes c.loop-k.k 0 c.loop-k-test.true in
    let node = named_at g (named g c.requires.fits c.requires.shaped) i c.index-nodes-index.result inside
    (node_at g c.as_slice-nodes.result.now i c.index-nodes-index.result c.as_slice-nodes.ensures inside c.index-nodes-index.is) in
    let few = few_outs g c.requires.shaped c.index-nodes-index.result node in
    let same = ap (λ (b : Bound). length b.outs) c.in_ok-bound.ensures in
    omega arith

pub returns-in-Some : goal.returns-in-Some
returns-in-Some c =
    let g = c.args.graph.now in
    let i : ℕ = get_or c.args.order.now c.loop-k.k 0 in
    let inside = c.requires.order.indexes c.loop-k.k 0 c.loop-k-test.true in
    let is = node_at g c.as_slice-nodes.result.now i c.index-nodes-index.result c.as_slice-nodes.ensures inside c.index-nodes-index.is in
    let name = uid_of g i c.index-nodes-index.result inside is in
    let same = c.in_ok-bound.ensures ∙ ap (λ v. kept_bound (bounds c.args.graph.now v)) name in
    first_loud g c.requires.fits c.requires.shaped c.args.order.now c.requires.order c.loop-k.k c.loop-k.found.items c.in-Some.loud c.loop-k-test.true c.loop-k.invariant
    (ap (λ (u : Uid). u.0) c.in-Some.ensures.0 ∙ name)
    (subst (λ b. IsFirstOf b c.in-Some.loud.side c.in-Some.loud.channel c.in-Some.loud.bound) same c.in-Some.ensures.1)

pub loop-k-preserved : goal.loop-k-preserved
loop-k-preserved c =
    let g = c.args.graph.now in
    let i : ℕ = get_or c.args.order.now c.loop-k.k 0 in
    let inside = c.requires.order.indexes c.loop-k.k 0 c.loop-k-test.true in
    let is = node_at g c.as_slice-nodes.result.now i c.index-nodes-index.result c.as_slice-nodes.ensures inside c.index-nodes-index.is in
    let same = c.in_ok-bound.ensures ∙ ap (λ v. kept_bound (bounds c.args.graph.now v)) (uid_of g i c.index-nodes-index.result inside is) in
    let bounded = kept_bounded (bounds c.args.graph.now (uid_at c.args.graph.now i)) (subst IsBounded same c.in_default.ensures) in
    found_more g c.requires.fits c.requires.shaped c.args.order.now c.requires.order c.loop-k.k c.loop-k.found.items c.in_ok-bound.bound c.loop-k-test.true c.loop-k.invariant (same ∙ bounded.1) bounded.0

pub returns : goal.returns
returns c =
    let inv = c.loop-k.invariant in
    let all : AreFound c.args.graph.now c.args.order.now (length c.args.order.now) c.loop-k.found.items
    = record { count = inv.count; done = λ j lt. inv.done j (let past = c.loop-k-test.false in omega arith) } in
    all_found c.args.graph.now c.requires.fits c.requires.shaped c.args.order.now c.requires.order c.loop-k.found.items all
