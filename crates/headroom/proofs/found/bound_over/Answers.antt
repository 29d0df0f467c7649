use Rattle.std.proofs.Common.{◌≡◌, ◌<◌, ◌≤◌, ◌^◌, ap, ◌∙◌, sym, arith, get_or, length, subst}
use Rattle.graph_model.specs.Bounds.{bounds, IsBounded}
use Rattle.headroom.proofs.FoundFacts.{source_channel, source_small, source_outs}
use Rattle.headroom.proofs.found.bound_over.Goals as goal

pub bounds-as_slice-connection : goal.bounds-as_slice-connection
bounds-as_slice-connection c =
    let within : c.index_of.result < length c.args.found.now = (let l = c.index_of.ensures.within in let n = c.requires.nodes in omega arith) in
    let at = c.requires.found c.index_of.result c.index_of.ensures.within c.index_of.ensures.name in
    let is = source_outs c.args.graph.now c.args.found.now c.index_of.result c.args.connection.now.src.0 within c.index_of.ensures.name at c.index-found-index_of.result _ c.index-found-index_of.is in
    let outs : c.as_slice.result.now ≡ (bounds c.args.graph.now c.args.connection.now.src.0).outs = c.as_slice.ensures ∙ ap (λ b. b.outs) is in
    let lt = source_channel c.args.graph.now c.requires.shaped c.args.connection.now c.requires.connection in
    subst (λ bs. c.args.connection.now.src_channel < length bs) (sym outs) lt

pub returns-clause-small : goal.returns-clause-small
returns-clause-small c =
    let within : c.index_of.result < length c.args.found.now = (let l = c.index_of.ensures.within in let n = c.requires.nodes in omega arith) in
    let at = c.requires.found c.index_of.result c.index_of.ensures.within c.index_of.ensures.name in
    let is = source_outs c.args.graph.now c.args.found.now c.index_of.result c.args.connection.now.src.0 within c.index_of.ensures.name at c.index-found-index_of.result _ c.index-found-index_of.is in
    let outs : c.as_slice.result.now ≡ (bounds c.args.graph.now c.args.connection.now.src.0).outs = c.as_slice.ensures ∙ ap (λ b. b.outs) is in
    let bounded = subst (λ v. IsBounded (bounds c.args.graph.now v)) c.index_of.ensures.name at.bounded in
    let small = source_small c.args.graph.now c.requires.shaped c.args.connection.now c.requires.connection bounded in
    subst (λ bs. get_or bs c.args.connection.now.src_channel 0 ≤ 2 ^ 46) (sym outs) small
