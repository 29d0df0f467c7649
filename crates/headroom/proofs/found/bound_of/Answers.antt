use Rattle.std.proofs.Common.{ap, ◌∙◌, sym, length, map}
use Rattle.graph_model.specs.Graphs.{or_zero}
use Rattle.graph_model.specs.Kinds.{ins_of}
use Rattle.graph_model.specs.Bounds.{out_bounds}
use Rattle.headroom.specs.Loud.{kept}
use Rattle.graph_model.proofs.BoundFacts.{length-ins, outs_are}
use Rattle.headroom.proofs.FoundFacts.{range_of}
use Rattle.headroom.proofs.found.bound_of.Goals as goal

pub outputs_of-requires-clause-range : goal.outputs_of-requires-clause-range
outputs_of-requires-clause-range c = range_of c.args.graph.now c.requires.shaped c.args.node.now c.requires.node

pub outputs_of-requires-clause-ins : goal.outputs_of-requires-clause-ins
outputs_of-requires-clause-ins c =
    ap length (c.as_slice.ensures ∙ c.in_ok-ins.ensures) ∙ length-ins c.args.graph.now c.args.node.now.uid.0 ∙ ap (or_zero ins_of) c.requires.node

pub returns : goal.returns
returns c =
    let outs = c.in_ok-outs.ensures ∙ ap (λ bs. map kept (out_bounds c.args.node.now.kind bs)) (c.as_slice.ensures ∙ c.in_ok-ins.ensures)
    ∙ sym (ap (map kept) (outs_are c.args.graph.now c.requires.shaped c.args.node.now.uid.0 c.args.node.now c.requires.node)) in
    λ i. record { ins = c.in_ok-ins.ensures i; outs = outs i }
