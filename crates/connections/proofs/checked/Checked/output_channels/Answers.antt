use Rattle.std.proofs.Common.{◌≡◌, ◌≤◌, ◌∙◌, sym, ap, Some, get_or}
use Rattle.std.specs.List.{position}
use Rattle.graph_model.specs.Graphs.{is_output}
use Rattle.graph_model.specs.Kinds.{ins_of}
use Rattle.graph_model.specs.Graphs.{out_channels}
use Rattle.connections.proofs.EndFacts.{output_there, outs_found}
use Rattle.connections.proofs.checked.Checked.output_channels.Goals as goal

pub unwrap-index-requires : goal.unwrap-index-requires
unwrap-index-requires c = rw c.output_index.ensures (rw c.graph-graph.ensures.same (output_there c.args.self.now c.graph-graph.ensures.sound))

found : (c : goal.After-ins) → let node = c.index-as_slice-index.result in
    (ins_of node.kind ≡ out_channels c.args.self.now) × (1 ≤ ins_of node.kind) × (ins_of node.kind ≤ 32)
found c =
    let node = c.index-as_slice-index.result in
    let same = c.graph-graph.ensures.same in
    let at : position (λ n. is_output n.kind) c.args.self.now.nodes ≡ Some c.unwrap-index.result =
    ap (λ h. position (λ n. is_output n.kind) h.nodes) (sym same) ∙ sym c.output_index.ensures ∙ c.unwrap-index.ensures in
    let is : node ≡ get_or c.args.self.now.nodes c.unwrap-index.result node =
    c.index-as_slice-index.is ∙ ap (λ ns. get_or ns c.unwrap-index.result node) (c.as_slice.ensures ∙ ap (λ h. h.nodes) same) in
    rw is (outs_found c.args.self.now c.graph-graph.ensures.sound c.unwrap-index.result node at)

pub returns-clause-channels : goal.returns-clause-channels
returns-clause-channels c = c.ins.ensures ∙ (found c).0

pub returns-clause-least : goal.returns-clause-least
returns-clause-least c = rw c.ins.ensures (found c).1

pub returns-clause-most : goal.returns-clause-most
returns-clause-most c = rw c.ins.ensures (found c).2
