use Rattle.std.proofs.Common.{◌≡◌, ◌≤◌, ◌∙◌, sym, ap, Some, get_or}
use Rattle.std.specs.List.{position}
use Rattle.graph_model.specs.Graphs.{is_input}
use Rattle.graph_model.specs.Kinds.{outs_of}
use Rattle.graph_model.specs.Graphs.{in_channels}
use Rattle.connections.proofs.EndFacts.{input_there, ins_found}
use Rattle.connections.proofs.checked.Checked.input_channels.Goals as goal

pub unwrap-index-requires : goal.unwrap-index-requires
unwrap-index-requires c = rw c.input_index.ensures (rw c.graph-graph.ensures.same (input_there c.args.self.now c.graph-graph.ensures.sound))

found : (c : goal.After-outs) → let node = c.index-as_slice-index.result in
    (outs_of node.kind ≡ in_channels c.args.self.now) × (1 ≤ outs_of node.kind) × (outs_of node.kind ≤ 32)
found c =
    let node = c.index-as_slice-index.result in
    let same = c.graph-graph.ensures.same in
    let at : position (λ n. is_input n.kind) c.args.self.now.nodes ≡ Some c.unwrap-index.result =
    ap (λ h. position (λ n. is_input n.kind) h.nodes) (sym same) ∙ sym c.input_index.ensures ∙ c.unwrap-index.ensures in
    let is : node ≡ get_or c.args.self.now.nodes c.unwrap-index.result node =
    c.index-as_slice-index.is ∙ ap (λ ns. get_or ns c.unwrap-index.result node) (c.as_slice.ensures ∙ ap (λ h. h.nodes) same) in
    rw is (ins_found c.args.self.now c.graph-graph.ensures.sound c.unwrap-index.result node at)

pub returns-clause-channels : goal.returns-clause-channels
returns-clause-channels c = c.outs.ensures ∙ (found c).0

pub returns-clause-least : goal.returns-clause-least
returns-clause-least c = rw c.outs.ensures (found c).1

pub returns-clause-most : goal.returns-clause-most
returns-clause-most c = rw c.outs.ensures (found c).2
