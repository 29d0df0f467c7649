use Rattle.std.proofs.Common.{◌≡◌, ◌∙◌, sym, ap, Some}
use Rattle.std.specs.List.{position}
use Rattle.graph_model.specs.Graphs.{is_input}
use Rattle.connections.proofs.EndFacts.{input_there, input_at}
use Rattle.connections.proofs.checked.Checked.input.Goals as goal

pub unwrap-requires : goal.unwrap-requires
unwrap-requires c = rw c.input_index.ensures (rw c.graph.ensures.same (input_there c.args.self.now c.graph.ensures.sound))

found : (c : goal.After-unwrap) → position (λ n. is_input n.kind) c.args.self.now.nodes ≡ Some c.unwrap.result
found c = ap (λ h. position (λ n. is_input n.kind) h.nodes) (sym c.graph.ensures.same) ∙ sym c.input_index.ensures ∙ c.unwrap.ensures

pub returns-clause-within : goal.returns-clause-within
returns-clause-within c = (input_at c.args.self.now c.graph.ensures.sound c.unwrap.result (found c)).0

pub returns-clause-name : goal.returns-clause-name
returns-clause-name c = (input_at c.args.self.now c.graph.ensures.sound c.unwrap.result (found c)).1
