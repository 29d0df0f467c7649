use Rattle.std.proofs.Common.{◌≡◌, ◌∙◌, ◌+◌, List, length, ap, sym, arith, get_or}
use Rattle.graph_model.specs.declared.graph.Connection.{Connection}
use Rattle.graph_model.specs.declared.graph.Graph.{Graph}
use Rattle.topology.proofs.LinkFacts.{any_connection}
use Rattle.alignment.specs.Values.{port, place_of_value, read_of, read_at}
use Rattle.alignment.proofs.LinkFacts.{found_as}
use Rattle.alignment.proofs.ValueListFacts.{values_rise, few_values, as_many, placed}
use Rattle.alignment.proofs.mirrors.mirror_of.Goals as goal

pub place_of-requires-clause-rising : goal.place_of-requires-clause-rising
place_of-requires-clause-rising c = values_rise c.args.graph.now c.args.values.now c.requires.values

pub place_of-requires-clause-few : goal.place_of-requires-clause-few
place_of-requires-clause-few c = omega (arith, few_values c.args.graph.now c.graph.ensures.sound, as_many c.args.graph.now c.args.values.now c.requires.values)

pub overflow_add-result : goal.overflow_add-result
overflow_add-result c =
    let found = found_as _ _ c.place_of.result c.unwrap.result c.place_of.ensures c.unwrap.ensures in
    let below = found.0 in
    let few = few_values c.args.graph.now c.graph.ensures.sound in
    let many = as_many c.args.graph.now c.args.values.now c.requires.values in
    let points = c.requires.points.few in
    omega arith

pub returns : goal.returns
returns c =
    let g = c.args.graph.now in
    let found = found_as _ _ c.place_of.result c.unwrap.result c.place_of.ensures c.unwrap.ensures in
    let same : c.as_slice-connections.result.now ≡ g.connections = c.as_slice-connections.ensures ∙ ap (λ (h : Graph). h.connections) c.graph.ensures.same in
    let read : c.read_by-value.result ≡ read_of g c.args.link.now = c.read_by-value.ensures ∙ ap (λ (cs : List Connection). read_at (get_or cs c.args.link.now.index any_connection)) same in
    ap (λ n. length c.args.points.now + n) (sym (placed g c.args.values.now c.requires.values c.unwrap.result c.read_by-value.result found.0 found.1) ∙ ap (λ x. place_of_value g (port x)) read)
