use Rattle.std.proofs.Common.{◌≡◌, ◌∙◌, ◌<◌, List, ap, sym, subst, map, length, take, get_or, IsPermutation}
use Rattle.std.specs.List.{All, dedup}
use Rattle.std.specs.Ordering.{eq_by_cmp}
use Rattle.std.proofs.lemmas.List.{take_all}
use Rattle.std.proofs.lemmas.List.Filters.{dedup_is}
use Rattle.graph_model.specs.Paths.{live_connections}
use Rattle.graph_model.specs.declared.graph.Connection.{Connection}
use Rattle.graph_model.specs.declared.graph.Graph.{Graph}
use Rattle.alignment.specs.Values.{port, read_at, read_of, value_order}
use Rattle.alignment.specs.contracts.values.ValueOrd.TheImpl.Laws.{total-law, matches_eq-law}
use Rattle.alignment.specs.declared.links.Link.{Link}
use Rattle.alignment.specs.declared.values.Value.{Value}
use Rattle.alignment.proofs.ValueListFacts.{reads_are, values_made, connections_there}
use Rattle.alignment.proofs.values.values.Goals as goal

pub bounds-connections-link : goal.bounds-connections-link
bounds-connections-link c =
    let g = c.args.graph.now in
    let none : Link = record { index = 0; tail = 0; head = 0; latency = 0 } in
    let same : c.as_slice-connections.result.now ≡ g.connections = c.as_slice-connections.ensures ∙ ap (λ (h : Graph). h.connections) c.graph.ensures.same in
    let each : All (λ l. l.index < length g.connections) c.args.links.now = subst (All (λ l. l.index < length g.connections)) (sym c.requires.links) (connections_there g c.args.points.now) in
    subst (λ (cs : List Connection). (get_or c.args.links.now c.loop-link.link-index none).index < length cs) (sym same) (each c.loop-link.link-index none c.loop-link-test.true)

pub returns : goal.returns
returns c =
    let g = c.args.graph.now in
    let all : take c.loop-link.link-index c.args.links.now ≡ c.args.links.now = take_all c.loop-link.link-index c.args.links.now c.loop-link-test.false in
    let made : c.loop-link.values.items ≡ map read_at (live_connections g)
    = c.loop-link.invariant ∙ ap (map (read_of g)) (all ∙ c.requires.links) ∙ reads_are g c.args.points.now in
    let same : (x y : Value) → _ ≡ eq_by_cmp value_order x y = matches_eq-law in
    let kept = dedup_is _ _ _ c.dedup.ensures.filtered ∙ (λ i. dedup (λ x y. same x y i) c.sort_unstable.new.self.items) in
    ap (map port) kept ∙ values_made g total-law c.sort_unstable.new.self.items (subst (λ xs. IsPermutation xs c.sort_unstable.new.self.items) made c.sort_unstable.ensures.permutation) c.sort_unstable.ensures.sorted
