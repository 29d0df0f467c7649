use Rattle.std.proofs.Common.{rules, ◌≡◌, ◌∙◌, ◌≤◌, ap, subst, length, map, filter}
use Rattle.std.proofs.lemmas.List.{take_all}
use Rattle.std.proofs.lemmas.List.Sorted.{IsNonDecreasingBy-from_sort, answers_always}
use Rattle.graph_model.specs.Paths.{is_live}
use Rattle.graph_model.specs.declared.graph.Uid.{Uid}
use Rattle.graph_model.specs.declared.graph.Node.{Node}
use Rattle.graph_model.specs.declared.graph.Graph.{Graph}
use Rattle.schedule.specs.declared.groups.Entry.{Entry}
use Rattle.schedule.proofs.LevelFacts.{by_depth}
use Rattle.schedule.proofs.live.live_nodes.Goals as goal

pub returns : goal.returns
returns c =
    let g = c.args.graph.now in
    let nodes : c.as_slice-node-items.result.now ≡ c.args.graph.now.nodes = c.as_slice-node-items.ensures ∙ ap (λ (h : Graph). h.nodes) c.graph.ensures.same in
    let all = take_all c.loop-index.index c.args.graph.now.nodes (subst (λ ns. length ns ≤ c.loop-index.index) nodes c.loop-index-test.false) in
    by_depth c.args.graph.now c.graph.ensures.sound c.loop-index.live.items c.sort_unstable_by_key.new.self.items
    (c.loop-index.invariant.live ∙ ap (λ ns. filter (is_live c.args.graph.now) (map (λ (n : Node). n.uid.0) ns)) all)
    c.loop-index.invariant.deep c.sort_unstable_by_key.ensures.permutation
    (IsNonDecreasingBy-from_sort (λ (e : Entry Uid). e.item.0) c.sort_unstable_by_key.new.self.items
    (c.sort_unstable_by_key.ensures.sorted (λ (e : Entry Uid). e.item.0) (answers_always _ _ _ (λ f a r g h. search rules))))
