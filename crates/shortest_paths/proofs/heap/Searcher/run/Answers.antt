use Rattle.std.proofs.Common.{◌≢◌, ℕ, ◌<◌, ◌^◌, pos, ◌<ℤ◌, length, sym, ap, subst, ◌∙◌, arith}
use Rattle.std.specs.List.{All}
use Rattle.std.specs.Option.{MatchOption}
use Rattle.std.proofs.lemmas.Int.{ints}
use Rattle.shortest_paths.specs.declared.edges.Edge.{Edge}
use Rattle.shortest_paths.specs.Walks.{IsWithin, Joins, number_of}
use Rattle.shortest_paths.specs.Usable.{usable}
use Rattle.shortest_paths.specs.Nearest.{IsLinked}
use Rattle.shortest_paths.proofs.UsableLaws.{usable_all}
use Rattle.shortest_paths.proofs.WalkLaws.{no_cycle_from_potentials}
use Rattle.shortest_paths.proofs.FillFacts.{lent_back}
use Rattle.shortest_paths.proofs.heap.Searcher.run.Goals as goal

pub search_tree-requires-clause-ends : goal.search_tree-requires-clause-ends
search_tree-requires-clause-ends c =
    let points = ap length c.deref_mut.ensures.value ∙ c.requires.sizes.best_each in
    subst (λ n. All (Joins n) (usable c.args.edges.now c.args.limits.now)) (sym points) (usable_all (Joins c.args.self.now.points) _ c.args.edges.now c.args.limits.now (λ e j. (j.0, j.0)) c.requires.ends)

pub search_tree-requires-clause-costs : goal.search_tree-requires-clause-costs
search_tree-requires-clause-costs c = usable_all (λ (e : Edge). IsWithin (2 ^ 46) e.cost) _ c.args.edges.now c.args.limits.now (λ e w. (omega (arith, ints), omega (arith, ints))) c.requires.costs

pub search_tree-requires-clause-cycles : goal.search_tree-requires-clause-cycles
search_tree-requires-clause-cycles c = no_cycle_from_potentials (usable c.args.edges.now c.args.limits.now) (number_of c.args.self.now.numbers.items) c.requires.permits

pub returns-clause-stop : goal.returns-clause-stop
returns-clause-stop c =
    let now = c.args.self.now in
    let points = ap length c.deref_mut.ensures.value ∙ c.requires.sizes.best_each in
    let last = lent_back now.last.len c.search_tree.new.last now.last.items (c.search_tree.auto.last ∙ c.deref_mut-3.ensures.len) in
    subst (λ x. MatchOption c.in_ok-stop.stop ((v : ℕ) → v < now.points → v ≢ c.args.from → IsLinked x v) (λ v. (v < now.points) × (pos 0 <ℤ number_of c.args.wanted.now v) × (v ≢ c.args.from → IsLinked x v))) (sym last)
    (subst (λ n. MatchOption c.in_ok-stop.stop ((v : ℕ) → v < n → v ≢ c.args.from → IsLinked c.search_tree.new.last v) (λ v. (v < n) × (pos 0 <ℤ number_of c.args.wanted.now v) × (v ≢ c.args.from → IsLinked c.search_tree.new.last v))) points
    c.in_ok-stop.ensures.stop)
