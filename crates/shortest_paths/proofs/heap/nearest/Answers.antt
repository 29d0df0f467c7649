use Rattle.std.proofs.Common.{◌≡◌, ℕ, ◌<◌, [], Some, None, refl, sym, subst, ◌∙◌, arith, slice_get}
use Rattle.shortest_paths.specs.Walks.{Reaches, IsLeastCost, EndsLeast, ClimbsIn, number_of}
use Rattle.shortest_paths.specs.Nearest.{Permits}
use Rattle.shortest_paths.proofs.UsableLaws.{usable_unlimited}
use Rattle.shortest_paths.proofs.WholeLaws.{permits_zero, never_stopped, whole_tree_at, whole_least, whole_none_at}
use Rattle.shortest_paths.proofs.heap.nearest.Goals as goal

pub run-requires-clause-permits : goal.run-requires-clause-permits
run-requires-clause-permits c =
    subst (λ x. Permits x c.in_ok-search.search.numbers.items) (sym (usable_unlimited c.args.edges.now)) (permits_zero c.args.edges.now c.args.points c.in_ok-search.search.numbers.items c.requires.costs c.in_ok-search.ensures.numbers)

pub run-requires-clause-reached : goal.run-requires-clause-reached
run-requires-clause-reached c v l =
    let points = c.in_ok-search.ensures.points in
    subst (λ x. Reaches x c.args.from v) (sym (usable_unlimited c.args.edges.now)) (c.requires.reached v (omega (arith, l, points)))

pub returns-clause-least : goal.returns-clause-least
returns-clause-least c v l =
    let s = c.run.new.self in
    let edges = c.args.edges.now in
    let after = c.in_ok-run.ensures in
    let plain = usable_unlimited edges in
    let points = c.in_ok-search.ensures.points in
    let ends = subst (λ x. (u k : ℕ) → slice_get s.last.items u ≡ Some (Some k) → EndsLeast x s.numbers.items u k) plain after.last in
    let tree = subst (λ p. (u k : ℕ) → slice_get s.last.items u ≡ Some (Some k) → (n : ℕ) × (n < p) × ClimbsIn edges s.last.items c.args.from n u) points
    (subst (λ x. (u k : ℕ) → slice_get s.last.items u ≡ Some (Some k) → (n : ℕ) × (n < c.in_ok-search.search.points) × ClimbsIn x s.last.items c.args.from n u) plain after.tree) in
    let linked = never_stopped c.in_ok-search.search.points c.args.from s.last.items [] c.in_ok-run.field-0 refl after.stop in
    let least = whole_least edges c.args.points c.args.from s.numbers.items s.last.items c.requires.start (subst (λ x. Permits x s.numbers.items) plain after.permits) after.start ends tree
    (λ u m ne. linked u (omega (arith, m, points)) ne) v l in
    subst (λ x. IsLeastCost edges c.args.from v (number_of x v)) (sym (c.in_ok-least.ensures ∙ c.deref.ensures.value)) least

pub returns-clause-none : goal.returns-clause-none
returns-clause-none c v l none =
    let s = c.run.new.self in
    let points = c.in_ok-search.ensures.points in
    let linked = never_stopped c.in_ok-search.search.points c.args.from s.last.items [] c.in_ok-run.field-0 refl c.in_ok-run.ensures.stop in
    whole_none_at c.args.points c.args.from s.last.items (λ u m ne. linked u (omega (arith, m, points)) ne) v l (subst (λ x. slice_get x v ≡ Some None) (c.in_ok-last.ensures ∙ c.deref-2.ensures.value) none)

pub returns-clause-last : goal.returns-clause-last
returns-clause-last c v k l named =
    let s = c.run.new.self in
    let edges = c.args.edges.now in
    let there = subst (λ x. slice_get x v ≡ Some (Some k)) (c.in_ok-last.ensures ∙ c.deref-2.ensures.value) named in
    let q = subst (λ x. EndsLeast x s.numbers.items v k) (usable_unlimited edges) (c.in_ok-run.ensures.last v k there) in
    subst (λ x. EndsLeast edges x v k) (sym (c.in_ok-least.ensures ∙ c.deref.ensures.value)) q

pub returns-clause-tree : goal.returns-clause-tree
returns-clause-tree c v l =
    let s = c.run.new.self in
    let edges = c.args.edges.now in
    let after = c.in_ok-run.ensures in
    let points = c.in_ok-search.ensures.points in
    let linked = never_stopped c.in_ok-search.search.points c.args.from s.last.items [] c.in_ok-run.field-0 refl after.stop in
    let tree = subst (λ p. (u k : ℕ) → slice_get s.last.items u ≡ Some (Some k) → (n : ℕ) × (n < p) × ClimbsIn edges s.last.items c.args.from n u) points
    (subst (λ x. (u k : ℕ) → slice_get s.last.items u ≡ Some (Some k) → (n : ℕ) × (n < c.in_ok-search.search.points) × ClimbsIn x s.last.items c.args.from n u) (usable_unlimited edges) after.tree) in
    let t = whole_tree_at edges c.args.points c.args.from s.last.items c.requires.start tree (λ u m ne. linked u (omega (arith, m, points)) ne) v l in
    subst (λ x. (n : ℕ) × (n < c.args.points) × ClimbsIn edges x c.args.from n v) (sym (c.in_ok-last.ensures ∙ c.deref-2.ensures.value)) t
