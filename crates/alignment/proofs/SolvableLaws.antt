-- A network between points of any type is one that can be solved.
use Rattle.std.proofs.Common.{◌≡◌, ℕ, ◌+◌, ◌<◌, ◌≤◌, ◌^◌, pos, ◌+ℤ◌, ◌-ℤ◌, List, [], ◌∷◌, ◌++◌, length, map, get_or, refl, sym, ap, subst, ◌∙◌, arith, cond, true}
use Rattle.std.specs.Prelude.{sum_by, count_by}
use Rattle.std.specs.List.{All, AllByRecursion, Contains}
use Rattle.std.proofs.lemmas.Int.{ints}
use Rattle.std.proofs.lemmas.List.{length-map, get_or_default}
use Rattle.std.proofs.lemmas.List.Elements.{All-contains, All-map, All-same}
use Rattle.std.proofs.lemmas.List.Sums.{sum_by-cons, count_by-le-length}
use Rattle.std.proofs.lemmas.Option.{get_or_from_slice_get, slice_get_within}
use Rattle.graph_model.proofs.HistoryLaws.{all_of}
use Rattle.min_cost_flow.specs.Flow.{IsNetwork, HasNoPositiveCycle, length_of, total_of}
use Rattle.min_cost_flow.specs.declared.network.Arc.{Arc}
use Rattle.min_cost_flow.specs.declared.network.Network.{Network}
use Rattle.min_cost_flow.proofs.NetworkLaws.{connected_by_root, no_positive_cycle_from_potentials}
use Rattle.shortest_paths.specs.Walks.{IsWithin, Reaches}
use Rattle.shortest_paths.specs.declared.edges.Edge.{Edge}
use Rattle.shortest_paths.proofs.WalkLaws.{IsWalk-append}
use Rattle.plan_model.specs.Networks.{Difference, Terms, links_needed, Keeps}
use Rattle.plan_model.proofs.BelowFacts.{count_by-le_one, count_by_at}
use Rattle.plan_model.proofs.SavedLaws.{Contains-from_map, Contains-map}
use Rattle.plan_model.proofs.SumLaws.{sum_none, sum_same}
use Rattle.alignment.specs.Numbered.{number_by, name_by, named_by, AreNames, AreArcsBy}

-- a sum of sums
sum_by_plus : {X : Type 0} (f h : X → ℕ) (xs : List X) → sum_by (λ x. f x + h x) xs ≡ sum_by f xs + sum_by h xs
sum_by_plus f h [] = refl
sum_by_plus f h (x ∷ xs) =
    let ih = sum_by_plus f h xs in
    let both = sum_by-cons (λ x. f x + h x) x xs in
    let a = sum_by-cons f x xs in
    let b = sum_by-cons h x xs in
    omega arith

-- the sum of differences
total_apart : {X : Type 0} (a b : X → ℕ) (vs : List X) → (total_of (map (λ v. pos (a v) -ℤ pos (b v)) vs) +ℤ pos (sum_by b vs)) ≡ pos (sum_by a vs)
total_apart a b [] = refl
total_apart a b (v ∷ vs) =
    let ih = total_apart a b vs in
    let x = sum_by-cons a v vs in
    let y = sum_by-cons b v vs in
    omega (arith, ints)

-- the difference of two numbers is within their bound
within_apart : (bound a b : ℕ) → a ≤ bound → b ≤ bound → IsWithin bound (pos a -ℤ pos b)
within_apart bound a b l m = (omega (arith, ints), omega (arith, ints))

-- walks end to end
pub joins : (edges : List Edge) (u v w : ℕ) → Reaches edges u v → Reaches edges v w → Reaches edges u w
joins edges u v w a b = (a.0 ++ b.0, IsWalk-append edges u v w a.0 b.0 a.1 b.1)

module _ {P E L : Type 0} (t : Terms P E L) (told : (u v : P) → t.same u v ≡ true → u ≡ v) (itself : (v : P) → t.same v v ≡ true) (root : P) (names : List P) (are : AreNames t root names)
    (differences : List (Difference P)) (arcs : List Arc) (network : AreArcsBy t root names differences arcs) where
  abbrev number : P → ℕ
  number v = number_by t names v

  -- a name stands once
  stands_once : (v : P) → Contains names v → count_by (λ w. t.same v w) names ≡ 1
  stands_once v has =
      let most = count_by-le_one (λ w. t.same v w) names
      (λ i j d less l p q.
      let a = told v (get_or names i d) p in
      let b = told v (get_or names j d) q in
      let one : get_or names i d ≡ get_or names j d = sym a ∙ b in
      clash i j d less l one) in
      let some = count_by_at (λ w. t.same v w) names v has (itself v) in
      omega arith
    where
      clash : (i j : ℕ) (d : P) → i < j → j < length names → get_or names i d ≡ get_or names j d → ⊥
      clash i j d less l one =
          let x = in_range i d (omega arith) in
          let y = in_range j d l in
          let f : t.same (name_by root names i) (name_by root names j) ≡ true = ap (λ w. t.same w (name_by root names j)) (x ∙ one ∙ sym y) ∙ itself (name_by root names j) in
          let g = are.differ i j less l in
          absurd (cc)
        where
          in_range : (k : ℕ) (e : P) → k < length names → name_by root names k ≡ get_or names k e
          in_range k e lt = get_or_default names k root e lt

  -- counting at each name counts all items
  counts_all : {X : Type 0} (end : X → P) (xs : List X) → AllByRecursion (λ x. Contains names (end x)) xs → sum_by (λ v. count_by (λ x. t.same (end x) v) xs) names ≡ length xs
  counts_all end [] h = sum_none (λ v. 0) names (all_of (λ v. 0 ≡ 0) names (λ v. refl))
  counts_all end (x ∷ xs) h =
      let ih = counts_all end xs h.1 in
      let one = stands_once (end x) h.0 in
      let split = sum_by_plus (λ v. cond (t.same (end x) v) 1 0) (λ v. count_by (λ y. t.same (end y) v) xs) names in
      let parts = sum_same (λ v. count_by (λ y. t.same (end y) v) (x ∷ xs)) (λ v. cond (t.same (end x) v) 1 0 + count_by (λ y. t.same (end y) v) xs) names
      (all_of _ names (λ v. sum_by-cons (λ y. cond (t.same (end y) v) 1 0) x xs)) in
      omega arith

  pub needs_cancel : (links : List L) → AllByRecursion (λ l. Contains names (t.source l)) links → AllByRecursion (λ l. Contains names (t.target l)) links
      → total_of (map (links_needed t links) names) ≡ pos 0
  needs_cancel links sources targets =
      let heads = counts_all t.target links targets in
      let tails = counts_all t.source links sources in
      let apart = total_apart (λ v. count_by (λ l. t.same (t.target l) v) links) (λ v. count_by (λ l. t.same (t.source l) v) links) names in
      omega (arith, ints)

  pub need_within : (links : List L) → length links ≤ 2 ^ 14 → (v : P) → IsWithin (2 ^ 14) (links_needed t links v)
  need_within links few v =
      let heads = count_by-le-length (λ l. t.same (t.target l) v) links in
      let tails = count_by-le-length (λ l. t.same (t.source l) v) links in
      within_apart (2 ^ 14) (count_by (λ l. t.same (t.target l) v) links) (count_by (λ l. t.same (t.source l) v) links) (omega arith) (omega arith)

  -- ---- walks
  -- the arc of a difference leads from the number of its tail to that of its head
  pub hop : ((k : ℕ) → k < length names → number (name_by root names k) ≡ k) → (d : Difference P) → Contains differences d → Reaches (map length_of arcs) (number d.tail) (number d.head)
  hop number_at d has =
      let a = Contains-from_map (named_by root names) arcs d (All-contains (Contains (map (named_by root names) arcs)) differences d network.all has) in
      let ends = All-contains (λ x. (x.tail < length names) × (x.head < length names)) arcs a.0 network.ends a.1 in
      let tail : a.0.tail ≡ number d.tail = sym (number_at a.0.tail ends.0) ∙ ap number (ap (λ (x : Difference P). x.tail) a.2) in
      let head : a.0.head ≡ number d.head = sym (number_at a.0.head ends.1) ∙ ap number (ap (λ (x : Difference P). x.head) a.2) in
      (length_of a.0 ∷ [], (Contains-map length_of arcs a.0 a.1, tail, head))

  -- where some potentials keep the differences no cycle has a positive total
  pub no_cycle : (r : P → ℕ) → All (Keeps r) differences → HasNoPositiveCycle arcs
  no_cycle r keeps =
      no_positive_cycle_from_potentials arcs (λ k. pos (r (name_by root names k)))
      (λ k a e.
      let has : Contains arcs a = (k, slice_get_within arcs k a e, get_or_from_slice_get arcs k a a e) in
      let there = All-contains (λ x. Contains differences (named_by root names x)) arcs a network.each has in
      let kept = All-contains (Keeps r) differences (named_by root names a) keeps there in
      omega (arith, ints))

  pub solvable : (net : Network) → net.points ≡ length names → net.arcs ≡ arcs → (links : List L) → net.need ≡ map (links_needed t links) names
      → length names ≤ 2 ^ 14 → length arcs ≤ 2 ^ 16 → length links ≤ 2 ^ 14 → All (λ d. IsWithin (2 ^ 30) d.least) differences
      → AllByRecursion (λ l. Contains names (t.source l)) links → AllByRecursion (λ l. Contains names (t.target l)) links
      → (r : P → ℕ) → All (Keeps r) differences
      → ((k : ℕ) → k < length names → Reaches (map length_of arcs) 0 k) → ((k : ℕ) → k < length names → Reaches (map length_of arcs) k 0) → IsNetwork net
  solvable net numbered arcs_are links need few_points few_arcs few_links leasts sources targets r keeps forth back =
      let small : length net.arcs ≤ 2 ^ 16 = let e = ap length arcs_are in omega arith in
      record {
        some_point = let l = are.some in omega arith;
        few_points = omega arith;
        few_arcs = small;
        ends = subst (λ xs. All (λ a. (a.tail < net.points) × (a.head < net.points)) xs) (sym arcs_are) (λ k d l. let both = network.ends k d l in (omega arith, omega arith));
        leasts = subst (λ xs. All (λ a. IsWithin (2 ^ 30) a.least) xs) (sym arcs_are)
            (λ k d l. All-contains (λ d. IsWithin (2 ^ 30) d.least) differences (named_by root names (get_or arcs k d)) leasts (network.each k d l));
        one_need_each = ap length need ∙ length-map names (links_needed t links) ∙ sym numbered;
        needs = All-same (IsWithin (2 ^ 14)) net.need (map (links_needed t links) names) need (All-map (IsWithin (2 ^ 14)) (links_needed t links) names (λ k d l. need_within links few_links (get_or names k d)));
        balanced = ap total_of need ∙ needs_cancel links sources targets;
        connected = subst (λ xs. (u v : ℕ) → u < net.points → v < net.points → Reaches (map length_of xs) u v) (sym arcs_are)
            (λ u v l m. connected_by_root (length names) (map length_of arcs) back forth u v (omega arith) (omega arith));
        no_positive_cycle = subst HasNoPositiveCycle (sym arcs_are) (no_cycle r keeps);
      }
