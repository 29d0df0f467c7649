-- Depths along the order of the nodes.
use Rattle.std.proofs.Common.{◌≡◌, ℕ, suc, ◌+◌, ◌<◌, ◌≤◌, ◌^◌, ◌==◌, List, [], ◌∷◌, ◌++◌, length, map, take, set, get_or, refl, sym, ap, subst, ◌∙◌, arith, Bool, true, false, cond, filter, All, Contains, ◌⊎◌, inl, inr}
use Rattle.std.proofs.lemmas.Bool.{eqb-true, cases_eq, cases_lt}
use Rattle.std.proofs.lemmas.List.{get_or_default, get_or-map, get_or-set_same, get_or-set_other, length-map, length-set, ext_get_or, map_push, take_more}
use Rattle.std.proofs.lemmas.List.Elements.{All-contains, All-push, recursion_from_All, Contains-get_or}
use Rattle.graph_model.specs.Graphs.{IsNode, connections_into, output_name}
use Rattle.graph_model.specs.Named.{uid_at}
use Rattle.graph_model.specs.Orders.{StandsBefore}
use Rattle.graph_model.specs.Paths.{IsPathTo, depth, greatest}
use Rattle.graph_model.specs.Sound.{IsSound}
use Rattle.graph_model.specs.declared.graph.Connection.{Connection}
use Rattle.graph_model.specs.declared.graph.Node.{Node}
use Rattle.graph_model.specs.declared.graph.Graph.{Graph}
use Rattle.graph_model.proofs.CommonFacts.{not_same}
use Rattle.graph_model.proofs.NameFacts.{any_node, is_node, name_is, same_index}
use Rattle.graph_model.proofs.NodeFacts.{named}
use Rattle.graph_model.proofs.PathLaws.{same_name}
use Rattle.graph_model.proofs.RankLaws.{depth_is_deepest, node_of, sound_is_ranked}
use Rattle.graph_model.proofs.ReachLaws.{filter_from, filter_has, greatest_over, greatest_under}
use Rattle.plan_model.proofs.SavedLaws.{Contains-map, Contains-from_map}
use Rattle.topology.specs.Answers.{IsOrderOfNodes}
use Rattle.topology.proofs.LinkFacts.{any_connection}
use Rattle.topology.proofs.OrderFacts.{stands_index}
use Rattle.schedule.specs.Depths.{AreJoints, AreSources, depths_of}
use Rattle.schedule.specs.Groups.{AreGroups, items_of}
use Rattle.schedule.specs.declared.groups.Entry.{Entry}

-- ---- one connection more
pub joints_more : (g : Graph) (cs : List Connection) (k : ℕ) (es new : List (Entry ℕ)) (e : Entry ℕ) → k < length cs → e.group < length g.nodes → e.item < length g.nodes
    → ((d : Connection) → uid_at g e.item ≡ (get_or cs k d).src.0) → ((d : Connection) → uid_at g e.group ≡ (get_or cs k d).dst.0)
    → new ≡ es ++ e ∷ [] → AreJoints g (take k cs) es → AreJoints g (take (k + 1) cs) new
joints_more g cs k es new e lt group item src dst pushed j =
    let d = any_connection in
    let more = take_more cs k any_connection lt in
    rw (pushed, more) (record {
      within = All-push (λ (x : Entry ℕ). (x.group < length g.nodes) × (x.item < length g.nodes)) es e j.within (group, item);
      sources = map_push (λ (x : Entry ℕ). uid_at g x.item) es e ∙ (λ i. j.sources i ++ src any_connection i ∷ []) ∙ sym (map_push (λ (c : Connection). c.src.0) (take k cs) (get_or cs k any_connection));
      destinations = map_push (λ (x : Entry ℕ). uid_at g x.group) es e ∙ (λ i. j.destinations i ++ dst any_connection i ∷ []) ∙ sym (map_push (λ (c : Connection). c.dst.0) (take k cs) (get_or cs k any_connection));
    })

-- ---- the sources of a node
module _ (g : Graph) (sound : IsSound g) (v : ℕ) (lv : v < length g.nodes) where
  -- the entries of its group are for the connections into it
  group_is : (cs : List Connection) (es : List (Entry ℕ)) → AreJoints g cs es
      → map (uid_at g) (items_of es v) ≡ map (λ (c : Connection). c.src.0) (filter (λ c. c.dst.0 == uid_at g v) cs)
  group_is [] [] j = refl
  group_is [] (e ∷ es) j = absurd (let l = ap length j.sources in omega arith)
  group_is (c ∷ cs) [] j = absurd (let l = ap length j.sources in omega arith)
  group_is (c ∷ cs) (e ∷ es) j =
      let rest = group_is cs es (record {
        within = λ k d lt. j.within (suc k) d (omega arith);
        sources = ap (λ (xs : List ℕ). tail_of xs) j.sources;
        destinations = ap (λ (xs : List ℕ). tail_of xs) j.destinations;
      }) in
      let src : uid_at g e.item ≡ c.src.0 = ap (λ (xs : List ℕ). get_or xs 0 0) j.sources in
      let dst : uid_at g e.group ≡ c.dst.0 = ap (λ (xs : List ℕ). get_or xs 0 0) j.destinations in
      go (e.group == v) refl rest src dst
    where
      tail_of : List ℕ → List ℕ
      tail_of [] = []
      tail_of (x ∷ xs) = xs

      go : (b : Bool) → (e.group == v) ≡ b → map (uid_at g) (items_of es v) ≡ map (λ (d : Connection). d.src.0) (filter (λ d. d.dst.0 == uid_at g v) cs)
          → uid_at g e.item ≡ c.src.0 → uid_at g e.group ≡ c.dst.0
          → map (uid_at g) (map (λ (x : Entry ℕ). x.item) (cond b (e ∷ filter (λ x. x.group == v) es) (filter (λ x. x.group == v) es)))
          ≡ map (λ (d : Connection). d.src.0) (filter (λ d. d.dst.0 == uid_at g v) (c ∷ cs))
      go true t rest src dst =
          let into : (c.dst.0 == uid_at g v) ≡ true = ap (λ w. w == uid_at g v) (sym dst ∙ ap (uid_at g) (eqb-true e.group v t)) ∙ same_name (uid_at g v) in
          (λ i. src i ∷ rest i) ∙ sym (ap (λ b. map (λ (d : Connection). d.src.0) (cond b (c ∷ filter (λ d. d.dst.0 == uid_at g v) cs) (filter (λ d. d.dst.0 == uid_at g v) cs))) into)
      go false t rest src dst =
          let past : (c.dst.0 == uid_at g v) ≡ false = not_same c.dst.0 (uid_at g v)
          (λ q. let here = same_index g (named g sound) e.group v (j.within 0 e (omega arith)).0 lv (dst ∙ q) in
          let both : (v == v) ≡ false = subst (λ n. (n == v) ≡ false) here t in
          absurd (let s = same_name v in cc)) in
          rest ∙ sym (ap (λ b. map (λ (d : Connection). d.src.0) (cond b (c ∷ filter (λ d. d.dst.0 == uid_at g v) cs) (filter (λ d. d.dst.0 == uid_at g v) cs))) past)

-- the groups of the joints are the sources of the nodes
pub are_sources : (g : Graph) → IsSound g → (es : List (Entry ℕ)) (groups : List (List ℕ)) → AreJoints g g.connections es → AreGroups (length g.nodes) es groups → AreSources g groups
are_sources g sound es groups joints are = record {
  nodes = are.count_is;
  within = λ v lv. subst (All (λ s. s < length g.nodes)) (sym (are.each v lv)) (inside v);
  each = λ v lv. ap (map (uid_at g)) (are.each v lv) ∙ group_is g sound v lv g.connections es joints;
}
  where
    inside : (v : ℕ) → All (λ s. s < length g.nodes) (items_of es v)
    inside v k d lt =
        let at = Contains-from_map (λ (e : Entry ℕ). e.item) (filter (λ e. e.group == v) es) (get_or (items_of es v) k d) (Contains-get_or (items_of es v) k d lt) in
        let from = filter_from (λ (e : Entry ℕ). e.group == v) es at.0 at.1 in
        let small = (All-contains (λ (e : Entry ℕ). (e.group < length g.nodes) × (e.item < length g.nodes)) es at.0 joints.within from.0).1 in
        subst (λ s. s < length g.nodes) at.2 small

-- ---- the depth of a node is one more than the greatest of its sources, and 0 where it has none
pub depth_by_sources : (g : Graph) → IsSound g → (v : ℕ) → IsNode g v → greatest (map (λ (c : Connection). suc (depth g c.src.0)) (connections_into g v)) ≡ depth g v
depth_by_sources g sound v node = omega (arith, over, under (depth_is_deepest g sound.shaped v node).reached)
  where
    over : greatest (map (λ (c : Connection). suc (depth g c.src.0)) (connections_into g v)) ≤ depth g v
    over =
        greatest_under (λ (c : Connection). suc (depth g c.src.0)) (depth g v) (connections_into g v)
        (recursion_from_All (λ (c : Connection). suc (depth g c.src.0) ≤ depth g v) (connections_into g v) (λ k d lt. falls (get_or (connections_into g v) k d) (Contains-get_or (connections_into g v) k d lt)))
      where
        falls : (c : Connection) → Contains (connections_into g v) c → suc (depth g c.src.0) ≤ depth g v
        falls c has =
            let from = filter_from (λ d. d.dst.0 == v) g.connections c has in
            let less = All-contains (λ d. depth g d.src.0 < depth g d.dst.0) g.connections c (sound_is_ranked g sound).rises from.0 in
            let here = ap (depth g) (eqb-true c.dst.0 v from.1) in
            omega arith

    under : (us : List ℕ) × IsPathTo g v us × (length us ≡ depth g v) → depth g v ≤ greatest (map (λ (c : Connection). suc (depth g c.src.0)) (connections_into g v))
    under ([], path, long) = omega arith
    under (u ∷ us, path, long) =
        let j = path.1 in
        let most = (depth_is_deepest g sound.shaped u (node_of g u us path.2)).most us path.2 in
        let test : (j.0.dst.0 == v) ≡ true = ap (λ w. w == v) j.3 ∙ same_name v in
        let least = greatest_over (λ (c : Connection). suc (depth g c.src.0)) (connections_into g v) j.0 (filter_has (λ d. d.dst.0 == v) g.connections j.0 j.1 test) in
        let src = ap (depth g) j.2 in
        omega arith

-- what stands at the output node's index is its depth, and one more fits
pub output_depth : (g : Graph) → IsSound g → (depths : List ℕ) → depths ≡ depths_of g → (i n : ℕ) → i < length g.nodes → uid_at g i ≡ output_name g
    → n ≡ get_or depths i n → (suc (depth g (output_name g)) ≡ n + 1) × (n + 1 < 2 ^ 32)
output_depth g sound depths are i n lt name read =
    let is : n ≡ depth g (uid_at g i)
    = read ∙ ap (λ xs. get_or xs i n) are ∙ get_or-map (λ (m : Node). depth g m.uid.0) g.nodes i any_node n lt ∙ ap (depth g) (sym (name_is g i lt)) in
    let below = (sound_is_ranked g sound).below (uid_at g i) (is_node g (named g sound) i lt) in
    let here = ap (depth g) name in
    let fits = sound.fits.0 in
    (omega arith, omega arith)

-- ---- one node more, in the order
pub record AreDeep (g : Graph) (os : List ℕ) (k : ℕ) (depths : List ℕ) : Type 0 where
  pub count : length depths ≡ length g.nodes
  pub done : (j : ℕ) → j < k → get_or depths (get_or os j 0) 0 ≡ depth g (uid_at g (get_or os j 0))
  pub small : All (λ d. d < 512) depths

-- what stands before a place of the order has its depth
done_before : (g : Graph) (os : List ℕ) (k : ℕ) (depths : List ℕ) (v : ℕ) → AreDeep g os k depths → StandsBefore os k v → get_or depths v 0 ≡ depth g (uid_at g v)
done_before g os k depths v deep (j, lt, e) = subst (λ i. get_or depths i 0 ≡ depth g (uid_at g i)) e (deep.done j lt)

map_alike : {X : Type 0} (f h : X → ℕ) (xs : List X) → ((x : X) → Contains xs x → f x ≡ h x) → map f xs ≡ map h xs
map_alike f h [] same = refl
map_alike f h (x ∷ xs) same =
    let first = same x (0, omega arith, refl) in
    let rest = map_alike f h xs (λ y has. same y (suc has.0, omega (arith, has.1), has.2)) in
    λ i. first i ∷ rest i

map_twice : {X Y Z : Type 0} (f : Y → Z) (h : X → Y) (xs : List X) → map f (map h xs) ≡ map (λ x. f (h x)) xs
map_twice f h [] = refl
map_twice f h (x ∷ xs) = ap (λ ys. f (h x) ∷ ys) (map_twice f h xs)

module _ (g : Graph) (sound : IsSound g) (os : List ℕ) (order : IsOrderOfNodes g os) (sources : List (List ℕ)) (are : AreSources g sources) where
  -- the sources of the next node have their depth
  source_done : (k : ℕ) (depths : List ℕ) → k < length os → AreDeep g os k depths → (s : ℕ) → Contains (get_or sources (get_or os k 0) []) s
      → get_or depths s 0 ≡ depth g (uid_at g s)
  source_done k depths lt deep s has =
      let within = order.indexes k 0 lt in
      let name = Contains-map (uid_at g) (get_or sources (get_or os k 0) []) s has in
      let by = Contains-from_map (λ (c : Connection). c.src.0) (connections_into g (uid_at g (get_or os k 0))) (uid_at g s)
      (subst (λ xs. Contains xs (uid_at g s)) (are.each (get_or os k 0) within) name) in
      let from = filter_from (λ (c : Connection). c.dst.0 == uid_at g (get_or os k 0)) g.connections by.0 by.1 in
      let at : get_or (map (uid_at g) os) k 0 ≡ uid_at g (get_or os k 0) = get_or-map (uid_at g) os k 0 0 lt in
      let next = order.order.next k (omega (arith, length-map os (uid_at g))) in
      let before = All-contains (λ c. c.dst.0 ≡ get_or (map (uid_at g) os) k 0 → StandsBefore (map (uid_at g) os) k c.src.0) g.connections by.0 next.ready from.0
      (eqb-true by.0.dst.0 (uid_at g (get_or os k 0)) from.1 ∙ sym at) in
      let small = All-contains (λ i. i < length g.nodes) (get_or sources (get_or os k 0) []) s (are.within (get_or os k 0) within) has in
      done_before g os k depths s deep (stands_index g (named g sound) os order.indexes k s (omega arith) small (subst (StandsBefore (map (uid_at g) os) k) by.2 before))

  depth_found : (k : ℕ) (depths : List ℕ) → k < length os → AreDeep g os k depths
      → greatest (map (λ s. suc (get_or depths s 0)) (get_or sources (get_or os k 0) [])) ≡ depth g (uid_at g (get_or os k 0))
  depth_found k depths lt deep =
      let within = order.indexes k 0 lt in
      ap greatest
      (map_alike (λ s. suc (get_or depths s 0)) (λ s. suc (depth g (uid_at g s))) (get_or sources (get_or os k 0) []) (λ s has. ap suc (source_done k depths lt deep s has))
      ∙ sym (map_twice (λ u. suc (depth g u)) (uid_at g) (get_or sources (get_or os k 0) []))
      ∙ ap (map (λ u. suc (depth g u))) (are.each (get_or os k 0) within)
      ∙ map_twice (λ u. suc (depth g u)) (λ (c : Connection). c.src.0) (connections_into g (uid_at g (get_or os k 0))))
      ∙ depth_by_sources g sound (uid_at g (get_or os k 0)) (is_node g (named g sound) (get_or os k 0) within)

  pub deep_more : (k n : ℕ) (depths ss : List ℕ) → k < length os → AreDeep g os k depths → ss ≡ get_or sources (get_or os k 0) ss
      → n ≡ greatest (map (λ s. suc (get_or depths s 0)) ss) → AreDeep g os (k + 1) (set depths (get_or os k 0) n)
  deep_more k n depths ss lt deep read is = record {
    count = length-set depths (get_or os k 0) n ∙ deep.count;
    done = λ j lj. after (get_or os j 0) (earlier_or_here j lj);
    small = λ i d li.
        elim (cases_eq i (get_or os k 0)) [
          | inl same ↦ (let here = ap (λ w. get_or (set depths (get_or os k 0) n) w d) same ∙ get_or-set_same depths (get_or os k 0) n d (omega (arith, inside, deep.count)) in
              let few = (sound_is_ranked g sound).below (uid_at g (get_or os k 0)) (is_node g (named g sound) (get_or os k 0) inside) in
              let fits = sound.fits.0 in
              omega (arith, found))
          | inr other ↦ (let kept = get_or-set_other depths (get_or os k 0) i n d other in
              let s = deep.small i d (omega (arith, length-set depths (get_or os k 0) n)) in
              omega arith)
        ];
  }
    where
      inside : get_or os k 0 < length g.nodes
      inside = order.indexes k 0 lt

      found : n ≡ depth g (uid_at g (get_or os k 0))
      found =
          is ∙ ap (λ xs. greatest (map (λ s. suc (get_or depths s 0)) xs)) (read ∙ get_or_default sources (get_or os k 0) ss [] (omega (arith, inside, are.nodes)))
          ∙ depth_found k depths lt deep

      written : get_or (set depths (get_or os k 0) n) (get_or os k 0) 0 ≡ depth g (uid_at g (get_or os k 0))
      written = get_or-set_same depths (get_or os k 0) n 0 (omega (arith, inside, deep.count)) ∙ found

      earlier_or_here : (j : ℕ) → j < k + 1 → (get_or os j 0 ≡ get_or os k 0) ⊎ (get_or depths (get_or os j 0) 0 ≡ depth g (uid_at g (get_or os j 0)))
      earlier_or_here j lj =
          elim (cases_lt j k) [
            | inl earlier ↦ inr (deep.done j earlier)
            | inr past ↦ (let here : j ≡ k = omega arith in inl (ap (λ i. get_or os i 0) here))
          ]

      after : (i : ℕ) → (i ≡ get_or os k 0) ⊎ (get_or depths i 0 ≡ depth g (uid_at g i)) → get_or (set depths (get_or os k 0) n) i 0 ≡ depth g (uid_at g i)
      after i (inl same) = subst (λ w. get_or (set depths (get_or os k 0) n) w 0 ≡ depth g (uid_at g w)) (sym same) written
      after i (inr old) =
          elim (cases_eq i (get_or os k 0)) [
            | inl same ↦ subst (λ w. get_or (set depths (get_or os k 0) n) w 0 ≡ depth g (uid_at g w)) (sym same) written
            | inr other ↦ get_or-set_other depths (get_or os k 0) i n 0 other ∙ old
          ]

  -- the whole order leaves all depths
  pub all_deep : (k : ℕ) (depths : List ℕ) → length os ≤ k → AreDeep g os k depths → depths ≡ depths_of g
  all_deep k depths le deep =
      ext_get_or 0 depths (depths_of g) (deep.count ∙ sym (length-map g.nodes (λ (n : Node). depth g n.uid.0))) (λ i lt.
      let li : i < length g.nodes = omega (arith, deep.count) in
      let stands = order.order.all (uid_at g i) (is_node g (named g sound) i li) in
      let before = stands_index g (named g sound) os order.indexes (length (map (uid_at g) os)) i (omega (arith, length-map os (uid_at g))) li stands in
      subst (λ w. get_or depths w 0 ≡ depth g (uid_at g w)) before.2 (deep.done before.0 (omega (arith, before.1, length-map os (uid_at g))))
      ∙ ap (depth g) (name_is g i li) ∙ sym (get_or-map (λ (n : Node). depth g n.uid.0) g.nodes i any_node 0 li))
