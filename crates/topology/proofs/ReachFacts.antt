-- What the sources of a node give it is its reach.
use Rattle.std.proofs.Common.{◌≡◌, ℕ, ◌+◌, ◌*◌, ◌^◌, ◌<◌, ◌≤◌, List, [], ◌∷◌, length, map, get_or, set, sym, ap, ◌∙◌, subst, arith, inl, inr, ◌⊎◌}
use Rattle.std.proofs.lemmas.List.Elements.{All-contains, recursion_from_All}
use Rattle.std.specs.Prelude.{is_some}
use Rattle.std.specs.List.{AllZip, AllByRecursion}
use Rattle.graph_model.specs.Orders.{StandsBefore}
use Rattle.std.proofs.lemmas.List.{get_or-set_same, get_or-set_other, get_or-map, ext_get_or, length-map, length-set}
use Rattle.std.proofs.lemmas.List.Sums.{sum_by-cons}
use Rattle.std.proofs.lemmas.Bool.{cases_lt, cases_eq}
use Rattle.graph_model.specs.Graphs.{IsNode, IsRanked, latency_at}
use Rattle.graph_model.specs.Paths.{IsPathTo, IsAcyclic, IsReach, latencies, reach, depth}
use Rattle.graph_model.specs.declared.graph.Node.{Node}
use Rattle.graph_model.specs.declared.graph.Graph.{Graph}
use Rattle.graph_model.proofs.RankLaws.{ranked, path_short, node_of}
use Rattle.graph_model.proofs.ReachLaws.{reach_is_longest, reach_after}
use Rattle.graph_model.specs.Named.{IsNamed, uid_at, latencies_of}
use Rattle.topology.specs.Links.{source, target, AreLinks}
use Rattle.topology.specs.Reaches.{given, IsPulled, AreReaches}
use Rattle.topology.specs.Answers.{IsOrderOfNodes}
use Rattle.topology.specs.declared.ends.Link.{Link}
use Rattle.graph_model.proofs.NameFacts.{named_there, same_index, index_of, is_node, name_is, latency_is, any_node}
use Rattle.topology.proofs.LinkFacts.{joined, link_of}
use Rattle.topology.proofs.OrderFacts.{order_is_acyclic, stands_index}

-- the number at an index is the reach
abbrev pub IsReachAt : Graph → List ℕ → ℕ → Type 0
IsReachAt g at i = get_or at i 0 ≡ reach g (uid_at g i)

-- a list beside what f gives of each of its items
zip_map : {A B : Type 0} (R : A → B → Type 0) (f : A → B) (xs : List A) → AllByRecursion (λ x. R x (f x)) xs → AllZip R xs (map f xs)
zip_map R f [] h = tt
zip_map R f (x ∷ xs) h = (h.0, zip_map R f xs h.1)

module _ (g : Graph) (named : IsNamed g) (acyclic : IsAcyclic g) where
  pub rises : IsRanked (depth g) g
  rises = ranked g named.nodes_exist acyclic

  -- the reaches are the sums of paths, which no path exceeds
  pub are_longest : (at : List ℕ) → AreReaches g at → AllZip (λ n m. IsReach g n.uid.0 m) g.nodes at
  are_longest at are =
      subst (AllZip (λ n m. IsReach g n.uid.0 m) g.nodes) (sym are)
      (zip_map (λ (n : Node) m. IsReach g n.uid.0 m) (λ n. reach g n.uid.0) g.nodes (recursion_from_All (λ n. IsReach g n.uid.0 (reach g n.uid.0)) g.nodes
      (λ k d lt. reach_is_longest g (depth g) rises (get_or g.nodes k d).uid.0 (ap is_some (named_there g named k d lt)))))

  -- a latency fits 32 bits
  latency_small : ((i : ℕ) → get_or (latencies_of g) i 0 < 2 ^ 32) → (u : ℕ) → IsNode g u → latency_at g u < 2 ^ 32
  latency_small small u node =
      let at = index_of g u node in
      let here : latency_at g u ≡ get_or (latencies_of g) at.0 0 = ap (latency_at g) (sym at.2) ∙ latency_is g named at.0 at.1 in
      let l = small at.0 in
      omega arith

  sum_small : ((i : ℕ) → get_or (latencies_of g) i 0 < 2 ^ 32) → (v : ℕ) (us : List ℕ) → IsPathTo g v us → latencies g us ≤ length us * 2 ^ 32
  sum_small small v [] path = omega arith
  sum_small small v (u ∷ us) path =
      let rest = sum_small small u us path.2 in
      let sum = sum_by-cons (λ w. latency_at g w) u us in
      let node : IsNode g u = node_of g u us path.2 in
      let l = latency_small small u node in
      omega arith

  pub reach_small : ((i : ℕ) → get_or (latencies_of g) i 0 < 2 ^ 32) → (v : ℕ) → IsNode g v → reach g v ≤ 512 * 2 ^ 32
  reach_small small v node =
      let r = (reach_is_longest g (depth g) rises v node).reached in
      let few = path_short g acyclic v r.0 r.1 in
      let sum = sum_small small v r.0 r.1 in
      let is = r.2 in
      let fits = named.fits.0 in
      omega arith

  module _ (ls : List Link) (links : AreLinks g ls) (at : List ℕ) where
    gives : (e : ℕ) → e < length ls → IsReachAt g at (source ls e) → given ls (latencies_of g) at e ≡ reach g (uid_at g (source ls e)) + latency_at g (uid_at g (source ls e))
    gives e lt is = let latency = latency_is g named (source ls e) (links.within e lt).0 in omega arith

    -- where the sources have their reach, what they give is the reach
    pub pulled_is_reach : (v n : ℕ) → v < length g.nodes → ((e : ℕ) → e < length ls → target ls e ≡ v → IsReachAt g at (source ls e)) → IsPulled ls (latencies_of g) at v n → n ≡ reach g (uid_at g v)
    pulled_is_reach v n lv sources p =
        let above = least (reach_is_longest g (depth g) rises (uid_at g v) (is_node g named v lv)).reached in
        let below = met p.met in
        omega arith
      where
        met : (n ≡ 0) ⊎ ((e : ℕ) × (e < length ls) × (target ls e ≡ v) × (n ≡ given ls (latencies_of g) at e)) → n ≤ reach g (uid_at g v)
        met (inl none) = omega arith
        met (inr q) =
            let e = q.0 in
            let j = joined g ls links q.0 q.1 in
            let after = reach_after g (depth g) rises j.0 j.1 in
            let is = gives q.0 q.1 (sources q.0 q.1 q.2) in
            let src = ap (λ w. reach g w + latency_at g w) j.2 in
            let dst = ap (reach g) j.3 ∙ ap (λ k. reach g (uid_at g k)) q.2 in
            let given_is = q.3 in
            omega arith

        least : (us : List ℕ) × IsPathTo g (uid_at g v) us × (latencies g us ≡ reach g (uid_at g v)) → reach g (uid_at g v) ≤ n
        least ([], path, sum) = omega arith
        least (u ∷ us, path, sum) =
            let link = link_of g ls links u (uid_at g v) path.1 in
            let e = link.0 in
            let within = links.within link.0 link.1 in
            let into : target ls link.0 ≡ v = same_index g named (target ls link.0) v within.1 lv link.3 in
            let is = gives link.0 link.1 (sources link.0 link.1 into) in
            let src : reach g (uid_at g (source ls link.0)) + latency_at g (uid_at g (source ls link.0)) ≡ reach g u + latency_at g u = ap (λ w. reach g w + latency_at g w) link.2 in
            let node : IsNode g u = subst (IsNode g) link.2 (is_node g named (source ls link.0) within.0) in
            let rest = (reach_is_longest g (depth g) rises u node).most us path.2 in
            let cons = sum_by-cons (λ w. latency_at g w) u us in
            let most = p.most link.0 link.1 into in
            omega arith

-- ---- one node more, in the order
pub record AreReached (g : Graph) (os : List ℕ) (k : ℕ) (at : List ℕ) : Type 0 where
  pub count : length at ≡ length g.nodes
  pub done : (j : ℕ) → j < k → IsReachAt g at (get_or os j 0)
  pub small : (u : ℕ) → get_or at u 0 ≤ 512 * 2 ^ 32

module _ (g : Graph) (named : IsNamed g) (ls : List Link) (links : AreLinks g ls) (os : List ℕ) (order : IsOrderOfNodes g os)
    (fits : (i : ℕ) → get_or (latencies_of g) i 0 < 2 ^ 32) where
  pub order_acyclic : IsAcyclic g
  order_acyclic = order_is_acyclic g (map (uid_at g) os) order.order

  -- the sources of a node of the order have their reach
  sources_done : (k : ℕ) (at : List ℕ) → k < length os → AreReached g os k at → (e : ℕ) → e < length ls → target ls e ≡ get_or os k 0 → IsReachAt g at (source ls e)
  sources_done k at lt are e le into =
      let v_is : get_or (map (uid_at g) os) k 0 ≡ uid_at g (get_or os k 0) = get_or-map (uid_at g) os k 0 0 lt in
      let j = joined g ls links e le in
      let ready = (order.order.next k (omega (arith, length-map os (uid_at g)))).ready in
      let stands = All-contains (λ c. c.dst.0 ≡ get_or (map (uid_at g) os) k 0 → StandsBefore (map (uid_at g) os) k c.src.0) g.connections j.0 ready j.1
      (j.3 ∙ ap (uid_at g) into ∙ sym v_is) in
      let before = stands_index g named os order.indexes k (source ls e) (omega arith) (links.within e le).0 (subst (StandsBefore (map (uid_at g) os) k) j.2 stands) in
      subst (IsReachAt g at) before.2 (are.done before.0 before.1)

  pub reached_more : (k n : ℕ) (at : List ℕ) → k < length os → AreReached g os k at → IsPulled ls (latencies_of g) at (get_or os k 0) n → AreReached g os (k + 1) (set at (get_or os k 0) n)
  reached_more k n at lt are pulled = record {
    count = length-set at (get_or os k 0) n ∙ are.count;
    done = λ j lj. after (get_or os j 0) (earlier_or_here j lj);
    small = λ u.
        elim (cases_eq u (get_or os k 0)) [
          | inl same ↦ (let bound = reach_small g named order_acyclic fits (uid_at g (get_or os k 0)) (is_node g named (get_or os k 0) inside) in
              let here = ap (λ w. get_or (set at (get_or os k 0) n) w 0) same ∙ written in omega arith)
          | inr other ↦ (let kept = get_or-set_other at (get_or os k 0) u n 0 other in let s = are.small u in omega arith)
        ];
  }
    where
      inside : get_or os k 0 < length g.nodes
      inside = order.indexes k 0 lt

      written : get_or (set at (get_or os k 0) n) (get_or os k 0) 0 ≡ reach g (uid_at g (get_or os k 0))
      written =
          get_or-set_same at (get_or os k 0) n 0 (let l = inside in let c = are.count in omega arith)
          ∙ pulled_is_reach g named order_acyclic ls links at (get_or os k 0) n inside (sources_done k at lt are) pulled

      earlier_or_here : (j : ℕ) → j < k + 1 → (get_or os j 0 ≡ get_or os k 0) ⊎ IsReachAt g at (get_or os j 0)
      earlier_or_here j lj =
          elim (cases_lt j k) [
            | inl earlier ↦ inr (are.done j earlier)
            | inr past ↦ (let here : j ≡ k = omega arith in inl (ap (λ i. get_or os i 0) here))
          ]

      after : (i : ℕ) → (i ≡ get_or os k 0) ⊎ IsReachAt g at i → IsReachAt g (set at (get_or os k 0) n) i
      after i (inl same) = subst (IsReachAt g (set at (get_or os k 0) n)) (sym same) written
      after i (inr old) =
          elim (cases_eq i (get_or os k 0)) [
            | inl same ↦ subst (IsReachAt g (set at (get_or os k 0) n)) (sym same) written
            | inr other ↦ get_or-set_other at (get_or os k 0) i n 0 other ∙ old
          ]

  pub all_reached : (at : List ℕ) → AreReached g os (length os) at → AreReaches g at
  all_reached at are =
      ext_get_or 0 at (map (λ (n : Node). reach g n.uid.0) g.nodes) (are.count ∙ sym (length-map g.nodes (λ (n : Node). reach g n.uid.0))) (λ i lt.
      let li : i < length g.nodes = let c = are.count in omega arith in
      let us = map (uid_at g) os in
      let stands = order.order.all (uid_at g i) (is_node g named i li) in
      let before = stands_index g named os order.indexes (length (map (uid_at g) os)) i (omega (arith, length-map os (uid_at g))) li stands in
      subst (IsReachAt g at) before.2 (are.done before.0 (omega (arith, before.1, length-map os (uid_at g))))
      ∙ ap (reach g) (name_is g i li) ∙ sym (get_or-map (λ (n : Node). reach g n.uid.0) g.nodes i any_node 0 li))
