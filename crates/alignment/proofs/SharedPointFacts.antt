-- The points of the network of shared lines, and the arcs between them.
use Rattle.std.proofs.Common.{◌≡◌, ℕ, suc, ◌<◌, ℤ, pos, neg_ℤ, List, [], ◌∷◌, ◌++◌, length, map, get_or, refl, ap, subst, arith, cond, Bool, true, false, Option, Some, None, inl, inr}
use Rattle.std.specs.Prelude.{AllPairs}
use Rattle.std.specs.List.{AllByRecursion, Contains}
use Rattle.std.proofs.lemmas.List.Elements.{All-contains, Contains-get_or, Contains-append_cases, Contains-append_left, Contains-append_right}
use Rattle.std.proofs.lemmas.List.Kept.{AllPairs-cons, AllPairs-from_increasing}
use Rattle.graph_model.specs.Graphs.{input_name, output_name}
use Rattle.graph_model.specs.Paths.{is_live, live_nodes, live_connections, latency_of_graph}
use Rattle.graph_model.specs.Sound.{IsSound}
use Rattle.graph_model.specs.declared.graph.Graph.{Graph}
use Rattle.graph_model.proofs.HistoryLaws.{all_of}
use Rattle.plan_model.specs.Networks.{Difference}
use Rattle.plan_model.specs.Lives.{Port, values}
use Rattle.plan_model.specs.SharedFlows.{at_node, mirror, same_point, shared_terms, along_nodes, to_mirror, root_to, ends_to_root, mirror_to_root, shared_network, shared_arc, IsPointBefore, ComesBeforePoint}
use Rattle.plan_model.specs.declared.shared.Point.{Point}
use Rattle.plan_model.proofs.CertifiedLaws.{AllPairs_map}
use Rattle.plan_model.proofs.NetworkLaws.{all_append, all_map}
use Rattle.plan_model.proofs.SavedLaws.{Contains-from_map, Contains-map}
use Rattle.plan_model.proofs.SharedLaws.{told_point, itself_point, every, names_in}
use Rattle.plan_model.proofs.ValueLaws.{values_are_listed}
use Rattle.alignment.specs.Networks.{ArePoints}
use Rattle.alignment.specs.SharedNetworks.{shared_points}
use Rattle.alignment.specs.Numbered.{name_by, AreNames}
use Rattle.alignment.proofs.ArcFacts.{least_between, found_between, between_nodes, from_input, from_output, ends_differ, output_named}
use Rattle.alignment.proofs.PlaceListFacts.{zero_first}

AllPairs_append : {X : Type 0} (R : X → X → Type 0) (xs ys : List X) → AllPairs R xs → AllPairs R ys → ((x y : X) → Contains xs x → Contains ys y → R x y) → AllPairs R (xs ++ ys)
AllPairs_append R [] ys h k both = k
AllPairs_append R (x ∷ xs) ys h k both =
    AllPairs-cons R x (xs ++ ys)
    (λ i d l.
    elim (Contains-append_cases xs ys (get_or (xs ++ ys) i d) (Contains-get_or (xs ++ ys) i d l)) [
      | inl here ↦ All-contains (R x) xs (get_or (xs ++ ys) i d) (λ j e m. h 0 (suc j) e (omega arith) (omega arith)) here
      | inr there ↦ both x (get_or (xs ++ ys) i d) (0, omega arith, refl) there
    ])
    (AllPairs_append R xs ys (λ i j d lt l. h (suc i) (suc j) d (omega arith) (omega arith)) k
    (λ y z hy hz. both y z (suc hy.0, (let l = hy.1 in omega arith), hy.2) hz))

-- a point is not before itself
not_itself : (u v : ℕ) (c d : Option ℕ) → ComesBeforePoint u c v d → u ≡ v → c ≡ d → ⊥
not_itself u v None None l e f = omega (arith, l, e)
not_itself u v None (Some d) l e f = absurd (cc)
not_itself u v (Some c) None l e f = l
not_itself u v (Some c) (Some d) (inl l) e f = omega (arith, l, e)
not_itself u v (Some c) (Some d) (inr l) e f = clash (λ (o : Option ℕ). cond_some o) f l.1
  where
    cond_some : Option ℕ → ℕ
    cond_some None = 0
    cond_some (Some n) = n

    clash : (g : Option ℕ → ℕ) → Some c ≡ Some d → c < d → ⊥
    clash g e l = let s : c ≡ d = cc in omega (arith, s, l)

apart : (x y : Point) → IsPointBefore x y → same_point x y ≡ false
apart x y before = go (same_point x y) refl
  where
    go : (b : Bool) → same_point x y ≡ b → b ≡ false
    go false e = refl
    go true e =
        let one = told_point x y e in
        absurd (not_itself x.uid y.uid x.channel y.channel before (ap (λ (z : Point). z.uid) one) (ap (λ (z : Point). z.channel) one))

-- ---- the least difference between two points
abbrev least_at : Graph → ℕ → Option ℕ → ℕ → Option ℕ → ℤ
least_at g t None h None = least_between g t h
least_at g t None h (Some d) = pos 0
least_at g t (Some c) h d = neg_ℤ (pos (latency_of_graph g))

abbrev IsAsAt : Graph → Difference Point → Type 0
IsAsAt g d = d.least ≡ least_at g d.tail.uid d.tail.channel d.head.uid d.head.channel

module _ (g : Graph) (sound : IsSound g) where
  as_at : AllByRecursion (IsAsAt g) (shared_network g (latency_of_graph g))
  as_at =
      all_append (IsAsAt g) (map (along_nodes g) (live_connections g)) _
      (all_map (IsAsAt g) (along_nodes g) (live_connections g) (every _ (live_connections g) (λ c has. let n = names_in g sound c has in between_nodes g sound c.src.0 c.dst.0 n.0 n.1)))
      (all_append (IsAsAt g) (map to_mirror (live_connections g)) _
      (all_map (IsAsAt g) to_mirror (live_connections g) (all_of (λ c. IsAsAt g (to_mirror c)) (live_connections g) (λ c. refl)))
      (all_append (IsAsAt g) (map root_to (live_nodes g)) _
      (all_map (IsAsAt g) root_to (live_nodes g) (all_of (λ v. IsAsAt g (root_to v)) (live_nodes g) (λ v. refl)))
      (all_append (IsAsAt g) (ends_to_root g (latency_of_graph g)) _ (go (is_live g (input_name g)))
      (all_map (IsAsAt g) (mirror_to_root (latency_of_graph g)) (values g) (all_of (λ x. IsAsAt g (mirror_to_root (latency_of_graph g) x)) (values g) (λ x. refl))))))
    where
      last : neg_ℤ (pos (latency_of_graph g)) ≡ least_between g (output_name g) 0
      last = from_output g sound (output_name g) (output_named g sound) refl

      go : (b : Bool) → AllByRecursion (IsAsAt g)
          (cond b (record { tail = at_node (input_name g); head = at_node 0; least = pos 0 } ∷ []) [] ++ record { tail = at_node (output_name g); head = at_node 0; least = neg_ℤ (pos (latency_of_graph g)) } ∷ [])
      go true = (from_input g sound (input_name g) (ends_differ g sound), (last, tt))
      go false = (last, tt)

  pub shared_arc_found : (d : Difference Point) → Contains (shared_network g (latency_of_graph g)) d → shared_arc g (latency_of_graph g) d.tail d.head ≡ Some d
  shared_arc_found = found_between (shared_terms g) told_point itself_point (λ x y. least_at g x.uid x.channel y.uid y.channel) (shared_network g (latency_of_graph g)) as_at

-- ---- the points
module _ (g : Graph) (points : List ℕ) (are : ArePoints g points) where
  pub in_order : AllPairs IsPointBefore (shared_points g points)
  in_order =
      AllPairs_append IsPointBefore (map at_node points) (map mirror (values g))
      (AllPairs_map at_node IsPointBefore points (AllPairs-from_increasing points are.rising))
      (AllPairs_map mirror IsPointBefore (values g) (values_are_listed g).ascending)
      (λ x y hx hy.
      let u = Contains-from_map at_node points x hx in
      let w = Contains-from_map mirror (values g) y hy in
      subst (λ z. IsPointBefore z y) u.2 (subst (IsPointBefore (at_node u.0)) w.2 tt))

  first_there : (0 < length points) × (get_or points 0 0 ≡ 0)
  first_there = zero_first points are.rising (are.all 0 (inl refl))

  starts : (ps : List ℕ) → 0 < length ps → get_or ps 0 0 ≡ 0 → (0 < length (map at_node ps ++ map mirror (values g))) × (name_by (at_node 0) (map at_node ps ++ map mirror (values g)) 0 ≡ at_node 0)
  starts [] l e = absurd (omega arith)
  starts (v ∷ ps) l e = (omega arith, ap at_node e)

  pub are_names : AreNames (shared_terms g) (at_node 0) (shared_points g points)
  are_names = record {
    differ = λ i j lt l. apart (get_or (shared_points g points) i (at_node 0)) (get_or (shared_points g points) j (at_node 0)) (in_order i j (at_node 0) lt l);
    some = (starts points first_there.0 first_there.1).0;
    first = (starts points first_there.0 first_there.1).1;
  }

  pub node_named : (v : ℕ) → Contains points v → Contains (shared_points g points) (at_node v)
  node_named v has = Contains-append_left (map at_node points) (map mirror (values g)) (at_node v) (Contains-map at_node points v has)

  pub mirror_named : (x : Port) → Contains (values g) x → Contains (shared_points g points) (mirror x)
  mirror_named x has = Contains-append_right (map at_node points) (map mirror (values g)) (mirror x) (Contains-map mirror (values g) x has)
