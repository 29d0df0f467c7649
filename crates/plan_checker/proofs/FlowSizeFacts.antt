-- How many arcs a flow has.
use Rattle.std.proofs.Common.{◌≡◌, ℕ, ◌≤◌, ◌==◌, ◌&&◌, List, [], ◌∷◌, ◌++◌, length, map, get_or, refl, sym, ap, ◌∙◌, subst, cond, true, false, Bool, inl, inr, arith, Some, Contains, pos, neg_ℤ}
use Rattle.std.specs.Prelude.{AllPairs, IsSome}
use Rattle.std.specs.List.{find}
use Rattle.std.proofs.lemmas.Bool.{false≢true}
use Rattle.std.proofs.lemmas.Bool.Decides.{nat_tests}
use Rattle.std.proofs.lemmas.List.{length-append, length-map, get_or-map}
use Rattle.std.proofs.lemmas.List.Sums.{count_by-le-length, length-filter}
use Rattle.graph_model.specs.Graphs.{input_name, output_name}
use Rattle.graph_model.specs.Paths.{is_live, live_nodes, live_connections}
use Rattle.graph_model.specs.Sound.{Fits}
use Rattle.graph_model.specs.declared.graph.Connection.{Connection}
use Rattle.graph_model.specs.declared.graph.Graph.{Graph}
use Rattle.graph_model.specs.declared.graph.Node.{Node}
use Rattle.graph_model.proofs.PathLaws.{at_tail}
use Rattle.plan_model.specs.Certified.{AreArcs}
use Rattle.plan_model.specs.Flows.{IsBeforeArc, along, from_root, is_between, network, to_root}
use Rattle.plan_model.specs.Networks.{Difference}
use Rattle.plan_model.specs.declared.flow.Units.{Units}
use Rattle.plan_model.proofs.CertifiedLaws.{AllPairs_map}
use Rattle.plan_checker.proofs.PigeonholeFacts.{no_longer}

-- the ends of arcs, as pairs
abbrev Ends : Type 0
Ends = ℕ × ℕ

abbrev ends_of : Units → Ends
ends_of e = (e.tail, e.head)

abbrev ends_in : Difference ℕ → Ends
ends_in a = (a.tail, a.head)

pub few_live : (g : Graph) → Fits g → length (live_connections g) ≤ 8192
few_live g fits =
    let count = length-filter (λ (c : Connection). is_live g c.dst.0) g.connections in
    let most = count_by-le-length (λ (c : Connection). is_live g c.dst.0) g.connections in
    let all = fits.1 in
    omega arith

small_network : (g : Graph) (latency : ℕ) → Fits g → length (network g latency) ≤ 8706
small_network g latency fits =
    let connections = few_live g fits in
    let names = length-map g.nodes (λ (n : Node). n.uid.0) in
    let count = length-filter (is_live g) (map (λ n. n.uid.0) g.nodes) in
    let most = count_by-le-length (is_live g) (map (λ n. n.uid.0) g.nodes) in
    let nodes = fits.0 in
    let first = length-map (live_connections g) (along g) in
    let second = length-map (live_nodes g) from_root in
    let rest = ends (is_live g (input_name g)) in
    omega (arith, length-append (map (along g) (live_connections g)) (map from_root (live_nodes g) ++ to_root g latency), length-append (map from_root (live_nodes g)) (to_root g latency))
  where
    ends : (b : Bool) → length {A = Difference ℕ} (cond b (record { tail = input_name g; head = 0; least = pos 0 } ∷ []) [] ++ record { tail = output_name g; head = 0; least = neg_ℤ (pos latency) } ∷ []) ≤ 2
    ends true = omega arith
    ends false = omega arith

-- what is found between two points has them as its ends
found_ends : (t h : ℕ) (ds : List (Difference ℕ)) → IsSome (find (is_between t h) ds) → Contains (map ends_in ds) (t, h)
found_ends t h [] some = absurd (false≢true some)
found_ends t h (a ∷ ds) some = go ((a.tail == t) && (a.head == h)) refl some (found_ends t h ds)
  where
    both : (m n : ℕ) → ((m == t) && (n == h)) ≡ true → (m ≡ t) × (n ≡ h)
    both m n e = grind (arith, nat_tests)

    go : (b : Bool) → ((a.tail == t) && (a.head == h)) ≡ b → IsSome (cond b (Some a) (find (is_between t h) ds)) → (IsSome (find (is_between t h) ds) → Contains (map ends_in ds) (t, h))
        → Contains (map ends_in (a ∷ ds)) (t, h)
    go true e some rest = let q = both a.tail a.head e in (0, omega arith, λ i. (q.0 i, q.1 i))
    go false e some rest = at_tail (ends_in a) (t, h) (map ends_in ds) (rest some)

order_differs : (x y : Units) → IsBeforeArc x y → ends_of x ≡ ends_of y → ⊥
order_differs x y (inl l) same = let e = ap (λ (p : Ends). p.0) same in omega arith
order_differs x y (inr r) same = let e = ap (λ (p : Ends). p.1) same in let l = r.1 in omega arith

-- as many at most as the network has
pub few_arcs : (g : Graph) (latency : ℕ) (arcs : List Units) → Fits g → AreArcs g latency arcs → length arcs ≤ 16384
few_arcs g latency arcs fits are =
    let most = no_longer (map ends_of arcs) (map ends_in (network g latency)) (AllPairs_map ends_of (λ p q. p ≡ q → ⊥) arcs differ) there in
    let small = small_network g latency fits in
    let long = length-map arcs ends_of in
    let size = length-map (network g latency) ends_in in
    omega arith
  where
    differ : AllPairs (λ x y. ends_of x ≡ ends_of y → ⊥) arcs
    differ i j d lt l = order_differs (get_or arcs i d) (get_or arcs j d) (are.ascending i j d lt l)

    there : (p : Ends) → Contains (map ends_of arcs) p → Contains (map ends_in (network g latency)) p
    there p (k, lt, at) =
        let long = length-map arcs ends_of in
        let e : Units = record { tail = 0; head = 0; units = 0 } in
        let here : ends_of (get_or arcs k e) ≡ p = sym (get_or-map ends_of arcs k e p (omega arith)) ∙ at in
        subst (Contains (map ends_in (network g latency))) here (found_ends (get_or arcs k e).tail (get_or arcs k e).head (network g latency) (are.each k e (omega arith)).0)
